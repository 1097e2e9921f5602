-- The claims of specs/Claims.antt and the laws of specs/Laws.antt, each proved under its name.
-- Assumes nothing.
use Prim.Native.Nat.{ℕ, ◌+◌, ◌-◌, ◌≤◌, ◌<◌}
use mathlib.Core.Path.{◌≡◌, refl, sym, ap, subst, ◌∙◌}
use mathlib.Core.Logic.{◌↔◌, ◌⊎◌, inl, inr}
use mathlib.Core.Bool.{false, not}
use mathlib.Core.List.{List, ◌++◌}
use native.Mathlib.Omega.{arith}
use native.Mathlib.Decide.{ℕ_discrete, dec_lt}
use borrow.Author.Tests.{lt-ltb, le-ltb, eq-eqb, ne_eqb, eqb-true}
use lib.Dec.{T, eqb}
use lib.ListN.{length, take, drop, get_or, length-append, length-drop, get_or-append}
use lib.Seq.{take-append_seam, drop-append_seam}
use Rattle.std.proofs.Common.{Some, None}
use Rattle.state.specs.Checks.{first_met}
use Rattle.state.specs.Site.{Site, import, export, Shaped}
use Rattle.state.proofs.Bools.{is_true, fails, so, test}
use Rattle.state.proofs.Checks.{met, passed}
use Rattle.access.specs.Lending.{Lending, lending, step}
use Rattle.access.specs.Chain.{Shortest}
use Rattle.access.specs.Answer.{Answer, answer, access, answer_number, least_counts}
use Rattle.access.specs.Claims.{Right, is_steps}
use Rattle.access.proofs.Laws.{answer_is_right, access_is_steps, count_is_answer, access_is_count, counts_length}
use Rattle.chains.specs.First.{first_chain}
use Rattle.chains.proofs.Laws.{first_is_first, nine_at_most}
use Rattle.instructions.specs.Decode.{decode_of}
use Rattle.successors.specs.Successor.{successor_of}
use Rattle.soundness.specs.Tests.{is_valid}
use Rattle.machine.specs.Step.{question_refusals, refused_or, reply_number, step_refusal, step_of}
use Rattle.machine.proofs.Laws.{number_is_refusal, reply_by_first}
use Rattle.reasons.specs.Explanation.{ByChain, ByCounts, bytes_for, reason_bytes, explain_refusal, explanation_of, explanation_number, explanation_bytes, explained_buffer}
use Rattle.reasons.specs.Lost.{some_lost, first_lost, step_reason_of}
use Rattle.reasons.specs.Claims
use Rattle.reasons.specs.Claims.{ChainThere, CountsThere, NamedIn}
use Rattle.reasons.specs.Laws
use Rattle.reasons.proofs.Cases.{in_front, Explained, refused, by_chain, by_counts, explained}
use Rattle.reasons.proofs.Cases
use Rattle.reasons.proofs.Losing
use Rattle.reasons.proofs.Losing.{first_of, none_lost, some_of, given_shaped, eleven_invalid}

pub refused_so : Laws.RefusedSo
refused_so = Cases.refused_so

pub explained_so : Laws.ExplainedSo
explained_so = Cases.explained_so

pub reason_so : Laws.ReasonSo
unfolding step_reason_of
reason_so s x = refl

pub lost_of_one : Laws.LostOfOne
lost_of_one = Losing.lost_of_one

pub lost_is_own : Laws.LostIsOwn
lost_is_own = Losing.lost_is_own

pub eleven_removes : Laws.ElevenRemoves
eleven_removes = Losing.eleven_removes

-- ---- access, by the answer
has_access : (l : Lending) (a k : ℕ) → answer l a ≡ Some k → T (access l a)
has_access l a k e = subst T (sym (access_is_steps l a ∙ ap is_steps e)) tt

no_access : (l : Lending) (a : ℕ) → answer l a ≡ None → access l a ≡ false
no_access l a e = access_is_steps l a ∙ ap is_steps e

-- ---- an area and an object
pub chain_is_true : Claims.ChainIsTrue
chain_is_true s a b buffer n e = go (explained s a b buffer)
  where
    go : Explained s a b buffer → ChainThere s a b buffer n
    go (refused f r w) = absurd (cc (sym r ∙ e))
    go (by_counts z x r w) = absurd (cc (sym e ∙ r))
    go (by_chain k z x r w) =
        let l = lending s b in
        let size : n ≡ length (first_chain l a) = ap explanation_bytes (sym e ∙ r) in
        let front : take n (explained_buffer s a b buffer) ≡ first_chain l a = rw (w, size) (take-append_seam (first_chain l a) _) in
        record {
          sized = ap length front ∙ sym size;
          first = rw front (first_is_first l a (has_access l a k x));
          past = rw (w, size) (drop-append_seam (first_chain l a) _);
        }

-- the least counts in front of a buffer
module _ (l : Lending) (rest : List ℕ) where
  count_in : (c : ℕ) → c < 32 → get_or (least_counts l ++ rest) c 0 ≡ get_or (least_counts l) c 0
  count_in c h = get_or-append (least_counts l) rest 0 c (rw (counts_length l) h)

  count_least : (c : ℕ) → c < 32 → T (access l c) → Shortest l.defined_in (step l) c (get_or (least_counts l ++ rest) c 0)
  count_least c h t = rw (count_in c h ∙ count_is_answer l c h) (go (answer l c) (answer_is_right l c) (subst T (access_is_steps l c) t))
    where
      go : (x : Answer) → Right l c x → T (is_steps x) → Shortest l.defined_in (step l) c (answer_number x)
      go (Some k) r t = r.shortest
      go None r t = absurd t

  count_none : (c : ℕ) → c < 32 → (get_or (least_counts l ++ rest) c 0 ≡ 255) ↔ (access l c ≡ false)
  count_none c h = (
    λ e. access_is_count l c h ∙ ap not (eq-eqb _ 255 (sym (count_in c h) ∙ e)),
    λ far. let n = get_or (least_counts l) c 0 in count_in c h ∙ eqb-true n 255 (is_true _ (so (eqb n 255) (sym (access_is_count l c h) ∙ far))),
  )

pub counts_are_true : Claims.CountsAreTrue
counts_are_true s a b buffer n e = go (explained s a b buffer)
  where
    go : Explained s a b buffer → CountsThere s a b buffer n
    go (refused f r w) = absurd (cc (sym r ∙ e))
    go (by_chain k z x r w) = absurd (cc (sym r ∙ e))
    go (by_counts z x r w) =
        let l = lending s b in
        let rest = drop (length (least_counts l)) buffer in
        let size : n ≡ length (least_counts l) = ap explanation_bytes (sym e ∙ r) in
        record {
          sized = size ∙ counts_length l;
          least = λ c h t. rw w (count_least l rest c h t);
          none = λ c h. rw w (count_none l rest c h);
          past = rw (w, size) (drop-append_seam (least_counts l) _);
        }

pub chain_exactly : Claims.ChainExactly
chain_exactly s a b buffer = go (explained s a b buffer)
  where
    go : Explained s a b buffer
        → ((n : ℕ) × (explanation_of s a b buffer ≡ ByChain n)) ↔ ((explain_refusal s a b buffer ≡ 0) × T (access (lending s b) a))
    go (refused f r w) = (λ c. absurd (cc (sym r ∙ c.1)), λ c. absurd (f c.0))
    go (by_counts z x r w) =
        (λ c. absurd (cc (sym c.1 ∙ r)), λ c. absurd (fails (no_access (lending s b) a x) c.1))
    go (by_chain k z x r w) = (λ c. (z, has_access (lending s b) a k x), λ c. (length (first_chain (lending s b) a), r))

pub counts_exactly : Claims.CountsExactly
counts_exactly s a b buffer = go (explained s a b buffer)
  where
    go : Explained s a b buffer
        → ((n : ℕ) × (explanation_of s a b buffer ≡ ByCounts n)) ↔ ((explain_refusal s a b buffer ≡ 0) × (access (lending s b) a ≡ false))
    go (refused f r w) = (λ c. absurd (cc (sym r ∙ c.1)), λ c. absurd (f c.0))
    go (by_counts z x r w) = (λ c. (z, no_access (lending s b) a x), λ c. (length (least_counts (lending s b)), r))
    go (by_chain k z x r w) =
        (λ c. absurd (cc (sym r ∙ c.1)), λ c. absurd (fails c.1 (has_access (lending s b) a k x)))

pub explain_order : Claims.ExplainOrder
explain_order s a b buffer = refl

pub short_buffer_is_31 : Claims.ShortBufferIs31
short_buffer_is_31 s a b buffer h =
    (refused_so s a b buffer 31 (met _ _ (lt-ltb (length buffer) 32 h)) (λ z. omega arith)).0

-- the number of an explanation is the first refusal that is met
pub number_is_first : (s : Site) (a b : ℕ) (buffer : List ℕ) → explanation_number (explanation_of s a b buffer) ≡ explain_refusal s a b buffer
number_is_first s a b buffer = go (explained s a b buffer)
  where
    go : Explained s a b buffer → explanation_number (explanation_of s a b buffer) ≡ explain_refusal s a b buffer
    go (refused f r w) = ap explanation_number r
    go (by_counts z x r w) = ap explanation_number r ∙ sym z
    go (by_chain k z x r w) = ap explanation_number r ∙ sym z

pub refused_as_question : Claims.RefusedAsQuestion
refused_as_question s a b buffer h =
    number_is_first s a b buffer ∙ passed _ _ (le-ltb (length buffer) 32 h)
    ∙ sym (ap reply_number (reply_by_first s a b) ∙ go (ℕ_discrete (first_met (question_refusals s a b)) 0))
  where
    n : ℕ
    n = first_met (question_refusals s a b)

    go : Dec (n ≡ 0) → reply_number (refused_or n (answer (lending s b) a)) ≡ n
    go (yes e) = rw e refl
    go (no f) = rw (ne_eqb n 0 f) refl

pub refusal_writes_none : Claims.RefusalWritesNone
refusal_writes_none s a b buffer n e = go (explained s a b buffer)
  where
    go : Explained s a b buffer → explained_buffer s a b buffer ≡ buffer
    go (refused f r w) = w
    go (by_counts z x r w) = absurd (cc (sym e ∙ r))
    go (by_chain k z x r w) = absurd (cc (sym e ∙ r))

pub reason_fits : Laws.ReasonFits
reason_fits s a b = go (answer (lending s b) a)
  where
    go : (x : Answer) → length (bytes_for (lending s b) a x) ≤ 32
    go (Some k) = let most = nine_at_most (lending s b) a in omega arith
    go None = let size = counts_length (lending s b) in omega arith

-- what is not refused has the room
roomy : (s : Site) (a b : ℕ) (buffer : List ℕ) → explain_refusal s a b buffer ≡ 0 → 32 ≤ length buffer
roomy s a b buffer e = go (dec_lt (length buffer) 32)
  where
    go : Dec (length buffer < 32) → 32 ≤ length buffer
    go (yes h) = let short : explain_refusal s a b buffer ≡ 31 = met _ _ (lt-ltb (length buffer) 32 h) in absurd (omega arith)
    go (no h) = omega arith

pub buffer_length : Claims.BufferLength
buffer_length s a b buffer = go (ℕ_discrete (explain_refusal s a b buffer) 0)
  where
    go : Dec (explain_refusal s a b buffer ≡ 0) → length (explained_buffer s a b buffer) ≡ length buffer
    go (no f) = ap length (refused_so s a b buffer (explain_refusal s a b buffer) refl f).1
    go (yes e) =
        let text = reason_bytes s a b in
        let both : length (in_front text buffer) ≡ length text + length (drop (length text) buffer) = length-append text (drop (length text) buffer) in
        let left : length (drop (length text) buffer) ≡ length buffer - length text = length-drop (length text) buffer in
        let fits = reason_fits s a b in
        let room = roomy s a b buffer e in
        ap length (explained_so s a b buffer e).1 ∙ omega arith

-- ---- an instruction
pub own_number : Claims.OwnNumber
unfolding step_reason_of
own_number s x = sym (number_is_refusal s x)

-- the pair that is named in a state that is not valid
named : (t : Site) → Shaped t → is_valid t ≡ false → NamedIn t (first_lost t)
unfolding first_lost
named t shaped invalid = go (test (some_lost t import)) (test (some_lost t export))
  where
    go : T (some_lost t import) ⊎ (some_lost t import ≡ false) → T (some_lost t export) ⊎ (some_lost t export ≡ false) → NamedIn t (first_lost t)
    go (inl i) e = rw (is_true (some_lost t import) i) (first_of t import shaped refl i)
    go (inr i) (inl e) = rw (i, is_true (some_lost t export) e) (first_of t export shaped refl e, none_lost t import shaped refl i)
    go (inr i) (inr e) = absurd (some_of t shaped invalid i e)

pub named_is_first : Claims.NamedIsFirst
named_is_first s shaped x e =
    let t = successor_of s x (decode_of x) in
    let number : step_refusal s x ≡ 11 = sym (number_is_refusal s x) ∙ e in
    rw (reason_so s x, number) (named t (given_shaped s x (decode_of x) shaped) (eleven_invalid s x number))

pub pair_exactly : Claims.PairExactly
pair_exactly s shaped x = (there (ℕ_discrete (step_of s x).refusal 11), λ e none. rw none at (named_is_first s shaped x e))
  where
    there : Dec ((step_of s x).refusal ≡ 11) → ((step_reason_of s x).lost ≡ None → ⊥) → (step_of s x).refusal ≡ 11
    there (yes e) some = e
    there (no f) some =
        absurd (some (rw (reason_so s x, ne_eqb (step_refusal s x) 11 (λ e. f (number_is_refusal s x ∙ e))) refl))
