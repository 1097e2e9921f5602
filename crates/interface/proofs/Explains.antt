-- The claims of specs/ExplainClaims.antt, each proved under its name.
-- Assumes nothing.
use Prim.Native.Nat.{ℕ, suc, ◌+◌, ◌/◌, ◌%◌, ◌≤◌, ◌<◌}
use mathlib.Core.Path.{◌≡◌, refl, sym, ap, ◌∙◌}
use mathlib.Core.Logic.{◌↔◌, ◌⊎◌, inl, inr}
use mathlib.Core.Bool.{◌&&◌, ◌||◌, not}
use mathlib.Core.List.{List}
use native.Mathlib.Omega.{arith}
use native.Mathlib.Decide.{ℕ_discrete}
use borrow.Author.Tests.{lt-ltb, le-ltb, ne_eqb}
use Rattle.std.specs.Prelude.{Option, Some, None}
use lib.Dec.{T, eqb, ltb, ltb→lt, eqb→eq}
use lib.ListN.{length}
use Rattle.state.specs.Checks.{first_met, among}
use Rattle.state.specs.Site.{Site, object, limit, Relation, first_kind, import, export, Shaped}
use Rattle.state.proofs.Bools.{and_both, or_left, or_cases, holds}
use Rattle.state.proofs.Checks.{met, passed, first_meets, among_meets}
use Rattle.state.proofs.Laws.{related_inside}
use Rattle.access.specs.Lending.{lending}
use Rattle.access.specs.Answer.{Answer, answer, answer_number}
use Rattle.access.proofs.Laws.{never_above, counts_length}
use Rattle.chains.proofs.Laws.{first_length}
use Rattle.records.specs.Record.{state_of}
use Rattle.records.proofs.Laws.{state_shaped, state_of_bytes}
use Rattle.instructions.specs.Instructions.{Bytes}
use Rattle.instructions.specs.Decode.{decode_of}
use Rattle.successors.specs.Successor.{successor_of}
use Rattle.machine.specs.Step.{question_refusals, question_numbers, refused_or, step_refusal, step_of}
use Rattle.machine.proofs.Laws.{reply_by_first, number_is_refusal, two_digits, unsound_refused}
use Rattle.reasons.specs.Explanation.{explain_refusals, explain_numbers, explain_refusal, ByChain, ByCounts, explanation_of, explained_buffer}
use Rattle.reasons.specs.declared.Lost.{Lost}
use Rattle.reasons.specs.declared.Lost.TheVariants.{Import as LostImport, Export as LostExport}
use Rattle.reasons.specs.Lost.{reason_for, lost_kind, lost_object, lost_area, StepReason, step_reason_of}
use Rattle.reasons.specs.Claims.{ChainThere, CountsThere, LostPair, NamedIn}
use Rattle.reasons.proofs.Cases.{Explained, refused, by_chain, by_counts, explained}
use Rattle.reasons.proofs.Laws.{refused_so, reason_so, chain_is_true, counts_are_true, short_buffer_is_31, own_number, named_is_first}
use Rattle.reasons.proofs.Losing.{given_shaped}
use Rattle.interface.specs.Interface.{step_number, answer_of, access_number, explanation_code, explain_answer, explain_buffer, lost_code, lost_of_parts, reason_code}
use Rattle.interface.specs.ExplainClaims
use Rattle.interface.specs.ExplainClaims.{is_explain_answer, ReasonParts}
use Rattle.interface.proofs.Steps

-- ---- an area and an object
pub explain_is_explain : ExplainClaims.ExplainIsExplain
explain_is_explain s h a b into =
    record {
      answer = ap (λ (t : Site). explanation_code (explanation_of t a b into)) (state_of_bytes s h);
      bytes = ap (λ (t : Site). explained_buffer t a b into) (state_of_bytes s h);
    }

module _ (s : Site) (a b : ℕ) (into : List ℕ) where
  -- a number that is refused is one of the list
  a_number : (explain_refusal s a b into ≡ 0 → ⊥) → T (among (explain_refusal s a b into) explain_numbers)
  a_number some = go (or_cases (eqb n 0) (among n explain_numbers) (first_meets (λ k. eqb k 0 || among k explain_numbers) (explain_refusals s a b into) tt tt))
    where
      n : ℕ
      n = explain_refusal s a b into

      go : T (eqb n 0) ⊎ T (among n explain_numbers) → T (among n explain_numbers)
      go (inl z) = absurd (some (eqb→eq n 0 z))
      go (inr t) = t

-- what an explanation and the access question answer, case by case
pub data Answered (s : Site) (a b : ℕ) (into : List ℕ) : Type 0 where
  as_refusal : (n : ℕ) → T (among n explain_numbers) → explain_refusal s a b into ≡ n → explanation_code (explanation_of s a b into) ≡ 256 + n
      → explained_buffer s a b into ≡ into → Answered s a b into
  as_chain : (k : ℕ) → k ≤ 8 → explain_refusal s a b into ≡ 0 → answer (lending s b) a ≡ Some k → explanation_of s a b into ≡ ByChain (suc k) → Answered s a b into
  as_counts : explain_refusal s a b into ≡ 0 → answer (lending s b) a ≡ None → explanation_of s a b into ≡ ByCounts 32 → Answered s a b into

pub answered : (s : Site) (a b : ℕ) (into : List ℕ) → Answered s a b into
answered s a b into = go (explained s a b into)
  where
    go : Explained s a b into → Answered s a b into
    go (refused f r w) = as_refusal (explain_refusal s a b into) (a_number s a b into f) refl (ap explanation_code r) w
    go (by_chain k z x r w) =
        as_chain k (never_above (lending s b) a k x) z x (r ∙ ap ByChain (first_length (lending s b) a k x))
    go (by_counts z x r w) = as_counts z x (r ∙ ap ByCounts (counts_length (lending s b)))

-- a number of the list is a small one
small : (n : ℕ) → T (among n explain_numbers) → n < 32
small n t = ltb→lt n 32 (among_meets (λ k. ltb k 32) explain_numbers n tt t)

-- 1 to 9 is an answer
chain_answer : (k : ℕ) → k ≤ 8 → T (is_explain_answer (suc k))
chain_answer k h =
    let n = suc k in
    let here : T (ltb 0 n && ltb n 10) = and_both (ltb 0 n) (ltb n 10) (holds (lt-ltb 0 n (omega arith))) (holds (lt-ltb n 10 (omega arith))) in
    or_left (ltb 0 n && ltb n 10 || eqb n 544) _ (or_left (ltb 0 n && ltb n 10) (eqb n 544) here)

pub explain_answers : ExplainClaims.ExplainAnswers
explain_answers buffer a b into = go (answered (state_of buffer) a b into)
  where
    go : Answered (state_of buffer) a b into → T (is_explain_answer (explain_answer buffer a b into))
    go (as_refusal n t z e w) = rw e (among_meets (λ k. is_explain_answer (256 + k)) explain_numbers n tt t)
    go (as_chain k h z x e) = rw e (chain_answer k h)
    go (as_counts z x e) = rw e tt

pub explained_by_chain : ExplainClaims.ExplainedByChain
explained_by_chain buffer a b into h = go (answered (state_of buffer) a b into)
  where
    go : Answered (state_of buffer) a b into → ChainThere (state_of buffer) a b into (explain_answer buffer a b into)
    go (as_refusal n t z e w) = absurd (omega (arith, e))
    go (as_chain k m z x e) = rw e (chain_is_true (state_of buffer) a b into (suc k) e)
    go (as_counts z x e) = let code = ap explanation_code e in absurd (omega arith)

pub explained_by_counts : ExplainClaims.ExplainedByCounts
explained_by_counts buffer a b into h = go (answered (state_of buffer) a b into)
  where
    go : Answered (state_of buffer) a b into → CountsThere (state_of buffer) a b into 32
    go (as_refusal n t z e w) = let few = small n t in absurd (omega arith)
    go (as_chain k m z x e) = let code = ap explanation_code e in absurd (omega arith)
    go (as_counts z x e) = counts_are_true (state_of buffer) a b into 32 e

-- ---- beside the access question
module _ (buffer : List ℕ) (a b : ℕ) (into : List ℕ) (room : 32 ≤ length into) where
  -- the refusals are the same
  same_refusal : explain_refusal (state_of buffer) a b into ≡ first_met (question_refusals (state_of buffer) a b)
  same_refusal = passed _ _ (le-ltb (length into) 32 room)

  -- what the access question answers
  asked : (n : ℕ) → explain_refusal (state_of buffer) a b into ≡ n → access_number buffer a b ≡ answer_of (refused_or n (answer (lending (state_of buffer) b) a))
  asked n e =
      Steps.reply_is buffer a b ∙ ap answer_of (reply_by_first (state_of buffer) a b)
      ∙ ap (λ (k : ℕ). answer_of (refused_or k (answer (lending (state_of buffer) b) a))) (sym same_refusal ∙ e)

  asked_refused : (n : ℕ) → (n ≡ 0 → ⊥) → explain_refusal (state_of buffer) a b into ≡ n → access_number buffer a b ≡ 256 + n
  asked_refused n some e = asked n e ∙ rw (ne_eqb n 0 some) refl

  asked_answered : explain_refusal (state_of buffer) a b into ≡ 0 → (x : Answer) → answer (lending (state_of buffer) b) a ≡ x → access_number buffer a b ≡ answer_number x
  asked_answered z x e = asked 0 z ∙ ap answer_number e

-- the two answers side by side
pub data Beside (buffer : List ℕ) (a b : ℕ) (into : List ℕ) : Type 0 where
  both_refused : (n : ℕ) → n < 32 → access_number buffer a b ≡ 256 + n → explain_answer buffer a b into ≡ 256 + n → Beside buffer a b into
  both_steps : (k : ℕ) → k ≤ 8 → access_number buffer a b ≡ k → explain_answer buffer a b into ≡ suc k → Beside buffer a b into
  both_none : access_number buffer a b ≡ 255 → explain_answer buffer a b into ≡ 512 + 32 → Beside buffer a b into

beside : (buffer : List ℕ) (a b : ℕ) (into : List ℕ) → 32 ≤ length into → Beside buffer a b into
beside buffer a b into room = go (answered (state_of buffer) a b into)
  where
    go : Answered (state_of buffer) a b into → Beside buffer a b into
    go (as_refusal n t z e w) = both_refused n (small n t) (asked_refused buffer a b into room n (λ q. some n t q) z) e
      where
        some : (n : ℕ) → T (among n explain_numbers) → n ≡ 0 → ⊥
        some n t q = rw q at t
    go (as_chain k h z x e) = both_steps k h (asked_answered buffer a b into room z (Some k) x) (ap explanation_code e)
    go (as_counts z x e) = both_none (asked_answered buffer a b into room z None x) (ap explanation_code e)

pub chain_where_steps : ExplainClaims.ChainWhereSteps
chain_where_steps buffer a b into room n short = go (beside buffer a b into room)
  where
    go : Beside buffer a b into → (access_number buffer a b ≡ n) ↔ (explain_answer buffer a b into ≡ suc n)
    go (both_refused m h x y) = (λ e. absurd (omega arith), λ e. absurd (omega arith))
    go (both_steps k h x y) = (λ e. omega arith, λ e. omega arith)
    go (both_none x y) = (λ e. absurd (omega arith), λ e. absurd (omega arith))

pub counts_where_none : ExplainClaims.CountsWhereNone
counts_where_none buffer a b into room = go (beside buffer a b into room)
  where
    go : Beside buffer a b into → (access_number buffer a b ≡ 255) ↔ (explain_answer buffer a b into ≡ 512 + 32)
    go (both_refused m h x y) = (λ e. absurd (omega arith), λ e. absurd (omega arith))
    go (both_steps k h x y) = (λ e. absurd (omega arith), λ e. absurd (omega arith))
    go (both_none x y) = (λ e. y, λ e. x)

pub refused_as_access : ExplainClaims.RefusedAsAccess
refused_as_access buffer a b into room n t = go (beside buffer a b into room)
  where
    few : n < 32
    few = ltb→lt n 32 (among_meets (λ k. ltb k 32) question_numbers n tt t)

    go : Beside buffer a b into → (access_number buffer a b ≡ 256 + n) ↔ (explain_answer buffer a b into ≡ 256 + n)
    go (both_refused m h x y) = (λ e. omega arith, λ e. omega arith)
    go (both_steps k h x y) = (λ e. absurd (omega arith), λ e. absurd (omega arith))
    go (both_none x y) = (λ e. absurd (omega arith), λ e. absurd (omega (arith, few)))

pub short_explain_is_31 : ExplainClaims.ShortExplainIs31
short_explain_is_31 buffer a b into h = ap explanation_code (short_buffer_is_31 (state_of buffer) a b into h)

pub refused_explain_same_bytes : ExplainClaims.RefusedExplainSameBytes
refused_explain_same_bytes buffer a b into n t e = go (answered (state_of buffer) a b into)
  where
    go : Answered (state_of buffer) a b into → explain_buffer buffer a b into ≡ into
    go (as_refusal m u z f w) = w
    go (as_chain k h z x f) = let code = ap explanation_code f in absurd (omega arith)
    go (as_counts z x f) = let code = ap explanation_code f in let few = small n t in absurd (omega arith)

pub no_record_unexplained : ExplainClaims.NoRecordUnexplained
no_record_unexplained buffer a b into none room =
    ap explanation_code
    (refused_so (state_of buffer) a b into 12 (passed _ _ (le-ltb (length into) 32 room) ∙ met _ _ (ap not (Steps.unsound buffer none))) (λ z. omega arith)).0

-- ---- an instruction
pub explain_step_is_reason : ExplainClaims.ExplainStepIsReason
explain_step_is_reason s h x = ap (λ (t : Site). reason_code (step_reason_of t x)) (state_of_bytes s h)

pub no_record_no_reason : ExplainClaims.NoRecordNoReason
no_record_no_reason buffer x none =
    let number : step_refusal (state_of buffer) x ≡ 12 = sym (number_is_refusal (state_of buffer) x) ∙ unsound_refused (state_of buffer) x (Steps.unsound buffer none) in
    ap reason_code (reason_so (state_of buffer) x ∙ ap (λ (n : ℕ). reason_for n (successor_of (state_of buffer) x (decode_of x))) number)

-- a pair that is named has small numbers, and can be told from its code
module _ (t : Site) (shaped : Shaped t) where
  entry_small : (r : Relation) → (first_kind r ≡ object) → (o a : ℕ) → LostPair t r o a → (o < 256) × (a < 256)
  entry_small r kind o a p =
      let inside = related_inside t r o a shaped p.left in
      let first : o < limit object = rw kind at inside.0 in
      (omega arith, omega (arith, inside.1))

  lost_small : (x : Option Lost) → NamedIn t x → (lost_kind x < 256) × ((lost_object x < 256) × (lost_area x < 256))
  lost_small None n = absurd n
  lost_small (Some (LostImport e)) n = (omega arith, entry_small import refl e.object e.area n.lost)
  lost_small (Some (LostExport e)) n = (omega arith, entry_small export refl e.object e.area n.0.lost)

lost_again : (x : Option Lost) → lost_of_parts (lost_kind x) (lost_object x) (lost_area x) ≡ x
lost_again None = refl
lost_again (Some (LostImport e)) = refl
lost_again (Some (LostExport e)) = refl

-- no pair beside another number than 11
no_pair : (s : Site) (x : Bytes) → ((step_of s x).refusal ≡ 11 → ⊥) → (step_reason_of s x).lost ≡ None
no_pair s x f = rw (reason_so s x, ne_eqb (step_refusal s x) 11 (λ e. f (number_is_refusal s x ∙ e))) refl

pub explain_step_parts : ExplainClaims.ExplainStepParts
explain_step_parts buffer x = go (ℕ_discrete (step_of s x).refusal 11)
  where
    s : Site
    s = state_of buffer

    r : StepReason
    r = step_reason_of s x

    number : r.refusal ≡ (step_of s x).refusal
    number = own_number s x

    few : r.refusal < 256
    few = omega (arith, two_digits s x, number)

    known : step_number buffer x ≡ (step_of s x).refusal
    known = Steps.number_is (Steps.steps x) buffer

    go : Dec ((step_of s x).refusal ≡ 11) → ReasonParts buffer x (reason_code r)
    go (yes e) =
        let named = named_is_first s (state_shaped buffer) x e in
        let lows = lost_small (successor_of s x (decode_of x)) (given_shaped s x (decode_of x) (state_shaped buffer)) r.lost named in
        let kind : reason_code r / 256 % 256 ≡ lost_kind r.lost = omega (arith, few, lows.0, lows.1.0, lows.1.1) in
        let first : reason_code r / 65536 % 256 ≡ lost_object r.lost = omega (arith, few, lows.0, lows.1.0, lows.1.1) in
        let second : reason_code r / 16777216 ≡ lost_area r.lost = omega (arith, few, lows.0, lows.1.0, lows.1.1) in
        let low : reason_code r % 256 ≡ r.refusal = omega (arith, few) in
        record {
          number = low ∙ number ∙ sym known;
          none = λ f. absurd (f (low ∙ number ∙ e));
          pair = λ q. rw (kind, first, second, lost_again r.lost) named;
        }
    go (no f) =
        let none : r.lost ≡ None = no_pair s x f in
        let code : lost_code r.lost ≡ 0 = ap lost_code none in
        let low : reason_code r % 256 ≡ r.refusal = omega (arith, few) in
        record {
          number = low ∙ number ∙ sym known;
          none = λ q. omega (arith, few);
          pair = λ q. absurd (f (sym number ∙ sym low ∙ q));
        }
