-- `explain::explain` meets its contract: 31, the refusals of the access question, and what explains its answer.
-- Assumes nothing.
use Prim.Native.Nat.{ℕ, ◌≤◌}
use mathlib.Core.Path.{◌≡◌, refl, sym, ap, ◌∙◌}
use mathlib.Core.Bool.{Bool, true, false, ◌&&◌, not}
use mathlib.Core.List.{List}
use native.Mathlib.Omega.{arith}
use borrow.Author.Tests.{lt-ltb, le-ltb}
use lib.ListN.{length}
use Rattle.std.proofs.Common.{Some, None}
use Rattle.state.specs.Checks.{first_met}
use Rattle.state.specs.Site.{Site, area, object, listed}
use Rattle.state.specs.Stands.{site}
use Rattle.state.proofs.Checks.{met, passed, none_met}
use Rattle.access.specs.Lending.{lending}
use Rattle.access.specs.Answer.{Answer, answer}
use Rattle.soundness.specs.Tests.{is_sound}
use Rattle.machine.specs.Step.{question_refusals}
use Rattle.output.specs.Buffer.{laid}
use Rattle.output.proofs.Buffer.{laid_front}
use Rattle.reasons.specs.Explanation.{Explanation, Unexplained, reason_bytes, explain_refusals, explain_refusal, which, explanation_of, explanation_number, explanation_bytes, explained_buffer, as_explained}
use Rattle.reasons.specs.declared.Explained.{Explained}
use Rattle.reasons.specs.declared.Explained.TheVariants.{Chain, Counts}
use Rattle.reasons.proofs.Laws.{refused_so, explained_so, reason_fits}
use Rattle.explain.proofs.explain.Goals as goal
use Rattle.explain.proofs.explain.Goals.{After-are_listed, Else-not-is_sound, Then-not-is_sound}

-- what is promised: of an explanation, with the number of its refusal
abbrev Promised : Site → (a b : ℕ) (before : List ℕ) (n : ℕ) (r : Explanation) (after : List ℕ) → Type 0
Promised s a b before n r after =
    (r ≡ explanation_of s a b before) × (n ≡ first_met (explain_refusals s a b before))
    × (n ≡ 0 → explanation_bytes r ≡ length (reason_bytes s a b)) × (after ≡ explained_buffer s a b before)

bytes_of : (x : Answer) (n : ℕ) → explanation_bytes (which x n) ≡ n
bytes_of (Some k) n = refl
bytes_of None n = refl

module _ (s : Site) (a b : ℕ) (buffer : List ℕ) where
  -- of a refusal, from its number
  refusing : (n : ℕ) → explain_refusal s a b buffer ≡ n → (n ≡ 0 → ⊥) → Promised s a b buffer n (Unexplained n) buffer
  refusing n e some = let so = refused_so s a b buffer n e some in (sym so.0, sym e, λ z. absurd (some z), sym so.1)

  module _ (room : 32 ≤ length buffer) where
    -- with the room the refusal is that of the access question
    as_question : explain_refusal s a b buffer ≡ first_met (question_refusals s a b)
    as_question = passed _ _ (le-ltb (length buffer) 32 room)

    asking : (n : ℕ) → first_met (question_refusals s a b) ≡ n → (n ≡ 0 → ⊥) → Promised s a b buffer n (Unexplained n) buffer
    asking n e some = refusing n (as_question ∙ e) some

    -- nothing is refused: what explains the answer explains the question
    answering : first_met (question_refusals s a b) ≡ 0 → (r : Explanation) (after : List ℕ)
        → r ≡ which (answer (lending s b) a) (length (reason_bytes s a b)) → after ≡ laid (reason_bytes s a b) 0 buffer → Promised s a b buffer 0 r after
    answering none r after f g =
        let so = explained_so s a b buffer (as_question ∙ none) in
        let fits : length (reason_bytes s a b) ≤ length buffer = omega (arith, reason_fits s a b) in (
          f ∙ sym so.0,
          sym (as_question ∙ none),
          λ z. ap explanation_bytes f ∙ bytes_of (answer (lending s b) a) _,
          g ∙ laid_front (reason_bytes s a b) buffer fits ∙ sym so.1,
        )

unrefused : (explained : Explained) → explanation_number (as_explained explained) ≡ 0
unrefused (Chain count) = refl
unrefused (Counts count) = refl

-- ---- what is known on the way
unsound : (c : Then-not-is_sound) → not (is_sound (site c.args.s.now)) ≡ true
unsound c = sym (ap not c.is_sound.ensures.equation) ∙ (ap not c.if-not-is_sound.true)

sound : (c : Else-not-is_sound) → not (is_sound (site c.args.s.now)) ≡ false
sound c = sym (ap not c.is_sound.ensures.equation) ∙ (ap not c.if-not-is_sound.false)

unlisted : (c : After-are_listed) (v : Bool) → not c.are_listed.result ≡ v
    → let x = c.args in not (listed (site x.s.now) area x.a && listed (site x.s.now) object x.b) ≡ v
unlisted c v e = sym (ap not c.are_listed.ensures) ∙ e

-- ---- what is returned
pub returns-then-buffer-lt-ROOM : goal.returns-then-buffer-lt-ROOM
returns-then-buffer-lt-ROOM c =
    let p = refusing _ _ _ _ 31 (met _ _ (lt-ltb _ 32 c.if-buffer-lt-ROOM.true)) (λ z. omega arith) in
    record { equation = p.0; number = p.1; bytes = p.2; buffer = p.3 }

pub returns-then-not-is_sound : goal.returns-then-not-is_sound
returns-then-not-is_sound c =
    let p = asking _ _ _ _ c.if-buffer-lt-ROOM.false 12 (met _ _ (unsound (goal.at.returns-then-not-is_sound c).Then-not-is_sound)) (λ z. omega arith) in
    record { equation = p.0; number = p.1; bytes = p.2; buffer = p.3 }

pub returns-then-not-a-b : goal.returns-then-not-a-b
returns-then-not-a-b c =
    let p = asking _ _ _ _ c.if-buffer-lt-ROOM.false 2 (passed _ _ (sound (goal.at.returns-then-not-a-b c).Else-not-is_sound) ∙ met _ _ (ap not c.if-not-a-b.true)) (λ z. omega arith) in
    record { equation = p.0; number = p.1; bytes = p.2; buffer = p.3 }

pub returns-then-not-are_listed : goal.returns-then-not-are_listed
returns-then-not-are_listed c =
    let p = asking _ _ _ _ c.if-buffer-lt-ROOM.false 4
    (passed _ _ (sound (goal.at.returns-then-not-are_listed c).Else-not-is_sound) ∙ passed _ _ (ap not c.if-not-a-b.false) ∙ met _ _ (unlisted (goal.at.returns-then-not-are_listed c).After-are_listed true (ap not c.if-not-are_listed.true))) (λ z. omega arith) in
    record { equation = p.0; number = p.1; bytes = p.2; buffer = p.3 }

pub returns : goal.returns
returns c =
    let p = answering (site c.args.s.now) _ _ _ c.if-buffer-lt-ROOM.false
    (passed _ _ (sound (goal.at.returns c).Else-not-is_sound) ∙ passed _ _ (ap not c.if-not-a-b.false) ∙ passed _ _ (unlisted (goal.at.returns c).After-are_listed false (ap not c.if-not-are_listed.false)) ∙ none_met)
    _ _ c.put_reason.ensures.equation c.put_reason.ensures.buffer in
    record { equation = p.0; number = unrefused _ ∙ p.1; bytes = λ z. p.2 refl; buffer = p.3 }
