-- The step, the list of steps, and the access question.
use Rattle.std.specs.Prelude.{ℕ, ◌≡◌, not, ◌&&◌, cond, Result, Ok, Err, List, [], ◌∷◌, eqb, ltb}
use Rattle.verdicts.specs.Refusals.{number}
use Rattle.verdicts.specs.declared.Refusal.{Refusal}
use Rattle.state.specs.Site.{Site, area, object, limit, listed, Verdict, verdict}
use Rattle.access.specs.Lending.{lending}
use Rattle.access.specs.Answer.{Answer, answer, unreached, answer_number}
use Rattle.access.specs.Claims.{Right}
use Rattle.soundness.specs.Tests.{is_sound}
use Rattle.instructions.specs.Instructions.{Bytes}
use Rattle.instructions.specs.Decode.{decode_of}
use Rattle.successors.specs.Successor.{successor_of}
use Rattle.state.specs.Checks.{Check, ◌when◌, first_met}
use Rattle.refusals.specs.Refusals.{refusals}

-- ---- the step
-- the number of the refusal, 0 for an instruction that is accepted
unfoldable pub step_refusal : Site → Bytes → ℕ
step_refusal s bytes = first_met (refusals s bytes)

-- the next state where the number is 0; "The state after a refusal is the state given."
abbrev pub decided : (given next : Site) → (number : ℕ) → Verdict
decided given next number = verdict number (cond (eqb number 0) next given)

-- four bytes and a record, of any content: one successor state or one refusal number
unfoldable pub step_of : Site → Bytes → Verdict
step_of s bytes = decided s (successor_of s bytes (decode_of bytes)) (step_refusal s bytes)

-- the state after a list of instructions
unfoldable pub run : Site → List Bytes → Site
run s [] = s
run s (bytes ∷ rest) = run (step_of s bytes).state rest

-- each instruction of a list is accepted, in the state that those before it give
pub data EachAccepted : Site → List Bytes → Type 0 where
  accepted_none : {s : Site} → EachAccepted s []
  accepted_next : {s : Site} {x : Bytes} {rest : List Bytes} → (step_of s x).refusal ≡ 0
      → EachAccepted (step_of s x).state rest → EachAccepted s (x ∷ rest)

-- ---- the access question
-- "Refusals 12, 2, 4 apply in that order, with the same conditions for a and b."
abbrev pub question_refusals : Site → (a b : ℕ) → List Check
question_refusals s a b =
    (12 when not (is_sound s))
    ∷ (2 when not (ltb a (limit area) && ltb b (limit object)))
    ∷ (4 when not (listed s area a && listed s object b))
    ∷ []

abbrev pub question_numbers : List ℕ
question_numbers = 12 ∷ 2 ∷ 4 ∷ []

-- the number of the question's refusal, or the answer
pub data Reply : Type 0 where
  Refused : ℕ → Reply
  Answered : Answer → Reply

-- the reply that the code's result stands for
abbrev pub as_reply : Result Answer Refusal → Reply
as_reply (Ok x) = Answered x
as_reply (Err refusal) = Refused (number refusal)

-- the refusal with its number, or with none, which is 0, the answer
abbrev pub refused_or : (n : ℕ) → Answer → Reply
refused_or n x = cond (eqb n 0) (Answered x) (Refused n)

unfoldable pub reply_of : Site → (a b : ℕ) → Reply
reply_of s a b = refused_or (first_met (question_refusals s a b)) (answer (lending s b) a)

-- the paper's number for each case, 0 for an answer
abbrev pub reply_number : Reply → ℕ
reply_number (Refused n) = n
reply_number (Answered x) = 0

-- and its value: the number of an answer; beside a refusal that of 'no access', so that nobody reads steps there
abbrev pub reply_value : Reply → ℕ
reply_value (Refused n) = unreached
reply_value (Answered x) = answer_number x

-- an answer is the least number of steps, or no chain is so short (access, Right); a refusal has its number alone
abbrev pub AnswerMeans : Site → (a b : ℕ) → Reply → Type 0
AnswerMeans s a b (Refused n) = Unit
AnswerMeans s a b (Answered x) = Right (lending s b) a x
