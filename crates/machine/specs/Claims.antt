-- What is claimed of the step and of the access question. Each claim is a type, which proofs/Laws.antt inhabits under
-- the claim's name.
use Rattle.std.specs.Prelude.{ℕ, ◌≡◌, false, ◌∷◌, T}
use Rattle.state.specs.Site.{Site}
use Rattle.state.specs.Checks.{numbers, met_at, among}
use Rattle.refusals.specs.Refusals.{refusals, step_numbers}
use Rattle.instructions.specs.Instructions.{Bytes}
use Rattle.machine.specs.Step.{step_of, question_refusals, question_numbers, reply_of, AnswerMeans}

-- 0, or a number of the table of refusals
abbrev pub RefusalNumbers : Type 0
RefusalNumbers = (s : Site) (bytes : Bytes) → T (among (step_of s bytes).refusal (0 ∷ step_numbers))

-- an instruction is accepted only where no condition is met, whichever number is asked for
abbrev pub AcceptedMeetsNone : Type 0
AcceptedMeetsNone =
    (s : Site) (bytes : Bytes) → (step_of s bytes).refusal ≡ 0 → (n : ℕ) → met_at n (refusals s bytes) ≡ false

-- "13 belongs to the program alone"
abbrev pub NeverThirteen : Type 0
NeverThirteen = (s : Site) (bytes : Bytes) → (step_of s bytes).refusal ≡ 13 → ⊥

-- "The state after a refusal is the state given."
abbrev pub RefusedUnchanged : Type 0
RefusedUnchanged = (s : Site) (bytes : Bytes) → ((step_of s bytes).refusal ≡ 0 → ⊥) → (step_of s bytes).state ≡ s

-- "Refusals 12, 2, 4 apply in that order"
abbrev pub QuestionOrder : Type 0
QuestionOrder = (s : Site) (a b : ℕ) → numbers (question_refusals s a b) ≡ question_numbers

-- an answer of the access question is the least number of steps, or no chain is within the limit
abbrev pub ReplyIsRight : Type 0
ReplyIsRight = (s : Site) (a b : ℕ) → AnswerMeans s a b (reply_of s a b)
