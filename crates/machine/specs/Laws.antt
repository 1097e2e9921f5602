-- What the layers above use. Each law is a type, which proofs/Laws.antt inhabits under the law's name.
use Rattle.std.specs.Prelude.{ℕ, ◌<◌, ◌≡◌, true, false, List, [], ◌∷◌}
use Rattle.state.specs.Site.{Site}
use Rattle.state.specs.Checks.{first_met}
use Rattle.access.specs.Lending.{lending}
use Rattle.access.specs.Answer.{answer}
use Rattle.soundness.specs.Tests.{is_sound}
use Rattle.instructions.specs.Instructions.{Bytes}
use Rattle.instructions.specs.Decode.{decode_of}
use Rattle.successors.specs.Successor.{successor_of}
use Rattle.refusals.specs.Refusals.{refusals}
use Rattle.machine.specs.Step.{step_refusal, step_of, run, question_refusals, Refused, refused_or, reply_of}

-- the number of a step is `step_refusal`, which `machine::check` promises
abbrev pub NumberIsRefusal : Type 0
NumberIsRefusal = (s : Site) (bytes : Bytes) → (step_of s bytes).refusal ≡ step_refusal s bytes

-- and that is the first refusal that is met, 0 if none is
abbrev pub NumberByFirst : Type 0
NumberByFirst = (s : Site) (bytes : Bytes) → (step_of s bytes).refusal ≡ first_met (refusals s bytes)

-- an instruction that is accepted gives its successor
abbrev pub AcceptedGives : Type 0
AcceptedGives =
    (s : Site) (bytes : Bytes) → (step_of s bytes).refusal ≡ 0
    → (step_of s bytes).state ≡ successor_of s bytes (decode_of bytes)

-- in a sound state the number is never 12
abbrev pub SoundNeverTwelve : Type 0
SoundNeverTwelve = (s : Site) (bytes : Bytes) → is_sound s ≡ true → (step_of s bytes).refusal ≡ 12 → ⊥

-- a number has at most two digits
abbrev pub TwoDigits : Type 0
TwoDigits = (s : Site) (bytes : Bytes) → (step_of s bytes).refusal < 100

-- 12: "the state is unsound"
abbrev pub UnsoundRefused : Type 0
UnsoundRefused = (s : Site) (bytes : Bytes) → is_sound s ≡ false → (step_of s bytes).refusal ≡ 12

abbrev pub UnsoundUnanswered : Type 0
UnsoundUnanswered = (s : Site) (a b : ℕ) → is_sound s ≡ false → reply_of s a b ≡ Refused 12

-- the reply is decided by the first refusal that is met
abbrev pub ReplyByFirst : Type 0
ReplyByFirst =
    (s : Site) (a b : ℕ) → reply_of s a b ≡ refused_or (first_met (question_refusals s a b)) (answer (lending s b) a)

-- no instruction, and one in front
abbrev pub RunNone : Type 0
RunNone = (s : Site) → run s [] ≡ s

abbrev pub RunMore : Type 0
RunMore = (s : Site) (bytes : Bytes) (rest : List Bytes) → run s (bytes ∷ rest) ≡ run (step_of s bytes).state rest
