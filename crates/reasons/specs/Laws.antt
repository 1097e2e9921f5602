-- What the layers above use. Each law is a type, which proofs/Laws.antt inhabits under the law's name.
use Rattle.std.specs.Prelude.{ℕ, ◌≤◌, ◌<◌, ◌≡◌, false, List, ◌++◌, T, length, drop, Ok}
use Rattle.state.specs.Site.{Site, object, limit, import, export}
use Rattle.soundness.specs.Sound.{Valid}
use Rattle.instructions.specs.Instructions.{Bytes, rule}
use Rattle.instructions.specs.Decode.{decode_of}
use Rattle.instructions.specs.declared.Instruction.{Instruction}
use Rattle.instructions.specs.declared.Target.{Target}
use Rattle.successors.specs.Successor.{changed, successor_of}
use Rattle.refusals.specs.Refusals.{bears_access}
use Rattle.refusals.specs.Parts.{of_object}
use Rattle.machine.specs.Step.{step_refusal}
use Rattle.reasons.specs.Explanation.{Unexplained, reason_bytes, explain_refusal, explained_by}
use Rattle.reasons.specs.Explanation.{explanation_of, explained_buffer}
use Rattle.reasons.specs.Lost.{is_lost, first_lost, lost_of, reason_for, step_reason_of}

-- what is refused has its number, and changes no byte
abbrev pub RefusedSo : Type 0
RefusedSo =
    (s : Site) (a b : ℕ) (buffer : List ℕ) (n : ℕ) → explain_refusal s a b buffer ≡ n → (n ≡ 0 → ⊥)
    → (explanation_of s a b buffer ≡ Unexplained n) × (explained_buffer s a b buffer ≡ buffer)

-- what is not refused is explained by its bytes
abbrev pub ExplainedSo : Type 0
ExplainedSo =
    (s : Site) (a b : ℕ) (buffer : List ℕ) → explain_refusal s a b buffer ≡ 0
    → (explanation_of s a b buffer ≡ explained_by s a b)
    × (explained_buffer s a b buffer ≡ reason_bytes s a b ++ drop (length (reason_bytes s a b)) buffer)

-- the reason of a step, by its number and the state that it would give
abbrev pub ReasonSo : Type 0
ReasonSo =
    (s : Site) (x : Bytes) → step_reason_of s x ≡ reason_for (step_refusal s x) (successor_of s x (decode_of x))

-- 32 bytes are enough for either
abbrev pub ReasonFits : Type 0
ReasonFits = (s : Site) (a b : ℕ) → length (reason_bytes s a b) ≤ 32

-- where each lost pair is one of object b, the first of all is the first of that object
abbrev pub LostOfOne : Type 0
LostOfOne =
    (t : Site) (b : ℕ) → b < limit object → ((o a : ℕ) → T (is_lost t import o a) → o ≡ b)
    → ((o a : ℕ) → T (is_lost t export o a) → o ≡ b) → first_lost t ≡ lost_of t b

-- so it is where a definition, import or export pair of object b is taken from a valid state
abbrev pub LostIsOwn : Type 0
LostIsOwn =
    (s : Site) → Valid s → (target : Target) → T (of_object target) → (u a b : ℕ) → b < limit object
    → first_lost (changed s target false u a b) ≡ lost_of (changed s target false u a b) b

-- what 11 says of the instruction: it removes what access rests on
abbrev pub ElevenRemoves : Type 0
ElevenRemoves =
    (s : Site) (x : Bytes) (y : Instruction) → decode_of x ≡ Ok y → step_refusal s x ≡ 11
    → ((rule y).adds ≡ false) × T (bears_access (rule y).target)
