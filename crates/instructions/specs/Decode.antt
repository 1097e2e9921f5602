-- The decoder (document 01, 'The twelve instructions' and refusals 1 and 2): which instruction four bytes fit, if any.
-- No list is looked at.
use Rattle.std.specs.Prelude.{ℕ, Bool, false, ◌&&◌, cond, Some, None, Result, Ok, Err, List, [], ◌∷◌, eqb, ltb}
use Rattle.verdicts.specs.Refusals.{number, refusal_number}
use Rattle.verdicts.specs.declared.Refusal.{Refusal}
use Rattle.verdicts.specs.declared.Refusal.TheVariants.{UnknownCode, OutOfRange}
use Rattle.state.specs.Checks.{Check, ◌when◌}
use Rattle.state.specs.Site.{user, area, object, limit}
use Rattle.instructions.specs.Instructions.{Bytes, rule, Picked, instruction_of}
use Rattle.instructions.specs.declared.Target.{Target}
use Rattle.instructions.specs.declared.Target.TheVariants.{TheArea, Owner, Definition, Structure, Import, Export}
use Rattle.instructions.specs.declared.Instruction.{Instruction}

-- "b is": 0, or the number of a user, an area or an object
abbrev pub fits : Target → ℕ → Bool
fits TheArea b = eqb b 0
fits Owner b = ltb b (limit user)
fits Structure b = ltb b (limit area)
fits Definition b = ltb b (limit object)
fits Import b = ltb b (limit object)
fits Export b = ltb b (limit object)

-- the activator is a user, a an area, and b what the table says
abbrev pub in_range : Instruction → (u a b : ℕ) → Bool
in_range x u a b = ltb u (limit user) && ltb a (limit area) && fits (rule x).target b

-- what is decoded: an instruction, or the refusal that the bytes get
abbrev pub Decoded : Type 0
Decoded = Result Instruction Refusal

-- a code that picks no instruction is refused: "code 0 or above 12"
abbrev pub picked_as : Picked → Decoded
picked_as None = Err UnknownCode
picked_as (Some x) = Ok x

-- "a user or area above 31, an object above 63, or b not 0 for codes 1 and 2" is out of range
abbrev pub ranged_as : Instruction → (u a b : ℕ) → Decoded
ranged_as x u a b = cond (in_range x u a b) (Ok x) (Err OutOfRange)

abbrev pub decoded_as : Bytes → Picked → Decoded
decoded_as bytes None = Err UnknownCode
decoded_as bytes (Some x) = ranged_as x bytes.activator bytes.a bytes.b

-- "A code from 1 to 12 picks the kind; bytes that fit no kind are refused"
abbrev pub decode_of : Bytes → Decoded
decode_of bytes = decoded_as bytes (instruction_of bytes.code)

-- the paper's number for each case, 0 for bytes that fit
abbrev pub decoded_number : Decoded → ℕ
decoded_number decoded = refusal_number decoded

-- Refusals 1 and 2 as rows of the table of refusals. A refusal is told by its number (verdicts, claim OneEach).
abbrev pub is_refused_as : Refusal → Decoded → Bool
is_refused_as refusal (Ok x) = false
is_refused_as refusal (Err given) = eqb (number given) (number refusal)

abbrev pub misfits : Decoded → List Check
misfits decoded = (1 when is_refused_as UnknownCode decoded) ∷ (2 when is_refused_as OutOfRange decoded) ∷ []
