-- What is claimed of the decoder. Each claim is a type, which proofs/Laws.antt inhabits under the claim's name.
use Rattle.std.specs.Prelude.{ℕ, ◌<◌, ◌≡◌, ◌⊎◌, ◌↔◌, T, Some, None, Ok, Err}
use Rattle.state.specs.Checks.{first_met}
use Rattle.verdicts.specs.declared.Refusal.{Refusal}
use Rattle.verdicts.specs.declared.Refusal.TheVariants.{UnknownCode, OutOfRange}
use Rattle.instructions.specs.Instructions.{Bytes, Picked, instruction_of}
use Rattle.instructions.specs.Decode.{in_range, decoded_as, decode_of, decoded_number, misfits}
use Rattle.instructions.specs.declared.Instruction.{Instruction}

-- 1: "code 0 or above 12"
abbrev pub NoCodeExactly : Type 0
NoCodeExactly = (code : ℕ) → (instruction_of code ≡ None) ↔ ((code ≡ 0) ⊎ (12 < code))

-- bytes that fit no instruction get the refusal 1 or 2, whatever their code picks
abbrev pub RefusedAsTwo : Type 0
RefusedAsTwo =
    (bytes : Bytes) (picked : Picked) (refusal : Refusal) → decoded_as bytes picked ≡ Err refusal
    → (refusal ≡ UnknownCode) ⊎ (refusal ≡ OutOfRange)

-- what is decoded has the number that rows 1 and 2 of the table of refusals give
abbrev pub DecodedByTable : Type 0
DecodedByTable =
    (bytes : Bytes) (picked : Picked)
    → decoded_number (decoded_as bytes picked) ≡ first_met (misfits (decoded_as bytes picked))

-- the bytes fit an instruction: their code picks it, and they are in range for it
pub record Fitting (bytes : Bytes) (x : Instruction) : Type 0 where
  pub picked : instruction_of bytes.code ≡ Some x
  pub is_in_range : T (in_range x bytes.activator bytes.a bytes.b)

abbrev pub FitsExactly : Type 0
FitsExactly = (bytes : Bytes) (x : Instruction) → (decode_of bytes ≡ Ok x) ↔ Fitting bytes x
