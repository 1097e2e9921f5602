-- Four bytes that fit no instruction change nothing.
-- Assumes nothing.
use Rattle.std.proofs.Common.{◌≡◌, refl, Ok, Err}
use Rattle.state.specs.Site.{Site}
use Rattle.instructions.specs.Instructions.{Bytes}
use Rattle.instructions.specs.Decode.{Decoded}
use Rattle.instructions.specs.declared.Instruction.{Instruction}
use Rattle.successors.specs.Successor.{successor_of}

-- what was decoded is no instruction
pub unfit : (s : Site) (bytes : Bytes) (d : Decoded) → ((x : Instruction) → d ≡ Ok x → ⊥) → s ≡ successor_of s bytes d
unfit s bytes (Ok x) k = absurd (k x refl)
unfit s bytes (Err refusal) k = refl
