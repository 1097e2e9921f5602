-- The record after an instruction.
use Rattle.std.specs.Prelude.{ℕ, List}
use Rattle.records.specs.Record.{state_of, stored}
use Rattle.instructions.specs.Instructions.{Bytes}
use Rattle.instructions.specs.Decode.{decode_of}
use Rattle.successors.specs.Successor.{successor_of}

-- The record of the state that an instruction of four bytes would give; four that fit none change nothing. No byte is
-- changed in a buffer of another length.
abbrev pub changed_record : (bytes : List ℕ) → Bytes → List ℕ
changed_record bytes x = stored bytes (successor_of (state_of bytes) x (decode_of x))
