-- `record_reader::rows` meets its contract. The loop's invariant: the first i rows are read.
-- Assumes nothing.
use Prim.Native.Nat.{ℕ, ◌+◌, ◌*◌}
use mathlib.Core.List.{List}
use Rattle.bits.specs.Bits.{word}
use Rattle.state.proofs.Fill.{Filled}
use Rattle.records.specs.Record.{is_set}
use Rattle.record_reader.proofs.rows.Given as goal

-- row i of the bytes, with the places as the record has them
unfoldable pub row_at : (bytes : List ℕ) (at i : ℕ) → ℕ
row_at bytes at i = word 32 (λ j. is_set bytes at (i * 32 + j))

abbrev pub invariant-loop-i : goal.invariant-loop-i
invariant-loop-i g l = Filled (row_at l.bytes l.at) 0 g.row.N l.i l.row-items
