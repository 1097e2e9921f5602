-- `record_reader::rows` meets its contract. The loop's invariant: the first i rows are read.
-- Assumes nothing.
use Prim.Native.Nat.{ℕ, ◌*◌, ◌≤◌}
use mathlib.Core.Path.{◌≡◌}
use mathlib.Core.List.{List}
use native.Mathlib.Omega.{arith}
use Rattle.bits.specs.Rows.{Rows, cells_of}
use Rattle.state.proofs.Fill.{Filled, filled_more}
use Rattle.relations.proofs.Laws.{rows_of_test}
use Rattle.records.specs.Record.{is_set, cells_at}
use Rattle.record_reader.proofs.Bytes.{row_of_bytes}
use Rattle.record_reader.proofs.rows.Goals as goal
use Rattle.record_reader.proofs.rows.Invariants.{row_at}

-- after the last row
all_read : (bytes : List ℕ) (at n i : ℕ) (rows : Rows) → n ≤ i → Filled (row_at bytes at) 0 n i rows → cells_of rows ≡ cells_at bytes at (n * 32)
unfolding row_at
all_read bytes at n i rows h t = rows_of_test n (is_set bytes at) rows t.long (λ k l. t.front k (omega arith))

pub loop-i-preserved : goal.loop-i-preserved
unfolding row_at
loop-i-preserved g c =
    filled_more _ _ _ _ _ _ c.loop-i-test.true
    (row_of_bytes _ _ _ _ (λ k. (c.type_inv.bytes k).fits) c.from_le_bytes.type_inv c.from_le_bytes.ensures) c.loop-i.invariant

pub returns : goal.returns
returns g c = all_read _ _ _ _ _ (omega arith) c.loop-i.invariant
