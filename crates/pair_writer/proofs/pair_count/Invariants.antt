-- `pair_writer::pair_count` meets its contract. The loop's invariant: the pairs of the rows below `first` are counted.
-- Assumes nothing.
use Prim.Native.Nat.{ℕ}
use mathlib.Core.Path.{◌≡◌}
use Rattle.bits.specs.Rows.{Rows, cells_of}
use Rattle.state.specs.Cells.{pair}
use Rattle.pair_tables.specs.Pairs.{pair_count, table_of}
use Rattle.pair_writer.proofs.pair_count.Given as goal

abbrev pub count_below : Rows → ℕ → ℕ
count_below rows n = pair_count (table_of n (pair (cells_of rows)))

abbrev pub invariant-loop-first : goal.invariant-loop-first
invariant-loop-first l = l.n ≡ count_below l.rows l.first
