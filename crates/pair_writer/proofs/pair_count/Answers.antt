-- `pair_writer::pair_count` meets its contract. The loop's invariant: the pairs of the rows below `first` are counted.
-- Assumes nothing.
use Prim.Native.Nat.{ℕ, ◌+◌, ◌^◌, ◌<◌}
use mathlib.Core.Path.{◌≡◌, sym}
use native.Mathlib.Omega.{arith}
use lib.ListN.{get_or}
use Rattle.bits.specs.Bits.{size}
use Rattle.bits.specs.Rows.{Rows, cells_of}
use Rattle.state.specs.Cells.{pair}
use Rattle.pair_tables.specs.Pairs.{table_below}
use Rattle.pair_tables.proofs.Laws.{table_count}
use Rattle.pair_writer.proofs.Rows.{row_count}
use Rattle.pair_writer.proofs.pair_count.Goals as goal
use Rattle.pair_writer.proofs.pair_count.Invariants.{count_below}

-- one turn, by what the calls promise
turn : (rows : Rows) (first n row k : ℕ) → n ≡ count_below rows first → row ≡ get_or rows first 0 → k ≡ size row
    → n + k ≡ count_below rows (first + 1)
turn rows first n row k w e s = rw (w, s) (sym (row_count rows first row e))

-- it fits 16 bits: no more than 32 for each row
small : (rows : Rows) (first n k : ℕ) → n ≡ count_below rows first → first < 255 → k < 256 → n + k < 2 ^ 16
small rows first n k w few h = omega (arith, table_count first (pair (cells_of rows)))

pub loop-first-init : goal.loop-first-init
unfolding table_below
loop-first-init c = omega arith

pub overflow_add-n : goal.overflow_add-n
overflow_add-n c =
    record { fits = small _ _ _ _ c.loop-first.invariant (omega arith) (omega arith) }

pub loop-first-preserved : goal.loop-first-preserved
loop-first-preserved c =
    turn _ _ _ _ _ c.loop-first.invariant c.row_of.ensures c.size.ensures
