-- `pair_writer::put_pairs` meets its contract. The loop's invariant: the table of the rows below `first` is laid.
-- Assumes nothing.
use Prim.Native.Nat.{ℕ, ◌+◌, ◌^◌, ◌≤◌, ◌<◌}
use mathlib.Core.Path.{◌≡◌}
use mathlib.Core.List.{List}
use native.Mathlib.Omega.{arith}
use lib.ListN.{length, get_or}
use Rattle.bits.specs.Rows.{Rows, cells_of}
use Rattle.state.specs.Cells.{pair}
use Rattle.output.proofs.Placing.{Placed, placed_none, placed_then}
use Rattle.pair_tables.specs.Pairs.{table_below, table_of}
use Rattle.pair_writer.specs.Row.{row_table}
use Rattle.pair_writer.proofs.Rows.{next_row}
use Rattle.pair_writer.proofs.put_pairs.Goals as goal

-- the table of so many rows is laid
abbrev Laid : (at : ℕ) (before : List ℕ) (rows : Rows) (first end : ℕ) (after : List ℕ) → Type 0
Laid at before rows first end after = Placed (table_of first (pair (cells_of rows))) at before end after

-- one turn, by what the calls promise
turn : (at : ℕ) (before : List ℕ) (rows : Rows) (first end : ℕ) (b : List ℕ) (row behind : ℕ) (c : List ℕ) → length before < 2 ^ 64
    → Laid at before rows first end b → row ≡ get_or rows first 0 → Placed (row_table first row) end b behind c
    → Laid at before rows (first + 1) behind c
turn at before rows first end b row behind c known w e p =
    rw (next_row rows first row e) (placed_then _ _ at before known end b behind c w p)

-- after the last turn
all : (at : ℕ) (before : List ℕ) (rows : Rows) (limit first end : ℕ) (b : List ℕ) → first ≤ limit → limit ≤ first
    → Laid at before rows first end b → Laid at before rows limit end b
all at before rows limit first end b within h w = let last : limit ≡ first = omega arith in rw last w

pub loop-first-init : goal.loop-first-init
unfolding table_below
loop-first-init c = placed_none _ _ c.ranges.at.fits

pub loop-first-preserved : goal.loop-first-preserved
loop-first-preserved c =
    let put = c.put_row-end.ensures in
    turn _ _ _ _ _ _ _ _ _ c.well_formed.0.0 c.loop-first.invariant c.row_of.ensures (put.place, put.buffer)

pub returns : goal.returns
returns c =
    let p = all _ _ _ _ _ _ _ c.loop-first.auto.first-end c.loop-first-test.false c.loop-first.invariant in
    record { place = p.0; buffer = p.1 }
