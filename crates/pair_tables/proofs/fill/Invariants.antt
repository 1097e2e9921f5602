-- `pair_tables::fill` meets its contract. The loop's invariant: the rows, with the one at hand in its place, are what
-- was there with the pairs put into it that were taken.
-- Assumes nothing.
use Prim.Native.Nat.{ℕ}
use mathlib.Core.Path.{◌≡◌}
use mathlib.Core.List.{List}
use lib.ListN.{length, set}
use Rattle.bits.specs.Rows.{Rows, cells_of}
use Rattle.pair_tables.specs.Pairs.{with_some}
use Rattle.pair_tables.proofs.Walk.{Left}
use Rattle.pair_tables.proofs.fill.Given as goal

-- the row of `at` is at hand
abbrev pub AtHand : (rows₀ : Rows) (table : List ℕ) (k : ℕ) (rows : Rows) (at row : ℕ) → Type 0
AtHand rows₀ table k rows at row = cells_of (set rows at row) ≡ with_some k table (cells_of rows₀)

abbrev pub invariant-loop-pair : goal.invariant-loop-pair
invariant-loop-pair l =
    Left l.table l.pair-iterator.rest.now l.pair-iterator.size (length l.yielded)
    × AtHand l.initial.rows l.table (length l.yielded) l.rows l.at l.row
