-- `pair_tables::all_ascend` meets its contract: two bytes as one number, the first as the high byte, are in the order
-- of the pairs. The loop's invariant: `last` is the number of the pair that was taken last, and `ascends` says whether
-- each pair before that one comes before the next.
-- Assumes nothing.
use Prim.Native.Nat.{ℕ, ◌+◌}
use mathlib.Core.Path.{◌≡◌}
use mathlib.Core.Bool.{Bool}
use mathlib.Core.List.{List}
use lib.ListN.{length}
use Rattle.state.specs.Below.{each_below}
use Rattle.pair_tables.specs.Pairs.{pair_ascends}
use Rattle.pair_tables.specs.Numbers.{number_at}
use Rattle.pair_tables.proofs.Walk.{Left}
use Rattle.pair_tables.proofs.all_ascend.Given as goal

-- pair j was the last that was read
pub record Read (t : List ℕ) (j last : ℕ) (ascends : Bool) : Type 0 where
  pub number : last ≡ number_at t j
  pub so_far : ascends ≡ each_below j (pair_ascends t)

abbrev pub invariant-loop-pair : goal.invariant-loop-pair
invariant-loop-pair l =
    Left l.table l.pair-iterator.rest.now l.pair-iterator.size (length l.yielded + 1) × Read l.table (length l.yielded) l.last l.ascends
