-- `pair_tables::all_fit` meets its contract. The loop's invariant: what fits so far is whether each pair does that was
-- taken.
-- Assumes nothing.
use mathlib.Core.Path.{◌≡◌}
use lib.ListN.{length}
use Rattle.state.specs.Below.{each_below}
use Rattle.pair_tables.specs.Pairs.{pair_fits}
use Rattle.pair_tables.proofs.Walk.{Left}
use Rattle.pair_tables.proofs.all_fit.Given as goal

abbrev pub invariant-loop-pair : goal.invariant-loop-pair
invariant-loop-pair l =
    Left l.table l.pair-iterator.rest.now l.pair-iterator.size (length l.yielded)
    × (l.fits ≡ each_below (length l.yielded) (pair_fits l.limit l.table))
