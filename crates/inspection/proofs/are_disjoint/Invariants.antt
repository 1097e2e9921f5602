-- `inspection::are_disjoint` meets its contract. The loop's invariant: what is apart so far is whether the rows so far are.
-- Assumes nothing.
use mathlib.Core.Path.{◌≡◌}
use lib.ListN.{length}
use Rattle.state.specs.Below.{each_below}
use Rattle.inspection.specs.Parts.{apart_at}
use Rattle.inspection.proofs.are_disjoint.Given as goal

abbrev pub invariant-loop-this : goal.invariant-loop-this
invariant-loop-this l = l.apart ≡ each_below (length l.yielded) (apart_at l.these l.those)
