-- `inspection::areas_fit` meets its contract. The loop's invariant: what fits so far is whether the pairs of each of the first a areas do.
-- Assumes nothing.
use mathlib.Core.Path.{◌≡◌}
use Rattle.state.specs.Below.{each_below}
use Rattle.inspection.specs.Parts.{area_at}
use Rattle.inspection.proofs.areas_fit.Given as goal

abbrev pub invariant-loop-a : goal.invariant-loop-a
invariant-loop-a l = l.fits ≡ each_below l.a (area_at l.structure l.areas)
