-- `inspection::objects_fit` meets its contract. The loop's invariant: what fits so far is whether each of the first k objects from `from` on does.
-- Assumes nothing.
use mathlib.Core.Path.{◌≡◌}
use Rattle.state.specs.Below.{each_below}
use Rattle.inspection.specs.Parts.{object_at}
use Rattle.inspection.proofs.objects_fit.Given as goal

abbrev pub invariant-loop-k : goal.invariant-loop-k
invariant-loop-k l = l.fits ≡ each_below l.k (object_at l.s l.from l.objects l.areas)
