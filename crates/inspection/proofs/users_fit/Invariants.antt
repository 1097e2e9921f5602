-- `inspection::users_fit` meets its contract. The loop's invariant: what fits so far is whether each of the first u users does.
-- Assumes nothing.
use mathlib.Core.Path.{◌≡◌}
use Rattle.state.specs.Below.{each_below}
use Rattle.inspection.specs.Parts.{user_at}
use Rattle.inspection.proofs.users_fit.Given as goal

abbrev pub invariant-loop-u : goal.invariant-loop-u
invariant-loop-u l = l.fits ≡ each_below l.u (user_at l.owners l.users l.areas)
