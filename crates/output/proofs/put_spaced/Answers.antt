-- `output::put_spaced` meets its contract: the space, and the number behind it.
-- Assumes nothing.
use mathlib.Core.List.{[], ◌∷◌}
use Rattle.output.proofs.Placing.{placed_then}
use Rattle.output.proofs.put_spaced.Goals as goal

pub returns : goal.returns
returns c =
    let p = placed_then (32 ∷ []) _ _ _ c.well_formed.0.0 _ _ _ _ (c.put-behind_space.ensures.place, c.put-behind_space.ensures.buffer) (c.put_decimal.ensures.place, c.put_decimal.ensures.buffer) in
    record { place = p.0; buffer = p.1 }
