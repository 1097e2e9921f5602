-- `relations::odd_row` meets its contract.
-- Assumes nothing.
use Rattle.relations.proofs.Turning.{odd_is}
use Rattle.relations.proofs.odd_row.Goals as goal

pub returns : goal.returns
returns c = odd_is _ _ _ _ c.ranges.here.fits c.ranges.mask.fits
