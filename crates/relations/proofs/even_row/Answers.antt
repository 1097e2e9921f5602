-- `relations::even_row` meets its contract.
-- Assumes nothing.
use Rattle.relations.proofs.Turning.{even_is}
use Rattle.relations.proofs.even_row.Goals as goal

pub returns : goal.returns
returns c = even_is _ _ c.requires.1 _ _ c.ranges.here.fits
