-- `bits::intersection` meets its contract.
-- Assumes nothing.
use Rattle.bits.proofs.Laws.{intersection_is}
use Rattle.bits.proofs.intersection.Goals as goal

pub returns : goal.returns
returns c = intersection_is _ _ c.ranges.a.fits
