-- `bits::difference` meets its contract.
-- Assumes nothing.
use Rattle.bits.proofs.Laws.{difference_is}
use Rattle.bits.proofs.difference.Goals as goal

pub returns : goal.returns
returns c = difference_is _ _ c.ranges.a.fits c.ranges.b.fits
