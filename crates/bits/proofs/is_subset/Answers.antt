-- `bits::is_subset` meets its contract.
-- Assumes nothing.
use Rattle.bits.proofs.Laws.{subset_is}
use Rattle.bits.proofs.is_subset.Goals as goal

pub returns : goal.returns
returns c = subset_is _ _ c.ranges.a.fits c.ranges.b.fits
