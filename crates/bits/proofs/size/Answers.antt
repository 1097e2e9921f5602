-- `bits::size` meets its contract.
-- Assumes nothing.
use Rattle.bits.specs.Bits.{size}
use Rattle.bits.proofs.Laws.{size_counted}
use Rattle.bits.proofs.size.Goals as goal

pub returns : goal.returns
unfolding size
returns c = size_counted 32 _ c.ranges.row.fits
