-- `bits::union` meets its contract.
-- Assumes nothing.
use Rattle.bits.proofs.Laws.{union_is}
use Rattle.bits.proofs.union.Goals as goal

pub returns : goal.returns
returns c = union_is _ _ c.ranges.a.fits c.ranges.b.fits
