-- `bits::with_bit` meets its contract.
-- Assumes nothing.
use native.Mathlib.Omega.{arith}
use Rattle.bits.proofs.Laws.{with_bit_past, with_bit_is}
use Rattle.bits.proofs.with_bit.Goals as goal

pub returns-then-place-ge-PLACES : goal.returns-then-place-ge-PLACES
returns-then-place-ge-PLACES c = with_bit_past _ _ _ c.ranges.row.fits (omega arith)

pub returns : goal.returns
returns c = with_bit_is _ _ _ c.ranges.row.fits
