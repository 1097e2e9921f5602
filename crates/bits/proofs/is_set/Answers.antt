-- `bits::is_set` meets its contract.
-- Assumes nothing.
use mathlib.Core.Path.{sym}
use native.Mathlib.Omega.{arith}
use Rattle.bits.proofs.Laws.{bit_past, is_set_is}
use Rattle.bits.proofs.is_set.Goals as goal

pub returns-then-place-ge-PLACES : goal.returns-then-place-ge-PLACES
returns-then-place-ge-PLACES c = sym (bit_past 32 _ _ c.ranges.row.fits (omega arith))

pub returns : goal.returns
returns c = is_set_is _ _ c.ranges.row.fits (omega arith)
