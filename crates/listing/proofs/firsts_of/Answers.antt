-- `listing::firsts_of` meets its contract. The loop's invariant: the places below k say whether their number is the first of a pair.
-- Assumes nothing.
use mathlib.Core.Path.{sym, subst}
use native.Mathlib.Omega.{arith}
use Rattle.listing.proofs.Written.{Written, written_none, written_more, written_all}
use Rattle.listing.proofs.firsts_of.Goals as goal

pub loop-k-init : goal.loop-k-init
loop-k-init c = written_none _

pub loop-k-preserved : goal.loop-k-preserved
loop-k-preserved c = subst (Written _ _) (sym c.with_bit-out.ensures) (written_more _ _ _ _ c.in_row.ensures c.loop-k.invariant)

pub returns : goal.returns
returns c = written_all _ _ _ (omega arith) c.loop-k.invariant
