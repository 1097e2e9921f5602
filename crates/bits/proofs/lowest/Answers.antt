-- `bits::lowest` meets its contract.
-- Assumes nothing.
use mathlib.Core.Path.{sym, subst}
use Rattle.bits.specs.Bits.{Lowest, lowest}
use Rattle.bits.proofs.Laws.{lowest_counted, lowest_is_right}
use Rattle.bits.proofs.lowest.Goals as goal

pub returns : goal.returns
unfolding lowest
returns c =
    let counted = lowest_counted 32 _ in
    record { equation = counted; lowest_set = subst (Lowest _) (sym counted) (lowest_is_right _) }
