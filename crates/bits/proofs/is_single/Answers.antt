-- `bits::is_single` meets its contract.
-- Assumes nothing.
use mathlib.Core.Path.{ap, ap₂, ◌∙◌}
use mathlib.Core.Bool.{◌&&◌, not}
use Rattle.bits.specs.Bits.{is_empty, is_single}
use Rattle.bits.proofs.is_single.Goals as goal

pub returns : goal.returns
unfolding is_single
returns c =
    ap₂ ◌&&◌ (ap not c.is_empty.ensures) (c.is_empty-2.ensures ∙ ap is_empty c.without_lowest.ensures)
