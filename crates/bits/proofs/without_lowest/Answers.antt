-- `bits::without_lowest` meets its contract.
-- Assumes nothing.
use mathlib.Core.Path.{sym, ◌∙◌}
use Rattle.bits.proofs.Laws.{without_lowest_none, without_lowest_is}
use Rattle.bits.proofs.without_lowest.Goals as goal

pub returns-then-row-eq0 : goal.returns-then-row-eq0
returns-then-row-eq0 c = sym c.if-row-eq0.true ∙ without_lowest_none _ c.if-row-eq0.true

pub returns : goal.returns
returns c = without_lowest_is _ c.ranges.row.fits c.if-row-eq0.false
