-- `lost_pairs::first_of` meets its contract: the first object that lacks access, and the lowest area of its pairs that does.
-- Assumes nothing.
use mathlib.Core.Path.{◌∙◌}
use Rattle.lost_pairs.proofs.Losing.{entry_none, entry_is, some_area}
use Rattle.lost_pairs.proofs.first_of.Goals as goal

pub returns-in_err-object : goal.returns-in_err-object
returns-in_err-object c = c.from_residual.ensures ∙ entry_none _ _ c.in_err-object.ensures

pub returns-in_err-area : goal.returns-in_err-area
returns-in_err-area c =
    absurd (some_area _ _ _ _ _ c.in_ok-object.ensures c.least_counts-counts.ensures c.row_of.ensures c.in_err-area.ensures)

pub returns : goal.returns
returns c = entry_is _ _ _ _ _ c.in_ok-object.ensures c.least_counts-counts.ensures c.row_of.ensures _ c.in_ok-area.ensures
