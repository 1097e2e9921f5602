-- `lost_pairs::first_area` meets its contract. The loop's invariant: the areas that are left lack access where those of the row do, and the others of
-- the row have it.
-- Assumes nothing.
use Rattle.bits.proofs.Laws.{next_inside}
use Rattle.lost_pairs.proofs.Lacking.{passed_found, passed_next, passed_all}
use Rattle.lost_pairs.proofs.first_area.Goals as goal

pub bounds-counts-area : goal.bounds-counts-area
bounds-counts-area c = next_inside c.loop-area.invariant.2.left c.in-Some.ensures.steps

pub returns-then-counts-area : goal.returns-then-counts-area
returns-then-counts-area c = passed_found _ _ c.in-Some.ensures.steps c.loop-area.invariant.2 c.if-counts-area.true

pub loop-area-preserved : goal.loop-area-preserved
loop-area-preserved c = (tt, tt, passed_next _ _ c.in-Some.ensures.steps c.loop-area.invariant.2 c.if-counts-area.false)

pub returns : goal.returns
returns c = passed_all _ _ _ c.loop-area.invariant.2 c.in-None.ensures.steps.0
