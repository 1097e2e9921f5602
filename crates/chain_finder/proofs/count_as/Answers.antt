-- `chain_finder::count_as` meets its contract. The loop's invariant: the counts, with the areas that are left still to be counted, are those of the row.
-- Assumes nothing.
use Rattle.bits.proofs.Laws.{next_inside}
use Rattle.chain_finder.proofs.Counting.{counted_next, counted_all}
use Rattle.chain_finder.proofs.count_as.Goals as goal

pub bounds-counts-area : goal.bounds-counts-area
bounds-counts-area c = next_inside c.loop-area.invariant.2.left c.in-Some.ensures.steps

pub loop-area-preserved : goal.loop-area-preserved
loop-area-preserved c = (tt, tt, counted_next _ _ _ c.in-Some.ensures.steps c.loop-area.invariant.2)

pub returns : goal.returns
returns c = counted_all _ _ _ _ _ c.in-None.ensures.steps.0 c.loop-area.invariant.2
