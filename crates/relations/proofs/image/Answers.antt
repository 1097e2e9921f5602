-- `relations::image` meets its contract. The loop's invariant: what is found, and where the places that are left lead, is where the set leads.
-- Assumes nothing.
use borrow.Author.Rules.{rules}
use Rattle.bits.proofs.Laws.{next_inside}
use Rattle.relations.proofs.Walked.{walked_none, walked_more, walked_all}
use Rattle.relations.proofs.image.Goals as goal

pub loop-area-init : goal.loop-area-init
loop-area-init c = (tt, tt, walked_none _ _ (search rules) c.ranges.set.fits)

pub bounds-rows-area : goal.bounds-rows-area
bounds-rows-area c = next_inside c.loop-area.invariant.2.left c.in-Some.ensures.steps

pub loop-area-preserved : goal.loop-area-preserved
loop-area-preserved c = (tt, tt, walked_more _ _ c.in-Some.ensures.steps c.union-out.ensures c.loop-area.invariant.2)

pub returns : goal.returns
returns c = walked_all _ _ _ _ c.in-None.ensures.steps.0 c.loop-area.invariant.2
