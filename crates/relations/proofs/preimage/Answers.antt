-- `relations::preimage` meets its contract. The loop's invariant: what is kept, and what the places that are left would give, is what `within` gives.
-- Assumes nothing.
use borrow.Author.Rules.{rules}
use Rattle.bits.proofs.Laws.{next_inside}
use Rattle.relations.proofs.Sifted.{sifted_none, sifted_more, sifted_all}
use Rattle.relations.proofs.preimage.Goals as goal

pub loop-area-init : goal.loop-area-init
loop-area-init c = (tt, tt, sifted_none _ _ _ (search rules) c.ranges.within.fits)

pub bounds-rows-area : goal.bounds-rows-area
bounds-rows-area c = next_inside c.loop-area.invariant.2.left c.in-Some.ensures.steps

pub loop-area-preserved : goal.loop-area-preserved
loop-area-preserved c =
    (tt, tt, sifted_more _ _ _ c.in-Some.ensures.steps c.intersection-common.ensures c.is_empty.ensures c.with_bit-out.ensures c.loop-area.invariant.2)

pub returns : goal.returns
returns c = sifted_all _ _ _ _ _ c.in-None.ensures.steps.0 c.loop-area.invariant.2
