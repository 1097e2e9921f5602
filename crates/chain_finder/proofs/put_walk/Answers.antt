-- `chain_finder::put_walk` meets its contract. The loop's invariant: the walk's areas before those of the steps that are left are laid, and the others
-- are the walk from what is at hand; where no step is left, that is the area itself.
-- Assumes nothing.
use native.Mathlib.Omega.{arith}
use Rattle.chain_finder.proofs.Walking.{walked_none, walked_more, walked_all}
use Rattle.chain_finder.proofs.put_walk.Goals as goal

pub loop-left-init : goal.loop-left-init
loop-left-init c = (omega arith, walked_none _ _ _ _ _ _ (omega arith) c.well_formed.0.0 c.requires.2)

pub loop-left-preserved : goal.loop-left-preserved
loop-left-preserved c = (
  omega arith,
  walked_more _ _ _ _ _ _ _ _ _ c.loop-left.invariant.1 _ _ _ _ _ _ _ (omega arith) (c.requires.1 _ (omega arith))
      c.intersection-open.ensures c.lowest-next.ensures.equation (c.put-end.ensures.place, c.put-end.ensures.buffer) c.with_bit-only.ensures c.next_alone-at_hand.ensures,
)

pub returns : goal.returns
returns c =
    let p = walked_all _ _ _ _ _ _ _ _ _ c.loop-left.invariant.1 _ _ (omega arith) (c.put.ensures.place, c.put.ensures.buffer) in
    record { place = p.0; buffer = p.1 }
