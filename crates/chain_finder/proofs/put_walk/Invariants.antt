-- `chain_finder::put_walk` meets its contract. The loop's invariant: the walk's areas before those of the steps that are left are laid, and the others
-- are the walk from what is at hand; where no step is left, that is the area itself.
-- Assumes nothing.
use Prim.Native.Nat.{◌-◌, ◌≤◌}
use Rattle.bits.specs.Bits.{bit}
use Rattle.chain_finder.specs.Parts.{moves}
use Rattle.chain_finder.proofs.Walking.{Laying}
use Rattle.chain_finder.proofs.put_walk.Given as goal

abbrev pub invariant-loop-left : goal.invariant-loop-left
invariant-loop-left l =
    (1 ≤ l.left) × Laying (moves l.o l.structure) l.area l.n (bit l.o.defined) l.initial.out (l.left - 1) l.at_hand l.end l.out
