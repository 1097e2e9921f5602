-- `relations::preimage` meets its contract. The loop's invariant: what is kept, and what the places that are left would give, is what `within` gives.
-- Assumes nothing.
use Rattle.relations.proofs.Sifted.{Sifted}
use Rattle.relations.proofs.preimage.Given as goal

abbrev pub invariant-loop-area : goal.invariant-loop-area
invariant-loop-area l =
    (goal.iterator-loop-area).can_next l.area-iterator × (goal.iterator-loop-area).is_finite l.area-iterator
    × Sifted l.rows l.set l.within (l.area-iterator).rest l.out
