-- `relations::image` meets its contract. The loop's invariant: what is found, and where the places that are left lead, is where the set leads.
-- Assumes nothing.
use Rattle.relations.proofs.Walked.{Walked}
use Rattle.relations.proofs.image.Given as goal

abbrev pub invariant-loop-area : goal.invariant-loop-area
invariant-loop-area l =
    (goal.iterator-loop-area).can_next l.area-iterator × (goal.iterator-loop-area).is_finite l.area-iterator
    × Walked l.rows l.set (l.area-iterator).rest l.out
