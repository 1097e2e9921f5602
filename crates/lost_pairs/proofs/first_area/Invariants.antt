-- `lost_pairs::first_area` meets its contract. The loop's invariant: the areas that are left lack access where those of the row do, and the others of
-- the row have it.
-- Assumes nothing.
use Rattle.lost_pairs.proofs.Lacking.{Passed}
use Rattle.lost_pairs.proofs.first_area.Given as goal

abbrev pub invariant-loop-area : goal.invariant-loop-area
invariant-loop-area l =
    (goal.iterator-loop-area).can_next l.area-iterator × (goal.iterator-loop-area).is_finite l.area-iterator
    × Passed l.areas l.counts (l.area-iterator).rest
