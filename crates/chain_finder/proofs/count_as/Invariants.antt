-- `chain_finder::count_as` meets its contract. The loop's invariant: the counts, with the areas that are left still to be counted, are those of the row.
-- Assumes nothing.
use Rattle.chain_finder.proofs.Counting.{Counted}
use Rattle.chain_finder.proofs.count_as.Given as goal

abbrev pub invariant-loop-area : goal.invariant-loop-area
invariant-loop-area l =
    (goal.iterator-loop-area).can_next l.area-iterator × (goal.iterator-loop-area).is_finite l.area-iterator
    × Counted l.n l.areas l.initial.counts (l.area-iterator).rest l.counts
