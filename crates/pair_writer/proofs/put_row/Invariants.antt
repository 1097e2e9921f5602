-- `pair_writer::put_row` meets its contract. The loop's invariant: the pairs of the places below some place are laid,
-- and what is left of the row has those from there on.
-- Assumes nothing.
use Rattle.pair_writer.proofs.Rows.{Laid}
use Rattle.pair_writer.proofs.put_row.Given as goal

abbrev pub invariant-loop-area : goal.invariant-loop-area
invariant-loop-area l =
    (goal.iterator-loop-area).can_next l.area-iterator × (goal.iterator-loop-area).is_finite l.area-iterator
    × Laid l.first l.row l.at l.initial.out (l.area-iterator).rest l.end l.out
