-- `relations::seconds` meets its contract. The loop's invariant: the places of `out` are those of the rows before.
-- Assumes nothing.
use Rattle.relations.proofs.Laws.{Joined}
use Rattle.relations.proofs.seconds.Given as goal

abbrev pub invariant-loop-row : goal.invariant-loop-row
invariant-loop-row l = Joined l.rows l.row-index l.out
