-- `transcript::obey_lines` meets its contract. Each turn of the loop obeys the first of the lines that are left.
-- Assumes nothing.
use lib.ListN.{length}
use Rattle.state.specs.Stands.{site}
use Rattle.transcript.proofs.Session.{Reached}
use Rattle.transcript.proofs.obey_lines.Given as goal

abbrev pub invariant-loop-rest : goal.invariant-loop-rest
invariant-loop-rest l = Reached (length l.initial.results) l.input l.results l.lines l.rest (site l.s)

abbrev pub decreases-loop-rest : goal.decreases-loop-rest
decreases-loop-rest l = length l.rest
