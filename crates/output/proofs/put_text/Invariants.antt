-- `output::put_text` meets its contract. Turn i of the loop lays byte i.
-- Assumes nothing.
use lib.ListN.{length, drop}
use Rattle.output.proofs.Placing.{LaidTo}
use Rattle.output.proofs.put_text.Given as goal

abbrev pub invariant-loop-byte : goal.invariant-loop-byte
invariant-loop-byte l = LaidTo (length l.text) (λ i. drop i l.text) l.byte-index l.at l.initial.out l.end l.out
