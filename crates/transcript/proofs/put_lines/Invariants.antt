-- `transcript::put_lines` meets its contract. Turn i of the loop lays the result of line i + 1.
-- Assumes nothing.
use Prim.Native.Nat.{ℕ, ◌+◌}
use mathlib.Core.List.{List}
use lib.ListN.{length, drop}
use Rattle.transcript.specs.Transcript.{result_lines}
use Rattle.output.proofs.Placing.{LaidTo}
use Rattle.transcript.proofs.put_lines.Given as goal

abbrev pub rest : List ℕ → ℕ → List ℕ
rest results i = result_lines (i + 1) (drop i results)

abbrev pub invariant-loop-i : goal.invariant-loop-i
invariant-loop-i l = LaidTo (length l.results) (rest l.results) l.i l.at l.initial.out l.end l.out
