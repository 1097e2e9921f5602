-- `transcript::put_counts` meets its contract. Turn i of the loop lays count i.
-- Assumes nothing.
use Prim.Native.Nat.{ℕ}
use mathlib.Core.List.{List}
use lib.ListN.{length, drop}
use Rattle.transcript.specs.Transcript.{spaced}
use Rattle.output.proofs.Placing.{LaidTo}
use Rattle.transcript.proofs.put_counts.Given as goal

abbrev pub rest : List ℕ → ℕ → List ℕ
rest counts i = spaced (drop i counts)

abbrev pub invariant-loop-count : goal.invariant-loop-count
invariant-loop-count l = LaidTo (length l.counts) (rest l.counts) l.count-index l.at l.initial.out l.end l.out
