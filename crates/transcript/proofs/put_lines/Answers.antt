-- `transcript::put_lines` meets its contract. Turn i of the loop lays the result of line i + 1.
-- Assumes nothing.
use Prim.Native.Nat.{ℕ, ◌+◌}
use mathlib.Core.Path.{sym, ap, ◌∙◌}
use mathlib.Core.List.{List, ◌++◌}
use native.Mathlib.Numerals.{add-one}
use lib.ListN.{length, get_or, drop}
use lib.Seq.{drop-cons, drop-length}
use Rattle.transcript.specs.Transcript.{result_line, result_lines}
use Rattle.output.proofs.Placing.{Turns, turns_none, turns_more, turns_all}
use Rattle.transcript.proofs.put_lines.Goals as goal
use Rattle.transcript.proofs.put_lines.Invariants.{rest}

line : List ℕ → ℕ → List ℕ
line results i = result_line (i + 1) (get_or results i 0)

turns : (results : List ℕ) → Turns (length results) (line results) (rest results)
unfolding line result_lines
turns results =
    record {
      more = λ i h.
          ap (result_lines (i + 1)) (drop-cons results i 0 h)
          ∙ ap (λ (k : ℕ). line results i ++ result_lines (i + 1 + 1) (drop k results)) (sym (add-one i));
      none = ap (result_lines (length results + 1)) (drop-length results);
    }

pub loop-i-init : goal.loop-i-init
loop-i-init c = turns_none _ _ _ _ c.ranges.at.fits c.well_formed.0.0

pub loop-i-preserved : goal.loop-i-preserved
unfolding line
loop-i-preserved c =
    turns_more _ _ _ (turns _) _ _ _ _ _ c.loop-i.invariant c.loop-i-test.true _ _ (c.put_line-end.ensures.place, c.put_line-end.ensures.buffer)

pub returns : goal.returns
returns c =
    let p = turns_all _ _ _ (turns _) _ _ _ _ _ c.loop-i.invariant c.loop-i-test.false in
    record { place = p.0; buffer = p.1 }
