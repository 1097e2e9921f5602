-- `transcript::put_counts` meets its contract. Turn i of the loop lays count i.
-- Assumes nothing.
use Prim.Native.Nat.{ℕ}
use mathlib.Core.Path.{ap}
use mathlib.Core.List.{List, ◌∷◌}
use native.Mathlib.Numerals.{add-one}
use lib.ListN.{length, get_or}
use lib.Seq.{drop-cons, drop-length}
use Rattle.output.specs.Decimal.{decimal}
use Rattle.transcript.specs.Transcript.{spaced}
use Rattle.output.proofs.Placing.{Turns, turns_none, turns_more, turns_all}
use Rattle.transcript.proofs.put_counts.Goals as goal
use Rattle.transcript.proofs.put_counts.Invariants.{rest}

count : List ℕ → ℕ → List ℕ
count counts i = 32 ∷ decimal (get_or counts i 0)

turns : (counts : List ℕ) → Turns (length counts) (count counts) (rest counts)
unfolding count spaced
turns counts = record { more = λ i h. rw (add-one i) (ap spaced (drop-cons counts i 0 h)); none = ap spaced (drop-length counts) }

pub loop-count-init : goal.loop-count-init
loop-count-init c = turns_none _ _ _ _ c.ranges.at.fits c.well_formed.0.0

pub loop-count-preserved : goal.loop-count-preserved
unfolding count
loop-count-preserved c =
    turns_more _ _ _ (turns _) _ _ _ _ _ c.loop-count.invariant c.loop-count-test.true _ _ (c.put_spaced-end.ensures.place, c.put_spaced-end.ensures.buffer)

pub returns : goal.returns
returns c =
    let p = turns_all _ _ _ (turns _) _ _ _ _ _ c.loop-count.invariant c.loop-count-test.false in
    record { place = p.0; buffer = p.1 }
