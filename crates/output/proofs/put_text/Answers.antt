-- `output::put_text` meets its contract. Turn i of the loop lays byte i.
-- Assumes nothing.
use Prim.Native.Nat.{ℕ}
use mathlib.Core.List.{List, [], ◌∷◌}
use native.Mathlib.Numerals.{add-one}
use lib.ListN.{length, get_or, drop}
use lib.Seq.{drop-cons, drop-length}
use Rattle.output.proofs.Placing.{Turns, turns_none, turns_more}
use Rattle.output.proofs.put_text.Goals as goal

byte : List ℕ → ℕ → List ℕ
byte text i = get_or text i 0 ∷ []

bytes : (text : List ℕ) → Turns (length text) (byte text) (λ i. drop i text)
unfolding byte
bytes text = record { more = λ i h. rw (add-one i) (drop-cons text i 0 h); none = drop-length text }

pub loop-byte-init : goal.loop-byte-init
loop-byte-init c = turns_none _ _ _ _ c.ranges.at.fits c.well_formed.0.0

pub loop-byte-preserved : goal.loop-byte-preserved
unfolding byte
loop-byte-preserved c =
    turns_more _ _ _ (bytes _) _ _ _ _ _ c.loop-byte.invariant c.loop-byte-test.true _ _ (c.put-end.ensures.place, c.put-end.ensures.buffer)
