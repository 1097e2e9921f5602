-- `pair_writer::put_row` meets its contract. The loop's invariant: the pairs of the places below some place are laid,
-- and what is left of the row has those from there on.
-- Assumes nothing.
use Prim.Native.Nat.{ℕ, ◌^◌, ◌<◌}
use mathlib.Core.Path.{◌≡◌, sym, subst}
use mathlib.Core.List.{List, [], ◌∷◌}
use borrow.Author.Rules.{rules}
use lib.ListN.{length}
use Rattle.bits.specs.Bits.{places, Next}
use Rattle.output.proofs.Placing.{Placed}
use Rattle.pair_writer.proofs.Rows.{Laid, laid_none, laid_more, laid_all}
use Rattle.pair_writer.proofs.put_row.Goals as goal

-- before the first turn, the whole row is left
none : (first row at : ℕ) (before : List ℕ) (rest : ℕ) → rest ≡ row → at < 2 ^ 64 → length before < 2 ^ 64 → row < 2 ^ places
    → Laid first row at before rest at before
none first row at before rest e fits known left =
    subst (λ (n : ℕ). Laid first row at before n at before) (sym e) (laid_none first row at before fits known left)

-- one turn, by what the calls promise
turn : (first row at : ℕ) (before : List ℕ) (rest end : ℕ) (b : List ℕ) (m : ℕ) (c : List ℕ) (place behind : ℕ) (d : List ℕ) (others : ℕ)
    → Next rest place others → Laid first row at before rest end b → Placed (first ∷ []) end b m c
    → Placed (place ∷ []) m c behind d → Laid first row at before others behind d
turn first row at before rest end b m c place behind d others n w p q =
    rw n.left_is (laid_more first row at before rest end b w n.some m c behind d p (rw n.place_is at q))

pub loop-area-init : goal.loop-area-init
loop-area-init c = (tt, tt, none _ _ _ _ _ (search rules) c.ranges.at.fits c.well_formed.0.0 c.ranges.row.fits)

pub loop-area-preserved : goal.loop-area-preserved
loop-area-preserved c =
    let first = c.put-behind_first.ensures in
    let second = c.put-end.ensures in
    (tt, tt, turn _ _ _ _ _ _ _ _ _ _ _ _ _ c.in-Some.ensures.steps c.loop-area.invariant.2 (first.place, first.buffer) (second.place, second.buffer))

pub returns : goal.returns
returns c =
    let p = laid_all _ _ _ _ _ _ _ c.loop-area.invariant.2 c.in-None.ensures.steps.0 in
    record { place = p.0; buffer = p.1 }
