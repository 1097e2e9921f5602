-- `chain_finder::put_chain` meets its contract. The loop's invariant: the rows up to number n have the areas from which so many steps lead to the area,
-- no area that defines the object is in one before row n, and nothing is written.
-- Assumes nothing.
use Prim.Native.Nat.{ℕ}
use mathlib.Core.Bool.{not}
use mathlib.Core.Path.{◌≡◌, refl, ap, ◌∙◌}
use mathlib.Core.List.{List}
use native.Mathlib.Omega.{arith}
use lib.ListN.{length}
use Rattle.state.specs.Stands.{site}
use Rattle.access.specs.Answer.{longest}
use Rattle.output.specs.Buffer.{laid}
use Rattle.chain_finder.proofs.Backwards.{tried_none, tried_rows, tried_open, tried_empty, tried_more, chain_found, chain_none}
use Rattle.chain_finder.proofs.put_chain.Goals as goal

-- before the walk the buffer is as it was
unchanged : (end : ℕ) (text before₀ before after : List ℕ) → before ≡ before₀ → (end ≡ length text) × (after ≡ laid text 0 before)
    → (end ≡ length text) × (after ≡ laid text 0 before₀)
unchanged end text before₀ before after e p = (p.0, p.1 ∙ ap (laid text 0) e)

pub loop-n-init : goal.loop-n-init
loop-n-init c = (omega arith, refl, tried_none _ _ _ _ _ _ c.with_bit-row.ensures)

pub put_walk-requires : goal.put_walk-requires
unfolding longest
put_walk-requires c =
    let inv = c.loop-n.invariant in
    let below = c.loop-n-test.true in (
      omega arith,
      tried_rows _ _ _ _ _ _ _ _ below inv.2,
      tried_open _ _ _ _ _ _ _ _ below inv.2 _ _ _ c.intersection-starts.ensures c.is_empty.ensures (ap not c.if-not-is_empty.true),
    )

pub returns-then-not-is_empty : goal.returns-then-not-is_empty
unfolding site longest
returns-then-not-is_empty c =
    let inv = c.loop-n.invariant in
    let found = tried_open _ _ _ _ _ _ _ _ c.loop-n-test.true inv.2 _ _ _ c.intersection-starts.ensures c.is_empty.ensures (ap not c.if-not-is_empty.true) in
    let p = unchanged _ _ _ _ _ inv.1
    (chain_found _ _ _ _ _ _ _ c.object_of-o.ensures _ _ _ inv.2
    (omega arith) found _ _ _ (c.put_walk.ensures.place, c.put_walk.ensures.buffer)) in
    record { place = p.0; buffer = p.1 }

pub loop-n-preserved : goal.loop-n-preserved
loop-n-preserved c =
    let inv = c.loop-n.invariant in
    let below = c.loop-n-test.true in
    let far = tried_open _ _ _ _ _ _ _ _ below inv.2 _ _ _ c.intersection-starts.ensures c.is_empty.ensures (ap not c.if-not-is_empty.false) in
    (omega arith, inv.1, tried_more _ _ _ _ _ _ _ _ below inv.2 _ far c.next_alone-row.ensures)

pub returns-then-is_empty : goal.returns-then-is_empty
unfolding site
returns-then-is_empty c =
    let inv = c.loop-n.invariant in
    let none = tried_empty _ _ _ _ _ _ _ _ c.loop-n-test.true inv.2 _ c.is_empty-in-loop-n.ensures c.if-is_empty.true in
    let p = unchanged _ _ _ _ _ inv.1
    (chain_none _ _ _ _ _ _ _ c.object_of-o.ensures (λ n h. none n) _) in
    record { place = p.0; buffer = p.1 }

pub returns : goal.returns
unfolding site longest
returns c =
    let inv = c.loop-n.invariant in
    let p = unchanged _ _ _ _ _ inv.1
    (chain_none _ _ _ _ _ _ _ c.object_of-o.ensures
    (λ n h. inv.2.none n (omega arith)) _) in
    record { place = p.0; buffer = p.1 }
