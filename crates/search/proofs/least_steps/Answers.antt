-- `search::least_steps` meets its contract. The loop's invariant: `reached` has the areas within n steps, `layer` those that are reached first in n,
-- and fewer than n steps don't reach each wanted area.
-- Assumes nothing.
use Prim.Native.Nat.{suc, zero-le}
use mathlib.Core.Path.{◌≡◌, sym, ap, ◌∙◌}
use mathlib.Core.Bool.{true, false}
use native.Mathlib.Omega.{arith}
use native.Mathlib.Numerals.{add-one}
use borrow.Author.Tests.{eqb-true}
use Rattle.std.proofs.Common.{Some}
use Rattle.bits.specs.Bits.{bit}
use Rattle.state.proofs.Below.{some_none, some_goes}
use Rattle.access.specs.Answer.{longest}
use Rattle.search.proofs.Layers.{layer_row, first_row, round, reach, all_reached, last_reached, within_now, found_steps, found_no_steps}
use Rattle.search.proofs.least_steps.Given.{Over}
use Rattle.search.proofs.least_steps.Goals as goal
use Rattle.search.proofs.least_steps.Goals.{After-difference-new}

pub loop-n-init : goal.loop-n-init
unfolding layer_row
loop-n-init g c =
    let first = first_row _ _ c.ranges.defined.fits in
    (zero-le, first, first, some_none _)

pub returns-then-is_subset : goal.returns-then-is_subset
returns-then-is_subset g c =
    let inv = c.loop-n.invariant in
    found_steps _ _ _ _ inv.0 inv.3 (within_now _ _ _ _ _ _ true inv.2 c.is_subset.ensures c.if-is_subset.true)

-- after `difference` the new areas are the next layer
new_layer : (g : Over) (c : After-difference-new g) → c.difference-new.result ≡ layer_row (bit c.args.defined) (g.M.Moves.move_of c.args.moves.now) (suc c.loop-n.n)
new_layer g c =
    let inv = c.loop-n.invariant in
    round _ _ _ _ _ _ _ inv.1 inv.2 c.next.ensures c.difference-new.ensures

pub returns-then-is_empty : goal.returns-then-is_empty
returns-then-is_empty g c =
    let inv = c.loop-n.invariant in
    let new = new_layer g (goal.at.returns-then-is_empty g c).After-difference-new in
    let none = sym new ∙ eqb-true _ 0 (sym c.is_empty.ensures ∙ c.if-is_empty.true) in
    found_no_steps _ _ _ _ (all_reached _ _ _ inv.0 none) (within_now _ _ _ _ _ _ false inv.2 c.is_subset.ensures c.if-is_subset.false)

pub loop-n-preserved : goal.loop-n-preserved
unfolding longest
loop-n-preserved g c =
    let inv = c.loop-n.invariant in
    let new = new_layer g (goal.at.loop-n-preserved g c).After-difference-new in (
      omega arith,
      new ∙ ap (layer_row _ _) (sym (add-one _)),
      reach _ _ _ _ _ _ inv.2 new c.union-reached.ensures,
      some_goes _ _ inv.3 (within_now _ _ _ _ _ _ false inv.2 c.is_subset.ensures c.if-is_subset.false),
    )

pub returns-then-is_subset-2 : goal.returns-then-is_subset-2
unfolding longest
returns-then-is_subset-2 g c =
    let inv = c.loop-n.invariant in
    let last : 8 ≡ c.loop-n.n = omega arith in
    ap Some last ∙ found_steps _ _ _ _ inv.0 inv.3 (within_now _ _ _ _ _ _ true inv.2 c.is_subset-2.ensures c.if-is_subset-2.true)

pub returns-else-is_subset-2 : goal.returns-else-is_subset-2
unfolding longest
returns-else-is_subset-2 g c =
    let inv = c.loop-n.invariant in
    found_no_steps _ _ _ _ (last_reached _ _ _ (omega arith)) (within_now _ _ _ _ _ _ false inv.2 c.is_subset-2.ensures c.if-is_subset-2.false)
