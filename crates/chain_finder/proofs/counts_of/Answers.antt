-- `chain_finder::counts_of` meets its contract. The loop's invariant: `reached` has the areas within n steps, `layer` those that are reached first in n,
-- and the counts of the areas reached are there.
-- Assumes nothing.
use Prim.Native.Nat.{suc, zero-le}
use mathlib.Core.Path.{◌≡◌, sym, ap, ◌∙◌}
use native.Mathlib.Omega.{arith}
use native.Mathlib.Numerals.{add-one}
use lib.ListN.{length}
use Rattle.bits.specs.Bits.{bit}
use Rattle.access.specs.Answer.{longest}
use Rattle.search.proofs.Layers.{layer_row, first_row, round, reach}
use Rattle.chain_finder.specs.Parts.{moves}
use Rattle.chain_finder.proofs.Layered.{counts_length, start_counts, next_counts, ended_counts, last_counts}
use Rattle.chain_finder.proofs.counts_of.Goals as goal
use Rattle.chain_finder.proofs.counts_of.Goals.{After-difference-new}

pub loop-n-init : goal.loop-n-init
unfolding layer_row
loop-n-init c =
    let first = first_row _ _ c.well_formed.0.1.1.0.1 in
    (zero-le, first, first, start_counts _ _ _ _ first c.count_as.ensures)

-- after `difference` the new areas are the next layer
new_layer : (c : After-difference-new)
    → let a = c.args in
    c.difference-new.result ≡ layer_row (bit a.o.defined) (moves a.o a.structure.now) (suc c.loop-n.n)
new_layer c =
    let inv = c.loop-n.invariant in
    round _ _ _ _ _ _ _ inv.1 inv.2 c.next_alone-near.ensures c.difference-new.ensures

pub returns-then-is_empty : goal.returns-then-is_empty
returns-then-is_empty c =
    let at = goal.at.returns-then-is_empty c in
    let inv = c.loop-n.invariant in
    ended_counts _ _ _ _ _ inv.0 (new_layer at.After-difference-new) inv.3 (sym c.is_empty.ensures ∙ c.if-is_empty.true)

pub count_as-requires-in-loop-n : goal.count_as-requires-in-loop-n
count_as-requires-in-loop-n c =
    ap length c.loop-n.invariant.3 ∙ counts_length _ _ _

pub loop-n-preserved : goal.loop-n-preserved
unfolding longest
loop-n-preserved c =
    let at = goal.at.loop-n-preserved c in
    let inv = c.loop-n.invariant in (
      omega arith,
      new_layer at.After-difference-new ∙ ap (layer_row _ _) (sym (add-one _)),
      reach _ _ _ _ _ _ inv.2 (new_layer at.After-difference-new) c.union-reached.ensures,
      next_counts _ _ _ _ _ _ c.loop-n-test.true (new_layer at.After-difference-new) inv.3 c.count_as-in-loop-n.ensures,
    )

pub returns : goal.returns
unfolding longest
returns c =
    let inv = c.loop-n.invariant in
    last_counts _ _ _ _ (omega arith) inv.3
