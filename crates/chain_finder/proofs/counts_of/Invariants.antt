-- `chain_finder::counts_of` meets its contract. The loop's invariant: `reached` has the areas within n steps, `layer` those that are reached first in n,
-- and the counts of the areas reached are there.
-- Assumes nothing.
use Prim.Native.Nat.{◌≤◌}
use mathlib.Core.Path.{◌≡◌}
use Rattle.bits.specs.Bits.{bit}
use Rattle.access.specs.Answer.{longest}
use Rattle.search.proofs.Layers.{reached_row, layer_row}
use Rattle.chain_finder.specs.Parts.{moves}
use Rattle.chain_finder.proofs.Layered.{counts_to}
use Rattle.chain_finder.proofs.counts_of.Given as goal

abbrev pub invariant-loop-n : goal.invariant-loop-n
invariant-loop-n l =
    let start = bit l.o.defined in
    let move = moves l.o l.structure in
    (l.n ≤ longest) × (l.layer ≡ layer_row start move l.n) × (l.reached ≡ reached_row start move l.n) × (l.counts ≡ counts_to start move l.n)
