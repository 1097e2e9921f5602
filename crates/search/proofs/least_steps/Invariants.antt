-- `search::least_steps` meets its contract. The loop's invariant: `reached` has the areas within n steps, `layer` those that are reached first in n,
-- and fewer than n steps don't reach each wanted area.
-- Assumes nothing.
use Prim.Native.Nat.{◌≤◌}
use mathlib.Core.Path.{◌≡◌}
use mathlib.Core.Bool.{false}
use Rattle.bits.specs.Bits.{bit}
use Rattle.state.specs.Below.{some_below}
use Rattle.access.specs.Answer.{longest}
use Rattle.search.specs.Rounds.{all_within}
use Rattle.search.proofs.Layers.{reached_row, layer_row}
use Rattle.search.proofs.least_steps.Given as goal

abbrev pub invariant-loop-n : goal.invariant-loop-n
invariant-loop-n g l =
    let start = bit l.defined in
    let move = g.M.Moves.move_of l.moves in
    (l.n ≤ longest) × (l.layer ≡ layer_row start move l.n) × (l.reached ≡ reached_row start move l.n)
    × (some_below l.n (all_within start move l.wanted) ≡ false)
