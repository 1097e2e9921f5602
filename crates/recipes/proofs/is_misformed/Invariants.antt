-- `recipes::is_misformed` meets its contract. The loop's invariant: none of the instructions behind it is misformed.
-- Assumes nothing.
use Rattle.std.proofs.Common.{◌≡◌, length, false}
use Rattle.state.specs.Below.{some_below}
use Rattle.recipes.specs.Recipe.{misformed_at}
use Rattle.recipes.proofs.Chunks.{Left}
use Rattle.recipes.proofs.is_misformed.Given as goal

abbrev pub invariant-loop-instruction : goal.invariant-loop-instruction
invariant-loop-instruction l =
    (goal.iterator-loop-instruction).can_next l.instruction-iterator × (goal.iterator-loop-instruction).is_finite l.instruction-iterator
    × Left l.recipe (length l.yielded) l.instruction-iterator × (some_below (length l.yielded) (misformed_at l.recipe) ≡ false)
