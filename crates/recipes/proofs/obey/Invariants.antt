-- `recipes::obey` meets its contract. The loop's invariant: what is left of the recipe, run from the state reached,
-- gives what the recipe gives; and the state reached is sound.
-- Assumes nothing.
use Prim.Native.Nat.{◌≤◌}
use Rattle.std.specs.Iterator.Adapters.{enumerate_source, enumerate_count}
use Rattle.state.specs.Stands.{site}
use Rattle.soundness.specs.Sound.{Sound}
use Rattle.recipes.specs.Recipe.{instruction_count}
use Rattle.recipes.proofs.Chunks.{Left}
use Rattle.recipes.proofs.Running.{Runs}
use Rattle.recipes.proofs.obey.Given as goal

abbrev pub invariant-loop-k : goal.invariant-loop-k
invariant-loop-k l =
    let k = enumerate_count l.k-iterator in
    (goal.iterator-loop-k).can_next l.k-iterator × (goal.iterator-loop-k).is_finite l.k-iterator
    × (instruction_count l.recipe ≤ 16) × Left l.recipe k (enumerate_source l.k-iterator) × Sound (site l.reached)
    × Runs (site l.s) l.recipe l.call k (site l.reached)
