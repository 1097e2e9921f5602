-- Not needed to believe a claim. What the functions of the search promise, in terms of the rows that they work on. A
-- set of areas is a row of bits.
use Rattle.std.specs.Prelude.{ℕ, Bool, ◌&&◌, ◌||◌, get_or}
use Rattle.bits.specs.Bits.{bit, places, word, is_subset}
use Rattle.state.specs.Below.{some_below}
use Rattle.state.specs.Cells.{Pairs, pair}
use Rattle.state.specs.declared.State.{State}
use Rattle.access.specs.Answer.{longest, has, reached}
use Rattle.search.specs.declared.Object.{Object}

-- the rows of an object
abbrev pub object_in : State → ℕ → Object
object_in s o =
    record {
      defined = get_or s.definitions o 0;
      imported = get_or s.imports o 0;
      exported = get_or s.exports o 0;
    }

-- one step from s to r, where the structure is at hand in both directions: `transposed` has the pair (s, r) where the
-- structure has (r, s)
unfoldable pub move_by : (structure transposed : Pairs) → (imported_by exported_by : ℕ → Bool) → ℕ → ℕ → Bool
move_by structure transposed imported_by exported_by s r =
    (exported_by s && pair structure s r) || (imported_by r && pair transposed s r)

-- the areas one step from an area of the set
unfoldable pub next_to : (ℕ → ℕ → Bool) → (areas : ℕ) → ℕ
next_to move areas = word places (λ r. some_below places (λ s. bit areas s && move s r))

-- a chain of at most n steps reaches each area of the set
unfoldable pub all_within : (ℕ → Bool) → (ℕ → ℕ → Bool) → (areas n : ℕ) → Bool
all_within start move areas n = is_subset areas (word places (has (reached start move n)))

-- the areas that a chain within the limit reaches
unfoldable pub reachable : (ℕ → Bool) → (ℕ → ℕ → Bool) → ℕ
reachable start move = word places (has (reached start move longest))
