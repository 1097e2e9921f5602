-- Whether some, or each, of what a set or a relation holds meets a test. The walk goes along the cells once and asks
-- only at those that are set, so that the checker can compute it on a whole record.
--     some_member, each_member     of the numbers of a set
--     some_pair, each_pair         of the pairs of a relation
--     has_first, has_second        a pair with this first number, with this area
--     count                        how many
use Rattle.std.specs.Prelude.{ℕ, suc, ◌/◌, ◌%◌, Bool, true, false, ◌||◌, not, List, [], ◌∷◌, eqb}
use Rattle.state.specs.Cells.{Members, Pairs, width}

-- some cell that is set meets the test; the first cell of the list is number i
unfoldable pub some_from : ℕ → List Bool → (ℕ → Bool) → Bool
some_from i [] test = false
some_from i (true ∷ rest) test = test i || some_from (suc i) rest test
some_from i (false ∷ rest) test = some_from (suc i) rest test

-- some number of the set meets the test
unfoldable pub some_member : Members → (ℕ → Bool) → Bool
some_member cells test = some_from 0 cells test

-- each number of the set meets the test: none fails it
abbrev pub each_member : Members → (ℕ → Bool) → Bool
each_member cells test = not (some_member cells (λ i. not (test i)))

-- some pair of the relation meets the test; cell k is that of the pair (k / 32, k % 32) (Laws, SomePair)
unfoldable pub some_pair : Pairs → (ℕ → ℕ → Bool) → Bool
some_pair cells test = some_from 0 cells (λ k. test (k / width) (k % width))

-- each pair of the relation meets the test: none fails it
abbrev pub each_pair : Pairs → (ℕ → ℕ → Bool) → Bool
each_pair cells test = not (some_pair cells (λ i j. not (test i j)))

-- some pair's first number is i
abbrev pub has_first : Pairs → ℕ → Bool
has_first cells i = some_pair cells (λ m n. eqb m i)

-- some pair's area is j
abbrev pub has_second : Pairs → ℕ → Bool
has_second cells j = some_pair cells (λ m n. eqb n j)

-- how many numbers or pairs there are
unfoldable pub count : List Bool → ℕ
count [] = 0
count (true ∷ rest) = suc (count rest)
count (false ∷ rest) = count rest
