-- What is made of a relation: the numbers that its pairs name; and of a relation between areas its transpose, and where
-- it leads.
use Rattle.std.specs.Prelude.{ℕ, ◌*◌, ◌/◌, ◌%◌, Bool, ◌&&◌}
use Rattle.bits.specs.Bits.{bit, places, word}
use Rattle.state.specs.Below.{some_below}
use Rattle.state.specs.Tabulate.{tabulate}
use Rattle.state.specs.Cells.{Members, Pairs, width, pair}
use Rattle.state.specs.Walk.{has_first, has_second}

-- the numbers below n that are the first of some pair, and the areas that are the second of some pair
unfoldable pub firsts : ℕ → Pairs → Members
firsts n cells = tabulate n (has_first cells)

unfoldable pub seconds : Pairs → Members
seconds cells = tabulate width (has_second cells)

-- cell k of a relation between areas with each pair turned round
unfoldable pub transpose_cell : Pairs → ℕ → Bool
transpose_cell cells k = pair cells (k % width) (k / width)

-- a relation between areas with each pair turned round: (i, j) is a pair of it where (j, i) is one of the relation
unfoldable pub transpose : Pairs → Pairs
transpose cells = tabulate (width * width) (transpose_cell cells)

-- the areas j with a pair (i, j) of the relation whose i is in the set; here a set of areas is a row of bits
unfoldable pub image : Pairs → (set : ℕ) → ℕ
image cells set = word places (λ j. some_below places (λ i. bit set i && pair cells i j))
