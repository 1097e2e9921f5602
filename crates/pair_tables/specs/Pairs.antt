-- A table of pairs in a site file (document 01, 'The site file'): "Pairs are two bytes as written above." In all five
-- tables the second number is an area, so the limit of the first is the one parameter. A table is the list of its own
-- bytes.
--     pair_count, Whole          how many pairs there are, and that none is partial
--     first_byte, second_byte    the two bytes of a pair
--     pairs_fit, pairs_ascend    what refusals 26 and 27 ask of the table
--     with_pairs, has_pair       the relation that the table holds
--     table_of                   the table of a relation
use Rattle.std.specs.Prelude.{ℕ, zero, suc, ◌+◌, ◌-◌, ◌*◌, ◌/◌, ◌%◌, ◌≡◌, Bool, true, ◌&&◌, ◌||◌, cond, List, [], ◌∷◌, ◌++◌, eqb, ltb, length, get_or}
use Rattle.state.specs.Below.{each_below, some_below}
use Rattle.state.specs.Cells.{Pairs, width, put}
use Rattle.state.specs.Site.{area, limit}

-- "Pairs are two bytes"
abbrev pub pair_size : ℕ
pair_size = 2

-- how many pairs the table has
abbrev pub pair_count : List ℕ → ℕ
pair_count t = length t / pair_size

-- the table has no partial pair
abbrev pub Whole : List ℕ → Type 0
Whole t = length t ≡ pair_count t * pair_size

-- the two bytes of pair k
abbrev pub first_byte : List ℕ → ℕ → ℕ
first_byte t k = get_or t (k * pair_size) 0

abbrev pub second_byte : List ℕ → ℕ → ℕ
second_byte t k = get_or t (k * pair_size + 1) 0

-- ---- 26: "a number .. outside its range". The first number of pair k is below the limit, and the second is that of an
-- area
abbrev pub pair_fits : (bound : ℕ) → List ℕ → ℕ → Bool
pair_fits n t k = ltb (first_byte t k) n && ltb (second_byte t k) (limit area)

unfoldable pub pairs_fit : (bound : ℕ) → List ℕ → Bool
pairs_fit n t = each_below (pair_count t) (pair_fits n t)

-- ---- 27: "a table not strictly ascending by first byte, then second"
-- (i, j) comes before (m, n)
abbrev pub earlier : (i j m n : ℕ) → Bool
earlier i j m n = ltb i m || (eqb i m && ltb j n)

-- pair k comes before the next
abbrev pub pair_ascends : List ℕ → ℕ → Bool
pair_ascends t k = earlier (first_byte t k) (second_byte t k) (first_byte t (k + 1)) (second_byte t (k + 1))

unfoldable pub pairs_ascend : List ℕ → Bool
pairs_ascend t = each_below (pair_count t - 1) (pair_ascends t)

-- ---- the relation that a table holds
-- pair k of the table is (i, j)
abbrev pub is_pair_of : List ℕ → (i j : ℕ) → ℕ → Bool
is_pair_of t i j k = eqb (first_byte t k) i && eqb (second_byte t k) j

-- (i, j) is a pair of the table
unfoldable pub has_pair : List ℕ → (i j : ℕ) → Bool
has_pair t i j = some_below (pair_count t) (is_pair_of t i j)

-- a relation with some pairs of the table put into it, the first n
unfoldable pub with_some : ℕ → List ℕ → Pairs → Pairs
with_some zero t cells = cells
with_some (suc n) t cells = put (with_some n t cells) (first_byte t n) (second_byte t n) true

-- a relation with all pairs of the table put into it
abbrev pub with_pairs : List ℕ → Pairs → Pairs
with_pairs t cells = with_some (pair_count t) t cells

-- ---- the table of a relation
-- place k is the pair (k / 32, k % 32): (0, 0), (0, 1) .. (0, 31), (1, 0) .., ascending by first number, then second
abbrev pub at_place : (ℕ → ℕ → Bool) → ℕ → Bool
at_place related k = related (k / width) (k % width)

-- the pairs of the relation among the first n places
unfoldable pub table_below : ℕ → (ℕ → ℕ → Bool) → List ℕ
table_below zero related = []
table_below (suc n) related = table_below n related ++ cond (at_place related n) (n / width ∷ n % width ∷ []) []

-- all pairs of the relation whose first number is below the limit
abbrev pub table_of : (bound : ℕ) → (ℕ → ℕ → Bool) → List ℕ
table_of n related = table_below (n * width) related
