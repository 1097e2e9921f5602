-- What is claimed of the table of a relation: it holds the relation's pairs, and a table in range and ascending is the
-- table of what it holds. One claim serves the five tables: the bound of the first number is a parameter. Each claim is
-- a type, which proofs/Laws.antt inhabits under the claim's name.
use Rattle.std.specs.Prelude.{ℕ, ◌*◌, ◌≤◌, ◌<◌, ◌≡◌, Bool, false, List, T}
use Rattle.state.specs.Cells.{width}
use Rattle.pair_tables.specs.Pairs.{pair_count, Whole, pairs_fit, pairs_ascend, has_pair, table_of}

-- the table holds the pairs of the relation
abbrev pub TableHolds : Type 0
TableHolds =
    (bound : ℕ) (related : ℕ → ℕ → Bool) (i j : ℕ) → i < bound → j < width
    → has_pair (table_of bound related) i j ≡ related i j

-- "Counts are at most 1,024, 64, 1,024, 2,048, 2,048 ..": a table has no more pairs than there can be; where each first
-- number has one area, as in the definitions, no more than there are first numbers
abbrev pub TableCount : Type 0
TableCount = (bound : ℕ) (related : ℕ → ℕ → Bool) → pair_count (table_of bound related) ≤ bound * width

abbrev pub TableCountOnce : Type 0
TableCountOnce =
    (bound : ℕ) (related : ℕ → ℕ → Bool) → ((i j k : ℕ) → T (related i j) → T (related i k) → j ≡ k)
    → pair_count (table_of bound related) ≤ bound

-- where each first number is without some area, as an object is not imported by the area that defines it, no more than
-- 31 for each
pub record WithoutOne (related : ℕ → ℕ → Bool) (i : ℕ) : Type 0 where
  pub missing : ℕ
  pub inside : missing < width
  pub absent : related i missing ≡ false

abbrev pub TableCountLess : Type 0
TableCountLess =
    (bound : ℕ) (related : ℕ → ℕ → Bool) → ((i : ℕ) → i < bound → WithoutOne related i)
    → pair_count (table_of bound related) ≤ bound * 31

-- ---- the single encoding of a relation: a whole table in range and ascending is the table of what it holds
abbrev pub TableOfHeld : Type 0
TableOfHeld =
    (bound : ℕ) (t : List ℕ) → Whole t → T (pairs_fit bound t) → T (pairs_ascend t)
    → (related : ℕ → ℕ → Bool) → ((i j : ℕ) → i < bound → j < width → related i j ≡ has_pair t i j)
    → t ≡ table_of bound related
