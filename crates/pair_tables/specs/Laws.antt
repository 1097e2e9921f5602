-- What the layers above use. Each law is a type, which proofs/Laws.antt inhabits under the law's name.
use Rattle.std.specs.Prelude.{ℕ, ◌*◌, ◌≤◌, ◌<◌, ◌≡◌, Bool, ◌||◌, List, T, length, get_or}
use Rattle.state.specs.Cells.{Pairs, width, pair}
use Rattle.pair_tables.specs.Pairs.{pairs_fit, pairs_ascend, has_pair, with_pairs, table_of, Whole}

-- ---- a table put into a relation
abbrev pub WithPairsLength : Type 0
WithPairsLength = (t : List ℕ) (cells : Pairs) → length (with_pairs t cells) ≡ length cells

-- the relation then has its own pairs and the table's
abbrev pub WithPairsReads : Type 0
WithPairsReads =
    (bound : ℕ) (t : List ℕ) (cells : Pairs) → T (pairs_fit bound t) → length cells ≡ bound * width
    → (i j : ℕ) → pair (with_pairs t cells) i j ≡ (pair cells i j || has_pair t i j)

-- ---- the table of a relation
abbrev pub TableWhole : Type 0
TableWhole = (bound : ℕ) (related : ℕ → ℕ → Bool) → Whole (table_of bound related)

abbrev pub TableFits : Type 0
TableFits = (bound : ℕ) (related : ℕ → ℕ → Bool) → T (pairs_fit bound (table_of bound related))

abbrev pub TableAscends : Type 0
TableAscends = (bound : ℕ) (related : ℕ → ℕ → Bool) → T (pairs_ascend (table_of bound related))

-- what is in range is a byte
abbrev pub PairsAreBytes : Type 0
PairsAreBytes = (bound : ℕ) (t : List ℕ) (i : ℕ) → bound ≤ 256 → Whole t → T (pairs_fit bound t) → get_or t i 0 < 256
