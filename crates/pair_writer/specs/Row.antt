-- Not needed to believe a claim. What this crate's own functions promise each other: the pairs of one row.
use Rattle.std.specs.Prelude.{ℕ, zero, suc, cond, List, [], ◌∷◌, ◌++◌}
use Rattle.bits.specs.Bits.{bit, places}

-- the pairs (i, j) for the places j of the row that are below n
unfoldable pub row_below : (n i row : ℕ) → List ℕ
row_below zero i row = []
row_below (suc n) i row = row_below n i row ++ cond (bit row n) (i ∷ n ∷ []) []

-- the pairs (i, j) for all places j of the row
abbrev pub row_table : (i row : ℕ) → List ℕ
row_table i row = row_below places i row
