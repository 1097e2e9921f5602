-- Rows of bits, and the cells that they stand for: a truth value for each place of each row, row by row. The cell of
-- place j of row i is cell i * 32 + j (Claims, CellAt).
use Rattle.std.specs.Prelude.{ℕ, zero, suc, ◌/◌, ◌^◌, ◌<◌, Bool, List, [], ◌∷◌, ◌++◌, get_or}
use Rattle.bits.specs.Bits.{bit, places}

abbrev pub Rows : Type 0
Rows = List ℕ

-- the w lowest bits of a number, the lowest first: bit 0, and then those of the half
unfoldable pub bits_of : (w n : ℕ) → List Bool
bits_of zero n = []
bits_of (suc w) n = bit n 0 ∷ bits_of w (n / 2)

-- the cells of rows, one row behind the other
unfoldable pub cells_of : Rows → List Bool
cells_of [] = []
cells_of (row ∷ rest) = bits_of places row ++ cells_of rest

-- Every row is a number of 32 bits. The type of an array says so in the code; the numbers that stand for its entries
-- here do not, so the laws that need it ask for it.
abbrev pub Fit : Rows → Type 0
Fit rows = (i : ℕ) → get_or rows i 0 < 2 ^ places
