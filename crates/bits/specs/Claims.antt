-- What is claimed of bits, rows and cells. Each claim is a type, which proofs/Laws.antt or proofs/Cells.antt inhabits
-- under the claim's name.
use Rattle.std.specs.Prelude.{ℕ, ◌+◌, ◌*◌, ◌^◌, ◌≤◌, ◌<◌, ◌≡◌, ◌↔◌, Bool, false, ◌&&◌, ◌||◌, not, cond, T, eqb, ltb, length, get_or, set}
use Rattle.bits.specs.Bits.{bit, places, word, with_bit, union, intersection, difference, is_empty, is_subset}
use Rattle.bits.specs.Bits.{Lowest, lowest, without_lowest, Single, is_single}
use Rattle.bits.specs.Rows.{Rows, cells_of, Fit}

-- ---- a number is its bits
-- two numbers of w bits with equal bits are equal
abbrev pub EqualBits : Type 0
EqualBits = (w a b : ℕ) → a < 2 ^ w → b < 2 ^ w → ((k : ℕ) → k < w → bit a k ≡ bit b k) → a ≡ b

-- a number of w bits has no bit set from w on
abbrev pub BitPast : Type 0
BitPast = (w a k : ℕ) → a < 2 ^ w → w ≤ k → bit a k ≡ false

-- the bits of a word are the values of its test, and none from w on
abbrev pub WordReads : Type 0
WordReads = (w : ℕ) (test : ℕ → Bool) (k : ℕ) → bit (word w test) k ≡ (ltb k w && test k)

-- and it is a number of w bits
abbrev pub WordFits : Type 0
WordFits = (w : ℕ) (test : ℕ → Bool) → word w test < 2 ^ w

-- ---- the places in rows
abbrev pub WithBitReads : Type 0
WithBitReads = (a k : ℕ) (v : Bool) (j : ℕ) → bit (with_bit a k v) j ≡ (ltb j places && cond (eqb j k) v (bit a j))

abbrev pub UnionReads : Type 0
UnionReads = (a b k : ℕ) → bit (union a b) k ≡ (ltb k places && (bit a k || bit b k))

abbrev pub IntersectionReads : Type 0
IntersectionReads = (a b k : ℕ) → bit (intersection a b) k ≡ (ltb k places && (bit a k && bit b k))

abbrev pub DifferenceReads : Type 0
DifferenceReads = (a b k : ℕ) → bit (difference a b) k ≡ (ltb k places && (bit a k && not (bit b k)))

-- ---- what the tests decide
-- no place is in the row
abbrev pub EmptyDecided : Type 0
EmptyDecided = (a : ℕ) → a < 2 ^ places → T (is_empty a) ↔ ((k : ℕ) → k < places → bit a k ≡ false)

-- each place of the first row is in the second
abbrev pub SubsetDecided : Type 0
SubsetDecided = (a b : ℕ) → T (is_subset a b) ↔ ((k : ℕ) → k < places → T (bit a k) → T (bit b k))

-- ---- the lowest place: what is computed is it, and no other is
abbrev pub LowestIsRight : Type 0
LowestIsRight = (a : ℕ) → Lowest a (lowest a)

abbrev pub OneLowest : Type 0
OneLowest = (a r t : ℕ) → Lowest a r → Lowest a t → r ≡ t

-- a row with a place in it has a lowest one
abbrev pub LowestInside : Type 0
LowestInside = (a : ℕ) → a < 2 ^ places → (a ≡ 0 → ⊥) → lowest a < places

-- the row without it has the others, and is a smaller number: so a loop over the places of a row ends
abbrev pub WithoutLowestReads : Type 0
WithoutLowestReads =
    (a k : ℕ) → bit (without_lowest a) k ≡ (ltb k places && cond (eqb k (lowest a)) false (bit a k))

abbrev pub WithoutLowestLess : Type 0
WithoutLowestLess = (a : ℕ) → a < 2 ^ places → (a ≡ 0 → ⊥) → without_lowest a < a

-- exactly one place is in the row
abbrev pub SingleDecided : Type 0
SingleDecided = (a : ℕ) → a < 2 ^ places → T (is_single a) ↔ Single a

-- ---- the cells of rows
-- 32 for each row
abbrev pub CellsLength : Type 0
CellsLength = (rows : Rows) → length (cells_of rows) ≡ length rows * places

-- the cell of place j of row i; past the last row there is nothing
abbrev pub CellAt : Type 0
CellAt =
    (rows : Rows) (i j : ℕ) → j < places → get_or (cells_of rows) (i * places + j) false ≡ bit (get_or rows i 0) j

-- a place written in a row is its cell written
abbrev pub CellWritten : Type 0
CellWritten =
    (rows : Rows) (i j : ℕ) (v : Bool) → j < places
    → cells_of (set rows i (with_bit (get_or rows i 0) j v)) ≡ set (cells_of rows) (i * places + j) v

-- rows with equal cells are equal
abbrev pub CellsFixRows : Type 0
CellsFixRows = (a b : Rows) → Fit a → Fit b → cells_of a ≡ cells_of b → a ≡ b
