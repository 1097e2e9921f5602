-- What is claimed of sets and relations as rows of bits: where a number or a pair is, how many there are, that rows and
-- cells stand for the same sets and relations, one to one; and how what is made of a relation reads. Each claim is a
-- type, which proofs/Laws.antt inhabits under the claim's name.
use Rattle.std.specs.Prelude.{ℕ, ◌+◌, ◌*◌, ◌/◌, ◌%◌, ◌<◌, ◌≡◌, Bool, false, ◌&&◌, List, ◌∷◌, ltb, length, get_or}
use Rattle.bits.specs.Bits.{bit, places, word, size}
use Rattle.bits.specs.Rows.{Rows, bits_of, cells_of, Fit}
use Rattle.state.specs.Tabulate.{tabulate}
use Rattle.state.specs.Cells.{Pairs, width, member, pair}
use Rattle.state.specs.Walk.{has_first, has_second, count}
use Rattle.relations.specs.Relations.{firsts, seconds, transpose}

-- ---- where a number or a pair is
-- number i of a set is place i % 32 of row i / 32
abbrev pub MemberBit : Type 0
MemberBit = (rows : Rows) (i : ℕ) → member (cells_of rows) i ≡ bit (get_or rows (i / places) 0) (i % places)

-- the pair (i, j) of a relation is place j of row i
abbrev pub PairBit : Type 0
PairBit = (rows : Rows) (i j : ℕ) → j < places → pair (cells_of rows) i j ≡ bit (get_or rows i 0) j

-- as many places are in a row as cells of it are set; and the rows are counted one by one
abbrev pub SizeIsCount : Type 0
SizeIsCount = (row : ℕ) → size row ≡ count (bits_of places row)

abbrev pub CountOfRow : Type 0
CountOfRow = (row : ℕ) (rest : Rows) → count (cells_of (row ∷ rest)) ≡ size row + count (cells_of rest)

-- ---- rows and cells, one to one
-- the bits of a word are the list of its test's values
abbrev pub BitsOfWord : Type 0
BitsOfWord = (w : ℕ) (test : ℕ → Bool) → bits_of w (word w test) ≡ tabulate w test

-- n rows of cells: place j of row i is cell i * 32 + j
unfoldable pub packed : (n : ℕ) → List Bool → Rows
packed n cells = tabulate n (λ i. word places (λ j. get_or cells (i * places + j) false))

-- the cells of those rows are the cells that they were made of
abbrev pub CellsOfPacked : Type 0
CellsOfPacked = (n : ℕ) (cells : List Bool) → length cells ≡ n * places → cells_of (packed n cells) ≡ cells

-- and the rows of some rows' cells are those rows
abbrev pub PackedOfCells : Type 0
PackedOfCells = (rows : Rows) → Fit rows → packed (length rows) (cells_of rows) ≡ rows

-- ---- the numbers that pairs name, and transposes
abbrev pub FirstsLength : Type 0
FirstsLength = (n : ℕ) (c : Pairs) → length (firsts n c) ≡ n

abbrev pub FirstsReads : Type 0
FirstsReads = (n : ℕ) (c : Pairs) (i : ℕ) → member (firsts n c) i ≡ (ltb i n && has_first c i)

abbrev pub SecondsLength : Type 0
SecondsLength = (c : Pairs) → length (seconds c) ≡ width

abbrev pub SecondsReads : Type 0
SecondsReads = (c : Pairs) (j : ℕ) → member (seconds c) j ≡ (ltb j width && has_second c j)

abbrev pub TransposeReads : Type 0
TransposeReads = (c : Pairs) (i j : ℕ) → i < width → j < width → pair (transpose c) i j ≡ pair c j i
