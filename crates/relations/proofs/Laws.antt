-- The claims of specs/Claims.antt, and what the functions use: a place written is a number or a pair written, what a row without places and the
-- places of all rows say, and how many there are.
-- Assumes nothing.
use Prim.Native.Nat.{ℕ, zero, suc, ◌+◌, ◌*◌, ◌/◌, ◌%◌, ◌^◌, ◌≤◌, ◌<◌}
use mathlib.Core.Path.{◌≡◌, refl, sym, ap, ap₂, subst, ◌∙◌}
use mathlib.Core.Bool.{Bool, true, false, ◌&&◌, not, cond}
use mathlib.Core.List.{List, [], ◌∷◌, ◌++◌}
use native.Mathlib.Omega.{arith}
use native.Mathlib.Nat.{zero-add, suc-add}
use native.Mathlib.Decide.{dec_lt}
use borrow.Author.Tests.{lt-ltb, le-ltb}
use lib.Dec.{T, ltb}
use lib.Pow.{pow_pos}
use lib.ListN.{length, get_or, set, get_or-eq_default}
use lib.Seq.{ext_get_or}
use Rattle.bits.specs.Bits.{bit, places, word, with_bit, union, is_empty, size_of, size}
use Rattle.bits.specs.Rows.{Rows, bits_of, cells_of, Fit}
use Rattle.bits.proofs.Laws.{bit_zero, word_bit, word_fits, word_is, union_bit, union_fits, empty_decided}
use Rattle.bits.proofs.Cells.{bits_length, bits_at, cells_length, cell_at, cell_of, cell_written, cells_fix_rows}
use Rattle.state.specs.Tabulate.{tabulate}
use Rattle.state.specs.Cells.{Pairs, width, member, mark, pair, put}
use Rattle.state.specs.Walk.{has_first, has_second, count}
use Rattle.state.proofs.Bools.{same_test, is_false, fails, so_not, not_so}
use Rattle.state.proofs.Tabulate.{length_tabulate, get_or_tabulate, tabulate_is}
use Rattle.state.proofs.Found.{Found, found_none, found_more}
use Rattle.state.proofs.Laws.{member_cell, mark_cell, pair_cell, put_cell, pair_area, has_first_lem, has_second_lem}
use Rattle.relations.specs.Claims.{MemberBit, PairBit, SizeIsCount, CountOfRow, BitsOfWord, packed, CellsOfPacked, PackedOfCells}
use Rattle.relations.specs.Claims.{FirstsLength, FirstsReads, SecondsLength, SecondsReads, TransposeReads}
use Rattle.relations.specs.Relations.{firsts, seconds, transpose_cell, transpose}

-- ---- where a number or a pair is
pub member_bit : MemberBit
member_bit rows i = member_cell (cells_of rows) i ∙ cell_of rows i

pub pair_bit : PairBit
pair_bit rows i j h = pair_cell (cells_of rows) i j h ∙ cell_at rows i j h

-- ---- rows and cells, one to one
pub bits_of_word : BitsOfWord
bits_of_word w test = tabulate_is test w false (bits_of w (word w test)) (bits_length w (word w test)) (λ k h. bits_at w (word w test) k h ∙ word_bit w test k h)

-- the places of row i of some cells
abbrev in_row : List Bool → (i j : ℕ) → Bool
in_row cells i j = get_or cells (i * places + j) false

packed_row : (n : ℕ) (cells : List Bool) (i : ℕ) → i < n → get_or (packed n cells) i 0 ≡ word places (in_row cells i)
unfolding packed
packed_row n cells i h = get_or_tabulate _ n i 0 h

pub packed_length : (n : ℕ) (cells : List Bool) → length (packed n cells) ≡ n
unfolding packed
packed_length n cells = length_tabulate _ n

pub packed_fit : (n : ℕ) (cells : List Bool) → Fit (packed n cells)
packed_fit n cells i = go (dec_lt i n)
  where
    go : Dec (i < n) → get_or (packed n cells) i 0 < 2 ^ places
    go (yes h) = rw (packed_row n cells i h) (word_fits places _)
    go (no h) = rw (get_or-eq_default (packed n cells) 0 {n = i} (rw (packed_length n cells) (omega arith))) (pow_pos places)

pub cells_of_packed : CellsOfPacked
cells_of_packed n cells long =
    ext_get_or false (cells_of (packed n cells)) cells (cells_length (packed n cells) ∙ ap (λ (m : ℕ). m * places) (packed_length n cells) ∙ sym long)
    (λ k h.
    let inside : k / places < n = omega (arith, h, cells_length (packed n cells), packed_length n cells) in
    let e : k / places * places + k % places ≡ k = omega arith in
    cell_of (packed n cells) k ∙ ap (λ (x : ℕ). bit x (k % places)) (packed_row n cells (k / places) inside)
    ∙ word_bit places (in_row cells (k / places)) (k % places) (omega arith) ∙ ap (λ (m : ℕ). get_or cells m false) e)

pub packed_of_cells : PackedOfCells
packed_of_cells rows fit =
    cells_fix_rows (packed (length rows) (cells_of rows)) rows (packed_fit (length rows) (cells_of rows)) fit
    (cells_of_packed (length rows) (cells_of rows) (cells_length rows))

-- rows whose places are the values of a test, 32 for each row
pub rows_of_test : (n : ℕ) (test : ℕ → Bool) (rows : Rows) → length rows ≡ n
    → ((i : ℕ) → i < n → get_or rows i 0 ≡ word places (λ j. test (i * places + j))) → cells_of rows ≡ tabulate (n * places) test
rows_of_test n test rows long each =
    tabulate_is test (n * places) false (cells_of rows) (cells_length rows ∙ ap (λ (m : ℕ). m * places) long)
    (λ k h.
    let e : k / places * places + k % places ≡ k = omega arith in
    cell_of rows k ∙ ap (λ (x : ℕ). bit x (k % places)) (each (k / places) (omega arith))
    ∙ word_bit places (λ j. test (k / places * places + j)) (k % places) (omega arith) ∙ ap test e)

-- ---- a place written
pub marked : (rows : Rows) (i : ℕ) (v : Bool)
    → cells_of (set rows (i / width) (with_bit (get_or rows (i / width) 0) (i % width) v)) ≡ mark (cells_of rows) i v
marked rows i v =
    let e : i / width * width + i % width ≡ i = omega arith in
    cell_written rows (i / width) (i % width) v (omega arith) ∙ ap (λ (k : ℕ). set (cells_of rows) k v) e
    ∙ sym (mark_cell (cells_of rows) i v)

pub paired : (rows : Rows) (i j : ℕ) (v : Bool) → j < width
    → cells_of (set rows i (with_bit (get_or rows i 0) j v)) ≡ put (cells_of rows) i j v
paired rows i j v h = cell_written rows i j v h ∙ sym (put_cell (cells_of rows) i j v h)

-- ---- a row without places
pub row_empty : (rows : Rows) (i : ℕ) → get_or rows i 0 < 2 ^ places → not (is_empty (get_or rows i 0)) ≡ has_first (cells_of rows) i
row_empty rows i fits = same_test _ _ there back
  where
    none : (j : ℕ) → T (pair (cells_of rows) i j) → T (is_empty (get_or rows i 0)) → ⊥
    none j t e =
        let h : j < width = pair_area (cells_of rows) i j t in
        fails (pair_bit rows i j h ∙ (empty_decided (get_or rows i 0) fits).0 e j h) t

    back : T (has_first (cells_of rows) i) → T (not (is_empty (get_or rows i 0)))
    back t = let q = (has_first_lem (cells_of rows) i).0 t in so_not (is_empty (get_or rows i 0)) (none q.0 q.1)

    there : T (not (is_empty (get_or rows i 0))) → T (has_first (cells_of rows) i)
    there t = go (has_first (cells_of rows) i) refl
      where
        absent : has_first (cells_of rows) i ≡ false → (j : ℕ) → j < places → bit (get_or rows i 0) j ≡ false
        absent e j h = sym (pair_bit rows i j h) ∙ is_false _ (λ p. fails e ((has_first_lem (cells_of rows) i).1 (j, p)))

        go : (b : Bool) → has_first (cells_of rows) i ≡ b → T b
        go true e = tt
        go false e = not_so (is_empty (get_or rows i 0)) t ((empty_decided (get_or rows i 0) fits).1 (absent e))

-- ---- the places of all rows, found row by row
pub record Joined (rows : Rows) (i out : ℕ) : Type 0 where
  pub fits : out < 2 ^ places
  pub each : (j : ℕ) → j < places → Found (λ m. bit (get_or rows m 0) j) i (bit out j)

pub joined_none : (rows : Rows) → Joined rows 0 0
joined_none rows = record { fits = pow_pos places; each = λ j h. rw (bit_zero j) (found_none _) }

pub joined_more : (rows : Rows) (i out : ℕ) → Joined rows i out → Joined rows (i + 1) (union out (get_or rows i 0))
joined_more rows i out w =
    record {
      fits = union_fits out (get_or rows i 0);
      each = λ j h. rw (union_bit out (get_or rows i 0) j h) (found_more _ i _ _ refl (w.each j h));
    }

pub joined_all : (rows : Rows) (i out : ℕ) → length rows ≤ i → Joined rows i out → out ≡ word places (has_second (cells_of rows))
joined_all rows i out all w = word_is places out _ w.fits (λ j h. same_test _ _ (there j h) (back j h))
  where
    there : (j : ℕ) → j < places → T (bit out j) → T (has_second (cells_of rows) j)
    there j h t = let q = (w.each j h).there t in (has_second_lem (cells_of rows) j).1 (q.0, subst T (sym (pair_bit rows q.0 j h)) q.1)

    back : (j : ℕ) → j < places → T (has_second (cells_of rows) j) → T (bit out j)
    back j h t = let q = (has_second_lem (cells_of rows) j).0 t in at q.0 (dec_lt q.0 i) (subst T (pair_bit rows q.0 j h) q.1)
      where
        at : (m : ℕ) → Dec (m < i) → T (bit (get_or rows m 0) j) → T (bit out j)
        at m (yes l) p = (w.each j h).missed m l p
        at m (no l) p = absurd (fails (ap (λ (n : ℕ). bit n j) (get_or-eq_default rows 0 {n = m} (omega arith)) ∙ bit_zero j) p)

-- a column that no area has
pub no_column : (rows : Rows) (j : ℕ) → places ≤ j → has_second (cells_of rows) j ≡ false
no_column rows j h =
    is_false _ (λ t. let q = (has_second_lem (cells_of rows) j).0 t in
    let l : j < width = pair_area (cells_of rows) q.0 j q.1 in
    omega arith)

-- ---- how many there are
count_append : (a b : List Bool) → count (a ++ b) ≡ count a + count b
unfolding count
count_append [] b = sym (zero-add (count b))
count_append (true ∷ a) b = ap suc (count_append a b) ∙ sym (suc-add (count a) (count b))
count_append (false ∷ a) b = count_append a b

count_bits : (w n : ℕ) → count (bits_of w n) ≡ size_of w n
unfolding bits_of size_of count
count_bits zero n = refl
count_bits (suc w) n = go (bit n 0) (count_bits w (n / 2))
  where
    go : (b : Bool) → count (bits_of w (n / 2)) ≡ size_of w (n / 2) → count (b ∷ bits_of w (n / 2)) ≡ cond b 1 0 + size_of w (n / 2)
    go true e = ap suc e ∙ omega arith
    go false e = e ∙ omega arith

pub size_is_count : SizeIsCount
unfolding size
size_is_count row = sym (count_bits places row)

pub count_of_row : CountOfRow
unfolding cells_of
count_of_row row rest = count_append (bits_of places row) (cells_of rest) ∙ ap (λ (n : ℕ). n + count (cells_of rest)) (sym (size_is_count row))

-- ---- the numbers that pairs name, and transposes
-- a number of a set that is made of a test
member_of_test : (test : ℕ → Bool) (n i : ℕ) → member (tabulate n test) i ≡ (ltb i n && test i)
member_of_test test n i = member_cell (tabulate n test) i ∙ go (dec_lt i n)
  where
    go : Dec (i < n) → get_or (tabulate n test) i false ≡ (ltb i n && test i)
    go (yes h) = rw (lt-ltb i n h) (get_or_tabulate test n i false h)
    go (no h) = rw (le-ltb i n (omega arith)) (get_or-eq_default (tabulate n test) false (rw (length_tabulate test n) (omega arith)))

pub firsts_length : FirstsLength
unfolding firsts
firsts_length n c = length_tabulate (has_first c) n

pub firsts_reads : FirstsReads
unfolding firsts
firsts_reads n c i = member_of_test (has_first c) n i

pub seconds_length : SecondsLength
unfolding seconds
seconds_length c = length_tabulate (has_second c) width

pub seconds_reads : SecondsReads
unfolding seconds
seconds_reads c j = member_of_test (has_second c) width j

transposed_pair : (c : Pairs) (i j : ℕ) → i < width → j < width → transpose_cell c (i * width + j) ≡ pair c j i
unfolding transpose_cell
transposed_pair c i j hi hj =
    let row : (i * width + j) % width ≡ j = omega arith in
    let column : (i * width + j) / width ≡ i = omega arith in
    ap₂ (pair c) row column

pub transpose_reads : TransposeReads
unfolding transpose
transpose_reads c i j hi hj =
    pair_cell (transpose c) i j hj ∙ get_or_tabulate (transpose_cell c) (width * width) (i * width + j) false (omega arith) ∙ transposed_pair c i j hi hj
