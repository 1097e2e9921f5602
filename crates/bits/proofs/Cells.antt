-- The cells of rows: how many there are, which is which, and that a place written is a cell written; and that rows are fixed by their cells.
-- Assumes nothing.
use Prim.Native.Nat.{ℕ, zero, suc, ◌+◌, ◌*◌, ◌/◌, ◌%◌, ◌<◌}
use mathlib.Core.Path.{◌≡◌, refl, sym, ap, ap₂, ◌∙◌}
use mathlib.Core.Bool.{Bool, false, cond}
use mathlib.Core.List.{List, [], ◌∷◌, ◌++◌}
use native.Mathlib.Omega.{arith}
use native.Mathlib.Nat.{not-suc-le-zero}
use native.Mathlib.Decide.{ℕ_discrete}
use borrow.Author.Tests.{eq-eqb, ne_eqb}
use lib.ListN.{length, get_or, set, length-set, length-append, get_or-append}
use lib.Seq.{get_or-append-add, get_or-set_same, get_or-set_other, ext_get_or}
use Rattle.bits.specs.Bits.{bit, places, with_bit}
use Rattle.bits.specs.Rows.{Rows, bits_of, cells_of}
use Rattle.bits.specs.Claims.{CellsLength, CellAt, CellWritten, CellsFixRows}
use Rattle.bits.proofs.Laws.{bit_up, bit_zero, equal_bits, with_bit_bit}

pub bits_length : (w n : ℕ) → length (bits_of w n) ≡ w
unfolding bits_of
bits_length zero n = refl
bits_length (suc w) n = ap suc (bits_length w (n / 2))

pub bits_at : (w n k : ℕ) → k < w → get_or (bits_of w n) k false ≡ bit n k
unfolding bits_of
bits_at zero n k h = absurd (not-suc-le-zero h)
bits_at (suc w) n zero h = refl
bits_at (suc w) n (suc k) h = bits_at w (n / 2) k (omega arith) ∙ sym (bit_up n k)

pub cells_length : CellsLength
unfolding cells_of
cells_length [] = refl
cells_length (row ∷ rest) =
    length-append (bits_of places row) (cells_of rest)
    ∙ ap₂ (λ (a b : ℕ). a + b) (bits_length places row) (cells_length rest) ∙ omega arith

pub cell_at : CellAt
unfolding cells_of
cell_at [] i j h = sym (bit_zero j)
cell_at (row ∷ rest) zero j h =
    let e : 0 * places + j ≡ j = omega arith in
    ap (λ (k : ℕ). get_or (bits_of places row ++ cells_of rest) k false) e
    ∙ get_or-append (bits_of places row) (cells_of rest) false j (rw (bits_length places row) h) ∙ bits_at places row j h
cell_at (row ∷ rest) (suc i) j h =
    let e : suc i * places + j ≡ length (bits_of places row) + (i * places + j) = omega (arith, bits_length places row) in
    ap (λ (k : ℕ). get_or (bits_of places row ++ cells_of rest) k false) e
    ∙ get_or-append-add (bits_of places row) (cells_of rest) (i * places + j) false ∙ cell_at rest i j h

-- cell k is that of place k % 32 of row k / 32
pub cell_of : (rows : Rows) (k : ℕ) → get_or (cells_of rows) k false ≡ bit (get_or rows (k / places) 0) (k % places)
cell_of rows k =
    let e : k / places * places + k % places ≡ k = omega arith in
    ap (λ (m : ℕ). get_or (cells_of rows) m false) (sym e) ∙ cell_at rows (k / places) (k % places) (omega arith)

pub cell_written : CellWritten
cell_written rows i j v hj = ext_get_or false (cells_of written) (set (cells_of rows) (i * places + j) v) long each
  where
    written : Rows
    written = set rows i (with_bit (get_or rows i 0) j v)

    long : length (cells_of written) ≡ length (set (cells_of rows) (i * places + j) v)
    long =
        cells_length written ∙ ap (λ (n : ℕ). n * places) (length-set rows i _)
        ∙ sym (length-set (cells_of rows) (i * places + j) v ∙ cells_length rows)

    each : (k : ℕ) → k < length (cells_of written) → get_or (cells_of written) k false ≡ get_or (set (cells_of rows) (i * places + j) v) k false
    each k h = cell_of written k ∙ go (ℕ_discrete (k / places) i) (ℕ_discrete (k % places) j)
      where
        inside : k / places < length rows
        inside = omega (arith, h, cells_length written, length-set rows i (with_bit (get_or rows i 0) j v))

        elsewhere : (k ≡ i * places + j → ⊥) → bit (get_or rows (k / places) 0) (k % places) ≡ get_or (set (cells_of rows) (i * places + j) v) k false
        elsewhere ne = sym (get_or-set_other (cells_of rows) (i * places + j) k v false ne ∙ cell_of rows k)

        go : Dec (k / places ≡ i) → Dec (k % places ≡ j) → bit (get_or written (k / places) 0) (k % places) ≡ get_or (set (cells_of rows) (i * places + j) v) k false
        go (no f) d =
            ap (λ (n : ℕ). bit n (k % places)) (get_or-set_other rows i (k / places) _ 0 f) ∙ elsewhere (λ (e : k ≡ i * places + j). f (omega arith))
        go (yes p) (no f) =
            ap (λ (m : ℕ). bit (get_or written m 0) (k % places)) p
            ∙ ap (λ (n : ℕ). bit n (k % places)) (get_or-set_same rows i _ 0 (omega (arith, inside)))
            ∙ with_bit_bit (get_or rows i 0) j v (k % places) (omega arith)
            ∙ ap (λ (b : Bool). cond b v (bit (get_or rows i 0) (k % places))) (ne_eqb (k % places) j f)
            ∙ ap (λ (m : ℕ). bit (get_or rows m 0) (k % places)) (sym p) ∙ elsewhere (λ (e : k ≡ i * places + j). f (omega arith))
        go (yes p) (yes q) =
            let here : k ≡ i * places + j = omega arith in
            ap₂ (λ (m n : ℕ). bit (get_or written m 0) n) p q
            ∙ ap (λ (n : ℕ). bit n j) (get_or-set_same rows i _ 0 (omega (arith, inside)))
            ∙ with_bit_bit (get_or rows i 0) j v j hj
            ∙ ap (λ (b : Bool). cond b v (bit (get_or rows i 0) j)) (eq-eqb j j refl)
            ∙ sym (ap (λ (m : ℕ). get_or (set (cells_of rows) (i * places + j) v) m false) here
            ∙ get_or-set_same (cells_of rows) (i * places + j) v false (omega (arith, inside, cells_length rows)))

pub cells_fix_rows : CellsFixRows
cells_fix_rows a b fa fb e =
    ext_get_or 0 a b (omega (arith, cells_length a, cells_length b, ap length e))
    (λ i h. equal_bits places (get_or a i 0) (get_or b i 0) (fa i) (fb i)
    (λ k hk. sym (cell_at a i k hk) ∙ ap (λ (c : List Bool). get_or c (i * places + k) false) e ∙ cell_at b i k hk))
