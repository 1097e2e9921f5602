-- A row that is at hand in place of the stored one: the relation is that of the rows with it in its place.
-- Assumes nothing.
use Prim.Native.Nat.{ℕ, ◌*◌, ◌≤◌, ◌<◌}
use mathlib.Core.Path.{◌≡◌, sym, ap, ◌∙◌}
use mathlib.Core.Bool.{Bool, cond}
use native.Mathlib.Omega.{arith}
use native.Mathlib.Decide.{dec_lt, ℕ_discrete}
use borrow.Author.Tests.{ne_eqb}
use lib.ListN.{length, get_or, set, length-set}
use lib.Seq.{get_or-set_same, get_or-set_other, set_out, ext_get_or}
use Rattle.std.proofs.lemmas.List.{set-set}
use Rattle.bits.specs.Bits.{bit, places, with_bit}
use Rattle.bits.specs.Rows.{Rows, cells_of}
use Rattle.bits.proofs.Laws.{with_bit_bit}
use Rattle.bits.proofs.Cells.{cell_of, cells_length}
use Rattle.state.specs.Cells.{put}
use Rattle.state.proofs.Laws.{put_beyond}
use Rattle.relations.proofs.Laws.{paired}

-- a place past the last, written into a row, changes none of its cells
beyond : (rows : Rows) (i j row : ℕ) (v : Bool) → places ≤ j → cells_of (set rows i (with_bit row j v)) ≡ cells_of (set rows i row)
beyond rows i j row v h = same_cells (set rows i (with_bit row j v)) (set rows i row) (length-set rows i _ ∙ sym (length-set rows i _)) (λ k m l. go k m l (ℕ_discrete k i) (dec_lt k (length rows)))
  where
    same_cells : (a b : Rows) → length a ≡ length b → ((k m : ℕ) → m < places → bit (get_or a k 0) m ≡ bit (get_or b k 0) m) → cells_of a ≡ cells_of b
    same_cells a b long each =
        ext_get_or _ (cells_of a) (cells_of b) (cells_length a ∙ ap (λ (n : ℕ). n * places) long ∙ sym (cells_length b))
        (λ k q. cell_of a k ∙ each _ _ (omega arith) ∙ sym (cell_of b k))

    go : (k m : ℕ) → m < places → Dec (k ≡ i) → Dec (k < length rows) → bit (get_or (set rows i (with_bit row j v)) k 0) m ≡ bit (get_or (set rows i row) k 0) m
    go k m l (no e) d = ap (λ (n : ℕ). bit n m) (get_or-set_other rows i k _ 0 e ∙ sym (get_or-set_other rows i k _ 0 e))
    go k m l (yes e) (no d) =
        let out : length rows ≤ i = omega arith in
        ap (λ (x : Rows). bit (get_or x k 0) m) (set_out rows i _ out ∙ sym (set_out rows i _ out))
    go k m l (yes e) (yes d) =
        let inside : i < length rows = omega arith in
        ap (λ (n : ℕ). bit (get_or (set rows i (with_bit row j v)) n 0) m) e ∙ ap (λ (n : ℕ). bit n m) (get_or-set_same rows i _ 0 inside)
        ∙ with_bit_bit row j v m l ∙ ap (λ (b : Bool). cond b v (bit row m)) (ne_eqb m j (λ (q : m ≡ j). omega arith))
        ∙ sym (ap (λ (n : ℕ). bit (get_or (set rows i row) n 0) m) e ∙ ap (λ (n : ℕ). bit n m) (get_or-set_same rows i _ 0 inside))

-- a place written in the row at hand is a pair put into the relation
pub at_hand : (rows : Rows) (i j row : ℕ) (v : Bool) → cells_of (set rows i (with_bit row j v)) ≡ put (cells_of (set rows i row)) i j v
at_hand rows i j row v = go (dec_lt j places) (dec_lt i (length rows))
  where
    go : Dec (j < places) → Dec (i < length rows) → cells_of (set rows i (with_bit row j v)) ≡ put (cells_of (set rows i row)) i j v
    go (no h) d =
        let past : places ≤ j = omega arith in
        beyond rows i j row v past ∙ sym (put_beyond (cells_of (set rows i row)) i j v past)
    go (yes h) (yes l) =
        sym (ap (λ (n : ℕ). cells_of (set (set rows i row) i (with_bit n j v))) (get_or-set_same rows i row 0 l) ∙ ap cells_of (set-set rows i row (with_bit row j v)))
        ∙ paired (set rows i row) i j v h
    go (yes h) (no l) =
        let out : length rows ≤ i = omega arith in
        let same : set rows i row ≡ rows = set_out rows i row out in
        ap cells_of (set_out rows i (with_bit row j v) out ∙ sym (set_out rows i (with_bit (get_or rows i 0) j v) out)) ∙ paired rows i j v h
        ∙ ap (λ (x : Rows). put (cells_of x) i j v) (sym same)
