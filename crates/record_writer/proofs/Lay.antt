-- Rows that are laid into a buffer as bytes, one behind the other: by a loop, four bytes a turn, and set by set.
-- Assumes nothing.
use Prim.Native.Nat.{ℕ, suc, ◌+◌, ◌*◌, ◌/◌, ◌%◌, ◌^◌, ◌≤◌, ◌<◌}
use mathlib.Core.Path.{◌≡◌, refl, sym, ap, ap₂, ◌∙◌}
use mathlib.Core.Bool.{Bool, false}
use mathlib.Core.List.{List, [], ◌∷◌, ◌++◌, append-nil, append_assoc}
use native.Mathlib.Omega.{arith}
use native.Mathlib.Nat.{zero-add, le_refl, mod-lt, zero-lt-suc}
use borrow.Rule.Slice.PartMut.{put_mid}
use lib.ListN.{length, get_or, take, drop, length-append}
use lib.Seq.{sets, length-sets, sets-eq, take-suc, take_all, length-take-le, drop-length}
use Rattle.std.proofs.lemmas.Slice.{put_mid-paste}
use Rattle.std.specs.Int.{w32, to_le_bytes}
use Rattle.bits.specs.Rows.{Rows, cells_of}
use Rattle.bits.proofs.Laws.{bit_shr, bit_mod, word_is}
use Rattle.bits.proofs.Cells.{cell_at, cells_length}
use Rattle.state.proofs.Stores.{sets_append}
use Rattle.records.specs.Record.{byte_of, bytes_of_places}
use Rattle.records.proofs.Places.{bytes_long, byte_at, bytes_append}
use Rattle.record_writer.specs.Laying.{laid}

-- byte q of row i, as the machine computes it
row_byte : (rows : Rows) (i q from : ℕ) → from ≡ q * 8 → q < 4 → get_or rows i 0 / 2 ^ from % 256 ≡ byte_of (cells_of rows) (i * 4 + q)
row_byte rows i q from e h =
    word_is 8 (get_or rows i 0 / 2 ^ from % 256) _ (mod-lt (get_or rows i 0 / 2 ^ from) (zero-lt-suc 255))
    (λ k l.
    let at : i * 32 + (from + k) ≡ (i * 4 + q) * 8 + k = omega arith in
    bit_mod 8 (get_or rows i 0 / 2 ^ from) k l ∙ bit_shr (get_or rows i 0) from k
    ∙ sym (ap (λ (m : ℕ). get_or (cells_of rows) m false) (sym at) ∙ cell_at rows i (from + k) (omega arith)))

pub laid_length : (b : List ℕ) (at : ℕ) (rows : Rows) → length (laid b at rows) ≡ length b
unfolding laid
laid_length b at rows = length-sets b at (bytes_of_places (length rows * 4) (cells_of rows))

-- ---- a loop, row by row
module _ (b : List ℕ) (at : ℕ) (rows : Rows) where
  -- the bytes of all rows
  abbrev all : List ℕ
  all = bytes_of_places (length rows * 4) (cells_of rows)

  -- the first m bytes are laid
  pub record Laid (m : ℕ) (after : List ℕ) : Type 0 where
    pub bytes : after ≡ sets b at (take m all)

  pub laid_none : Laid 0 b
  laid_none = record { bytes = refl }

  pub laid_as_long : (m : ℕ) (l : List ℕ) → Laid m l → length l ≡ length b
  laid_as_long m l t = ap length t.bytes ∙ length-sets b at (take m all)

  -- one byte more, in front of others
  one_more : (m : ℕ) (rest : List ℕ) → m < length all → take (suc m) all ++ rest ≡ take m all ++ (get_or all m 0 ∷ rest)
  one_more m rest h = ap (λ (x : List ℕ). x ++ rest) (take-suc all m 0 h) ∙ append_assoc (take m all) (get_or all m 0 ∷ []) rest

  module _ (i : ℕ) (h : i < length rows) where
    -- the four bytes of row i
    abbrev four : List ℕ
    four = get_or all (i * 4) 0 ∷ get_or all (suc (i * 4)) 0 ∷ get_or all (suc (suc (i * 4))) 0 ∷ get_or all (suc (suc (suc (i * 4)))) 0 ∷ []

    four_more : take ((i + 1) * 4) all ≡ take (i * 4) all ++ four
    four_more =
        let long : length all ≡ length rows * 4 = bytes_long (length rows * 4) (cells_of rows) in
        let end : (i + 1) * 4 ≡ suc (suc (suc (suc (i * 4)))) = omega arith in
        ap (λ (k : ℕ). take k all) end ∙ sym (append-nil (take (suc (suc (suc (suc (i * 4))))) all))
        ∙ one_more (suc (suc (suc (i * 4)))) _ (omega arith) ∙ one_more (suc (suc (i * 4))) _ (omega arith)
        ∙ one_more (suc (i * 4)) _ (omega arith) ∙ one_more (i * 4) _ (omega arith)

    byte_there : (q from k : ℕ) → from ≡ q * 8 → q < 4 → k ≡ i * 4 + q → get_or rows i 0 / 2 ^ from % 256 ≡ get_or all k 0
    byte_there q from k e g f =
        row_byte rows i q from e g ∙ sym (ap (λ (p : ℕ). get_or all p 0) f ∙ byte_at (length rows * 4) (cells_of rows) (i * 4 + q) (omega arith))

    four_is : to_le_bytes w32 (get_or rows i 0) ≡ four
    four_is =
        let low : get_or rows i 0 % 256 ≡ get_or all (i * 4) 0 = omega (arith, byte_there 0 0 (i * 4) refl (omega arith) (omega arith)) in
        let second = byte_there 1 8 (suc (i * 4)) refl (omega arith) (omega arith) in
        let third = byte_there 2 16 (suc (suc (i * 4))) refl (omega arith) (omega arith) in
        let high = byte_there 3 24 (suc (suc (suc (i * 4)))) refl (omega arith) (omega arith) in
        λ j. low j ∷ second j ∷ third j ∷ high j ∷ []

    -- one row more, written over a part of the buffer
    pub laid_more : (k : ℕ) (l ys : List ℕ) → k ≡ 4 → at + length rows * 4 ≤ length b → ys ≡ to_le_bytes w32 (get_or rows i 0) → Laid (i * 4) l
        → Laid ((i + 1) * 4) (put_mid (at + i * 4) k l ys)
    laid_more k l ys f room e t =
        let long : length all ≡ length rows * 4 = bytes_long (length rows * 4) (cells_of rows) in
        let front : length (take (i * 4) all) ≡ i * 4 = length-take-le (i * 4) all (omega arith) in
        let inside : at + i * 4 + 4 ≤ length l = omega (arith, laid_as_long (i * 4) l t) in
        record {
          bytes =
              put_mid-paste (at + i * 4) k l ys four 4 (e ∙ four_is) (sym f) refl
              ∙ sym (sets-eq four l (at + i * 4) inside)
              ∙ ap₂ (λ (x : List ℕ) (m : ℕ). sets x (at + m) four) t.bytes (sym front)
              ∙ sym (sets_append b at (take (i * 4) all) four) ∙ ap (sets b at) (sym four_more);
        }

  pub laid_all : (i : ℕ) (l : List ℕ) → length rows ≤ i → Laid (i * 4) l → l ≡ laid b at rows
  unfolding laid
  laid_all i l h t =
      let long : length all ≡ length rows * 4 = bytes_long (length rows * 4) (cells_of rows) in
      let enough : length all ≤ i * 4 = omega arith in
      t.bytes ∙ ap (sets b at) (take_all (i * 4) all enough)

-- ---- the places c, of which there are eight to each of n bytes, are laid from the front on
pub record Front (b : List ℕ) (n : ℕ) (c : List Bool) (after : List ℕ) : Type 0 where
  pub long : length c ≡ n * 8
  pub bytes : after ≡ sets b 0 (bytes_of_places n c)

module _ (b : List ℕ) where
  -- as many places as the bytes of the rows have
  cells_long : (rows : Rows) (m : ℕ) → length rows ≡ m → length (cells_of rows) ≡ m * 4 * 8
  cells_long rows m h = omega (arith, cells_length rows)

  pub front_first : (m : ℕ) (rows : Rows) {l : List ℕ} → length rows ≡ m → l ≡ laid b 0 rows → Front b (m * 4) (cells_of rows) l
  unfolding laid
  front_first m rows h e = record { long = cells_long rows m h; bytes = e ∙ ap (λ (k : ℕ). sets b 0 (bytes_of_places (k * 4) (cells_of rows))) h }

  pub front_more : (n m : ℕ) (c : List Bool) (rows : Rows) {l l' : List ℕ} → length rows ≡ m → l' ≡ laid l n rows → Front b n c l
      → Front b (n + m * 4) (c ++ cells_of rows) l'
  unfolding laid
  front_more n m c rows {l} h e t =
      record {
        long = length-append c (cells_of rows) ∙ omega (arith, t.long, cells_long rows m h);
        bytes =
            e
            ∙ ap₂ (λ (x : List ℕ) (k : ℕ). sets x n (bytes_of_places (k * 4) (cells_of rows))) t.bytes h
            ∙ ap (λ (i : ℕ). sets (sets b 0 (bytes_of_places n c)) i (bytes_of_places (m * 4) (cells_of rows))) (sym (bytes_long n c) ∙ sym (zero-add (length (bytes_of_places n c))))
            ∙ sym (sets_append b 0 (bytes_of_places n c) (bytes_of_places (m * 4) (cells_of rows)))
            ∙ ap (sets b 0) (sym (bytes_append n (m * 4) c (cells_of rows) t.long));
      }

  pub front_length : (n : ℕ) (c : List Bool) (l : List ℕ) → Front b n c l → length l ≡ length b
  front_length n c l t = ap length t.bytes ∙ length-sets b 0 (bytes_of_places n c)

  pub front_whole : (n : ℕ) (c : List Bool) (l : List ℕ) → length b ≡ n → Front b n c l → l ≡ bytes_of_places n c
  front_whole n c l h t =
      let room : 0 + length (bytes_of_places n c) ≡ length b = zero-add (length (bytes_of_places n c)) ∙ bytes_long n c ∙ sym h in
      t.bytes
      ∙ sets-eq (bytes_of_places n c) b 0 (rw room (le_refl (length b)))
      ∙ ap (λ (k : ℕ). bytes_of_places n c ++ drop k b) room
      ∙ ap (λ (r : List ℕ). bytes_of_places n c ++ r) (drop-length b)
      ∙ append-nil (bytes_of_places n c)
