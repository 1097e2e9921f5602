-- Four bytes, the low byte first, are a row: its places are those of the bytes.
-- Assumes nothing.
use Prim.Native.Nat.{ℕ, zero, suc, ◌+◌, ◌-◌, ◌*◌, ◌/◌, ◌%◌, ◌^◌, ◌≤◌, ◌<◌}
use mathlib.Core.Path.{◌≡◌, refl, sym, ap, ap₂, ◌∙◌}
use mathlib.Core.List.{List, [], ◌∷◌}
use native.Mathlib.Omega.{arith}
use native.Mathlib.Decide.{dec_lt}
use lib.ListN.{get_or}
use Rattle.std.proofs.lemmas.Nat.{le_bytes_4}
use Rattle.std.specs.Int.{w32, to_le_bytes, from_le_bytes}
use Rattle.bits.specs.Bits.{bit, word}
use Rattle.bits.proofs.Laws.{bit_mod, bit_shr, word_is}
use Rattle.records.specs.Record.{is_set}

-- a place of a row is one of the byte that stands there
in_byte : (row from j x : ℕ) → from ≤ j → j < from + 8 → row / 2 ^ from % 256 ≡ x → bit row j ≡ bit x (j - from)
in_byte row from j x l h e =
    let place : from + (j - from) ≡ j = omega arith in
    ap (bit row) (sym place) ∙ sym (bit_shr row from (j - from)) ∙ sym (bit_mod 8 (row / 2 ^ from) (j - from) (omega arith))
    ∙ ap (λ (y : ℕ). bit y (j - from)) e

module _ (bytes : List ℕ) (at i : ℕ) where
  -- the four bytes from at + i * 4 on
  abbrev four : List ℕ
  four =
      get_or bytes (at + i * 4) 0 ∷ get_or bytes (at + i * 4 + 1) 0 ∷ get_or bytes (at + i * 4 + 2) 0 ∷ get_or bytes (at + i * 4 + 3) 0 ∷ []

  pub row_of_bytes : (row : ℕ) → ((k : ℕ) → get_or bytes k 0 < 256) → row < 2 ^ 32 → row ≡ from_le_bytes w32 four
      → row ≡ word 32 (λ j. is_set bytes at (i * 32 + j))
  row_of_bytes row small fits e = word_is 32 row _ fits each
    where
      fits_each : (q : ℕ) → get_or four q 0 < 256
      fits_each zero = small (at + i * 4)
      fits_each (suc zero) = small (at + i * 4 + 1)
      fits_each (suc (suc zero)) = small (at + i * 4 + 2)
      fits_each (suc (suc (suc zero))) = small (at + i * 4 + 3)
      fits_each (suc (suc (suc (suc q)))) = omega arith

      bytes_of_row : to_le_bytes w32 row ≡ four
      bytes_of_row = le_bytes_4 four row refl fits_each e

      -- a place of the byte that begins at place `from` is one of byte k of them all
      there : (j from k : ℕ) → j < 32 → from ≤ j → j < from + 8 → k ≡ at + (i * 32 + j) / 8 → j - from ≡ (i * 32 + j) % 8
          → row / 2 ^ from % 256 ≡ get_or bytes k 0 → bit row j ≡ is_set bytes at (i * 32 + j)
      there j from k h l u f g b = in_byte row from j (get_or bytes k 0) l u b ∙ ap₂ bit (ap (λ (m : ℕ). get_or bytes m 0) f) g

      each : (j : ℕ) → j < 32 → bit row j ≡ is_set bytes at (i * 32 + j)
      each j h = go (dec_lt j 8) (dec_lt j 16) (dec_lt j 24)
        where
          go : Dec (j < 8) → Dec (j < 16) → Dec (j < 24) → bit row j ≡ is_set bytes at (i * 32 + j)
          go (yes l) m n =
              let low : row % 256 ≡ get_or bytes (at + i * 4) 0 = ap (λ (x : List ℕ). get_or x 0 0) bytes_of_row in
              there j 0 (at + i * 4) h (omega arith) (omega arith) (omega arith) (omega arith) (omega arith)
          go (no l) (yes m) n = there j 8 (at + i * 4 + 1) h (omega arith) (omega arith) (omega arith) (omega arith) (ap (λ (x : List ℕ). get_or x 1 0) bytes_of_row)
          go (no l) (no m) (yes n) = there j 16 (at + i * 4 + 2) h (omega arith) (omega arith) (omega arith) (omega arith) (ap (λ (x : List ℕ). get_or x 2 0) bytes_of_row)
          go (no l) (no m) (no n) = there j 24 (at + i * 4 + 3) h (omega arith) (omega arith) (omega arith) (omega arith) (ap (λ (x : List ℕ). get_or x 3 0) bytes_of_row)
