-- A header is the bytes of its fields, and the bytes of fields state them.
--     twice                 the place of a field
--     fields_stated         the first bytes of a file are those of the fields that it states there
--     field_written         field k of a header that was written is the k-th number, if it has 16 bits
-- Assumes nothing.
use Prim.Native.Nat.{ℕ, zero, suc, ◌+◌, ◌*◌, ◌/◌, ◌%◌, ◌≤◌, ◌<◌}
use mathlib.Core.Path.{◌≡◌, refl, sym, ap, ap₂, ◌∙◌}
use mathlib.Core.List.{List, [], ◌∷◌, ◌++◌}
use native.Mathlib.Nat.{not-suc-le-zero, le_of_suc-le-suc}
use native.Mathlib.Numerals.{add-one}
use native.Mathlib.Omega.{arith}
use lib.ListN.{length, get_or, take, drop}
use lib.Seq.{drop-cons}
use Rattle.site_format.specs.Format.{AreBytes, field}
use Rattle.site_encoding.specs.Encode.{field_bytes}

abbrev pub twice : ℕ → ℕ
twice zero = zero
twice (suc n) = suc (suc (twice n))

-- n fields as the file states them, from a place on
abbrev pub fields_from : (file : List ℕ) (at n : ℕ) → List ℕ
fields_from file at zero = []
fields_from file at (suc n) = field file at ∷ fields_from file (suc (suc at)) n

-- the two bytes of a field
low : (a b : ℕ) → a < 256 → (a + 256 * b) % 256 ≡ a
low a b h = omega arith

high : (a b : ℕ) → a < 256 → (a + 256 * b) / 256 ≡ b
high a b h = omega arith

two_bytes : (file : List ℕ) → AreBytes file → (at : ℕ) (rest : List ℕ) → (field file at % 256) ∷ (field file at / 256) ∷ rest ≡ get_or file at 0 ∷ get_or file (suc at) 0 ∷ rest
two_bytes file bytes at rest =
    ap₂ (λ (a b : ℕ). a ∷ b ∷ rest) (low (get_or file at 0) (get_or file (at + 1) 0) (bytes at))
    (high (get_or file at 0) (get_or file (at + 1) 0) (bytes at) ∙ ap (λ (k : ℕ). get_or file k 0) (add-one at))

pub fields_stated : (file : List ℕ) → AreBytes file → (n at : ℕ) → at + twice n ≤ length file → take (twice n) (drop at file) ≡ field_bytes (fields_from file at n)
fields_stated file bytes zero at h = refl
fields_stated file bytes (suc n) at h =
    let here : at < length file = omega arith in
    let next : suc at < length file = omega arith in
    let rest : suc (suc at) + twice n ≤ length file = omega arith in
    ap (take (suc (suc (twice n)))) (drop-cons file at 0 here ∙ ap (λ (l : List ℕ). get_or file at 0 ∷ l) (drop-cons file (suc at) 0 next))
    ∙ ap (λ (l : List ℕ). get_or file at 0 ∷ get_or file (suc at) 0 ∷ l) (fields_stated file bytes n (suc (suc at)) rest)
    ∙ sym (two_bytes file bytes at (field_bytes (fields_from file (suc (suc at)) n)))

-- past the two bytes of a field
shift : (a b : ℕ) (l : List ℕ) (m : ℕ) → field (a ∷ b ∷ l) (suc (suc m)) ≡ field l m
shift a b l m = let e : suc (suc m) + 1 ≡ suc (suc (m + 1)) = omega arith in ap (λ (k : ℕ). get_or l m 0 + 256 * get_or (a ∷ b ∷ l) k 0) e

pub field_written : (fields rest : List ℕ) (k : ℕ) → k < length fields → get_or fields k 0 < 65536 → field (field_bytes fields ++ rest) (twice k) ≡ get_or fields k 0
field_written [] rest k h b = absurd (not-suc-le-zero h)
field_written (n ∷ fields) rest zero h b = omega arith
field_written (n ∷ fields) rest (suc k) h b = shift (n % 256) (n / 256) (field_bytes fields ++ rest) (twice k) ∙ field_written fields rest k (le_of_suc-le-suc h) b
