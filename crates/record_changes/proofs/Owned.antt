-- A user owns an area where one of the four bytes of his row is not 0.
-- Assumes nothing.
use Prim.Native.Nat.{ℕ, ◌+◌, ◌-◌, ◌*◌, ◌/◌, ◌%◌, ◌<◌}
use mathlib.Core.Path.{◌≡◌, refl, sym, ap, ap₂, ◌∙◌}
use mathlib.Core.Bool.{Bool, true, false, ◌&&◌, not, and-true, and-false}
use mathlib.Core.List.{List}
use native.Mathlib.Omega.{arith}
use borrow.Author.Tests.{eq-eqb, ne_eqb}
use lib.Dec.{eqb, ltb→lt}
use lib.ListN.{length, get_or, drop, length-drop}
use lib.Pow.{pow_pos}
use lib.Seq.{length-take-le, get_or-take, get_or-drop}
use Rattle.std.specs.List.{list_any, slice_range}
use Rattle.std.proofs.lemmas.List.Elements.{All-from_get_or}
use Rattle.std.proofs.lemmas.List.Folds.{list_any_at, list_any_none}
use Rattle.bits.specs.Bits.{bit}
use Rattle.bits.proofs.Laws.{equal_bits, bit_zero}
use Rattle.state.specs.Cells.{width, pair}
use Rattle.state.specs.Walk.{has_first}
use Rattle.state.specs.Site.{Site, user, listed, owner, cells, with_listed}
use Rattle.state.proofs.Bools.{is_false, holds, fails}
use Rattle.state.proofs.Laws.{pair_area, has_first_lem, list_as_is}
use Rattle.records.proofs.Known.{record_byte}
use Rattle.records.proofs.Laws.{pair_byte}
use Rattle.successors.specs.Successor.{unlist_idle}
use Rattle.record_changes.proofs.Written.{Holds, is_a_record, holds_length}

-- a byte in which no bit is set is 0
no_bits : (x : ℕ) → x < 256 → ((k : ℕ) → k < 8 → bit x k ≡ false) → x ≡ 0
no_bits x small e = equal_bits 8 x 0 small (pow_pos 8) (λ k h. e k h ∙ sym (bit_zero k))

-- ---- the row of a user
module _ (bytes : List ℕ) (s : Site) (t : Holds bytes s) (u : ℕ) (hu : u < 32) where
  -- byte q of his row
  abbrev byte : ℕ → ℕ
  byte q = get_or bytes (16 + u * 4 + q) 0

  abbrev owned : List Bool
  owned = cells s owner

  small : (q : ℕ) → q < 4 → byte q < 256
  small q h = ltb→lt (byte q) 256 (record_byte bytes (is_a_record bytes s t) (16 + u * 4 + q) (omega (arith, holds_length bytes s t)))

  pair_bit : (j : ℕ) → j < width → bit (byte (j / 8)) (j % 8) ≡ pair owned u j
  pair_bit j h =
      let e : 16 + u * 4 + j / 8 ≡ 16 + (u * 4 + j / 8) = omega arith in
      ap₂ (λ (l : List ℕ) (m : ℕ). bit (get_or l m 0) (j % 8)) t.same e ∙ pair_byte s t.shaped owner u j hu h

  -- bit k of byte q is a pair's
  bit_pair : (q k : ℕ) → q < 4 → k < 8 → bit (byte q) k ≡ pair owned u (q * 8 + k)
  bit_pair q k hq hk =
      let b : q ≡ (q * 8 + k) / 8 = omega arith in
      let p : k ≡ (q * 8 + k) % 8 = omega arith in
      ap₂ (λ (m i : ℕ). bit (byte m) i) b p ∙ pair_bit (q * 8 + k) (omega arith)

  -- his row
  abbrev row : List ℕ
  row = slice_range bytes (16 + u * 4) (16 + u * 4 + 4)

  long : length row ≡ 4
  long = length-take-le (16 + u * 4 + 4 - (16 + u * 4)) (drop (16 + u * 4) bytes) (omega (arith, length-drop (16 + u * 4) bytes, holds_length bytes s t)) ∙ omega arith

  row_byte : (q : ℕ) → q < 4 → get_or row q 0 ≡ byte q
  row_byte q h = get_or-take (16 + u * 4 + 4 - (16 + u * 4)) (drop (16 + u * 4) bytes) q 0 (omega arith) ∙ get_or-drop (16 + u * 4) bytes q 0

  -- the test that the machine makes
  abbrev is_set : ℕ → Bool
  is_set x = not (eqb x 0)

  pub owns_any_is : list_any is_set row ≡ has_first owned u
  owns_any_is = go (has_first owned u) refl
    where
      go : (b : Bool) → has_first owned u ≡ b → list_any is_set row ≡ b
      go true e =
          let found = (has_first_lem owned u).0 (holds e) in
          let j = found.0 in
          let h : j < width = pair_area owned u j found.1 in
          let q : j / 8 < 4 = omega arith in
          let some : byte (j / 8) ≡ 0 → ⊥ = λ z. fails (sym (pair_bit j h) ∙ ap (λ (x : ℕ). bit x (j % 8)) z ∙ bit_zero (j % 8)) found.1 in
          list_any_at is_set row (j / 8) 0 (rw long q) (ap is_set (row_byte (j / 8) q) ∙ ap not (ne_eqb (byte (j / 8)) 0 some))
      go false e =
          list_any_none is_set row
          (All-from_get_or (λ (x : ℕ). is_set x ≡ false) row 0
          (λ q h.
          let hq : q < 4 = omega (arith, long) in
          let none : byte q ≡ 0 = no_bits (byte q) (small q hq) (λ k hk. bit_pair q k hq hk ∙ is_false _ (λ p. fails e ((has_first_lem owned u).1 (q * 8 + k, p)))) in
          ap is_set (row_byte q hq) ∙ ap not (eq-eqb (byte q) 0 none)))

-- ---- a user who owns an area is listed as he was, and one who owns none is not
pub keeps : (s : Site) (u : ℕ) → has_first (cells s owner) u ≡ true → s ≡ unlist_idle s u
keeps s u e = sym (ap (λ (b : Bool). with_listed s user u (listed s user u && b)) e ∙ ap (with_listed s user u) (and-true (listed s user u)) ∙ list_as_is s user u)

pub goes : (s : Site) (u : ℕ) → has_first (cells s owner) u ≡ false → with_listed s user u false ≡ unlist_idle s u
goes s u e = sym (ap (λ (b : Bool). with_listed s user u (listed s user u && b)) e ∙ ap (with_listed s user u) (and-false (listed s user u)))
