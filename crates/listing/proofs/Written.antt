-- A loop that writes the places of a row from the front: after k turns the places below k are those of a test, and no other is in the row.
-- Assumes nothing.
use Prim.Native.Nat.{ℕ, ◌+◌, ◌^◌, ◌≤◌, ◌<◌}
use mathlib.Core.Path.{◌≡◌, sym, ap, ◌∙◌}
use mathlib.Core.Bool.{Bool, ◌&&◌, cond}
use native.Mathlib.Omega.{arith}
use native.Mathlib.Decide.{dec_lt, ℕ_discrete}
use borrow.Author.Tests.{lt-ltb, le-ltb, eq-eqb, ne_eqb}
use lib.Dec.{ltb, eqb}
use lib.Pow.{pow_pos}
use Rattle.bits.specs.Bits.{bit, places, word, with_bit}
use Rattle.bits.proofs.Laws.{bit_zero, word_is, with_bit_bit, with_bit_fits}

pub record Written (test : ℕ → Bool) (k out : ℕ) : Type 0 where
  pub fits : out < 2 ^ places
  pub front : (j : ℕ) → j < places → bit out j ≡ (ltb j k && test j)

module _ (test : ℕ → Bool) where
  pub written_none : Written test 0 0
  written_none = record { fits = pow_pos places; front = λ j h. bit_zero j ∙ sym (ap (λ (b : Bool). b && test j) (le-ltb j 0 (omega arith))) }

  pub written_more : (k out : ℕ) (v : Bool) → v ≡ test k → Written test k out → Written test (k + 1) (with_bit out k v)
  written_more k out v e w = record { fits = with_bit_fits out k v; front = λ j h. with_bit_bit out k v j h ∙ at j h (ℕ_discrete j k) }
    where
      at : (j : ℕ) → j < places → Dec (j ≡ k) → cond (eqb j k) v (bit out j) ≡ (ltb j (k + 1) && test j)
      at j h (yes q) =
          let below : j < k + 1 = omega arith in
          ap (λ (b : Bool). cond b v (bit out j)) (eq-eqb j k q) ∙ e ∙ ap test (sym q) ∙ sym (ap (λ (b : Bool). b && test j) (lt-ltb j (k + 1) below))
      at j h (no q) = ap (λ (b : Bool). cond b v (bit out j)) (ne_eqb j k q) ∙ w.front j h ∙ ap (λ (b : Bool). b && test j) (same (dec_lt j k))
        where
          same : Dec (j < k) → ltb j k ≡ ltb j (k + 1)
          same (yes l) =
              let below : j < k + 1 = omega arith in
              lt-ltb j k l ∙ sym (lt-ltb j (k + 1) below)
          same (no l) =
              let above : k ≤ j = omega arith in
              let far : k + 1 ≤ j = omega arith in
              le-ltb j k above ∙ sym (le-ltb j (k + 1) far)

  pub written_all : (k out : ℕ) → places ≤ k → Written test k out → out ≡ word places test
  written_all k out h w =
      word_is places out test w.fits
      (λ j l.
      let below : j < k = omega arith in
      w.front j l ∙ ap (λ (b : Bool). b && test j) (lt-ltb j k below))
