-- A row whose places are those that meet a test: its lowest is the first of them, and it is without places where none meets it.
-- Assumes nothing.
use Prim.Native.Nat.{ℕ, ◌^◌, ◌<◌, ◌≤◌}
use mathlib.Core.Path.{◌≡◌, refl, sym, ◌∙◌}
use mathlib.Core.Bool.{Bool, true, false, not}
use native.Mathlib.Omega.{arith}
use native.Mathlib.Decide.{dec_lt}
use lib.Dec.{T}
use Rattle.bits.specs.Bits.{bit, places, is_empty, Lowest, lowest}
use Rattle.bits.proofs.Laws.{empty_decided, lowest_is_right}
use Rattle.state.specs.Below.{some_below, first_below}
use Rattle.state.proofs.Below.{some_by, some_at, first_is, first_none}
use Rattle.state.proofs.Bools.{same_test, is_false, fails, so_not, not_so}

module _ (row : ℕ) (test : ℕ → Bool) (each : (k : ℕ) → k < places → bit row k ≡ test k) where
  pub lowest_first : lowest row ≡ first_below places test
  lowest_first = go (dec_lt (lowest row) places)
    where
      low : Lowest row (lowest row)
      low = lowest_is_right row

      go : Dec (lowest row < places) → lowest row ≡ first_below places test
      go (yes h) =
          sym (first_is test places (lowest row) h (sym (each (lowest row) h) ∙ low.is_set h)
          (λ m l. sym (each m (omega arith)) ∙ low.none_lower m l))
      go (no h) =
          let most : lowest row ≤ places = low.at_most in
          let none : lowest row ≡ places = omega arith in
          none ∙ sym (first_none test places (λ m l. sym (each m l) ∙ low.none_lower m (omega arith)))

  pub some_place : row < 2 ^ places → some_below places test ≡ not (is_empty row)
  some_place fits = same_test (some_below places test) (not (is_empty row)) there back
    where
      there : T (some_below places test) → T (not (is_empty row))
      there t =
          let s = some_at test places t in
          so_not (is_empty row) (λ e. fails (sym (each s.place s.below) ∙ (empty_decided row fits).0 e s.place s.below) s.met)

      back : T (not (is_empty row)) → T (some_below places test)
      back t = go (some_below places test) refl
        where
          go : (b : Bool) → some_below places test ≡ b → T b
          go true e = tt
          go false e =
              not_so (is_empty row) t
              ((empty_decided row fits).1 (λ k h. each k h ∙ is_false (test k) (λ m. fails e (some_by test places k h m))))
