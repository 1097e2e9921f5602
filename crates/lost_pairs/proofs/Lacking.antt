-- A walk over the areas of a row, the lowest first, for one without access: the areas that are left have it or lack it as the whole row does.
-- Assumes nothing.
use Prim.Native.Nat.{ℕ, ◌^◌, ◌<◌}
use mathlib.Core.Path.{◌≡◌, refl, sym, ap, ap₂, ◌∙◌}
use mathlib.Core.Bool.{Bool, false, ◌&&◌, cond, and-false}
use mathlib.Core.List.{List}
use native.Mathlib.Omega.{arith}
use native.Mathlib.Decide.{ℕ_discrete}
use borrow.Author.Tests.{eq-eqb, ne_eqb}
use lib.Dec.{eqb}
use lib.ListN.{get_or}
use Rattle.std.proofs.Common.{Some, None}
use Rattle.bits.specs.Bits.{bit, places, lowest, without_lowest, Next}
use Rattle.bits.proofs.Laws.{bit_zero, lowest_is_right, lowest_inside, without_lowest_bit, without_lowest_fits}
use Rattle.state.specs.Below.{found_below}
use Rattle.state.proofs.Below.{found_is, found_none}
use Rattle.access.specs.Answer.{unreached}

-- an area of the row without access, by the counts
abbrev lacks : (areas : ℕ) (counts : List ℕ) → ℕ → Bool
lacks areas counts a = bit areas a && eqb (get_or counts a 0) unreached

pub record Passed (areas : ℕ) (counts : List ℕ) (rest : ℕ) : Type 0 where
  pub left : rest < 2 ^ places
  pub each : (a : ℕ) → a < places → lacks rest counts a ≡ lacks areas counts a

module _ (areas : ℕ) (counts : List ℕ) where
  pub passed_none : areas < 2 ^ places → Passed areas counts areas
  passed_none fits = record { left = fits; each = λ a h. refl }

  module _ (rest : ℕ) (w : Passed areas counts rest) where
    module _ (some : rest ≡ 0 → ⊥) where
      abbrev low : ℕ
      low = lowest rest

      inside : low < places
      inside = lowest_inside rest w.left some

      -- the lowest lacks access: it is the first
      lowest_found : get_or counts (lowest rest) 0 ≡ unreached → Some (lowest rest) ≡ found_below places (lacks areas counts)
      lowest_found e =
          sym (found_is (lacks areas counts) places low inside
          (sym (w.each low inside) ∙ ap₂ (λ (x y : Bool). x && y) ((lowest_is_right rest).is_set inside) (eq-eqb (get_or counts low 0) unreached e))
          (λ m h. sym (w.each m (omega (arith, inside, h))) ∙ ap (λ (b : Bool). b && eqb (get_or counts m 0) unreached) ((lowest_is_right rest).none_lower m h)))

      -- it has access: the others are left
      lowest_passed : (get_or counts (lowest rest) 0 ≡ unreached → ⊥) → Passed areas counts (without_lowest rest)
      lowest_passed ne = record { left = without_lowest_fits rest; each = λ a h. step a h (ℕ_discrete a low) ∙ w.each a h }
        where
          step : (a : ℕ) → a < places → Dec (a ≡ low) → lacks (without_lowest rest) counts a ≡ lacks rest counts a
          step a h (yes q) =
              let has : eqb (get_or counts a 0) unreached ≡ false = rw q (ne_eqb (get_or counts low 0) unreached ne) in
              ap (λ (b : Bool). bit (without_lowest rest) a && b) has ∙ and-false (bit (without_lowest rest) a)
              ∙ sym (ap (λ (b : Bool). bit rest a && b) has ∙ and-false (bit rest a))
          step a h (no q) =
              ap (λ (b : Bool). b && eqb (get_or counts a 0) unreached)
              (without_lowest_bit rest a h ∙ ap (λ (b : Bool). cond b false (bit rest a)) (ne_eqb a low q))

  -- the same of one step of the walk
  pub passed_found : {rest area left : ℕ} → Next rest area left → Passed areas counts rest → get_or counts area 0 ≡ unreached
      → Some area ≡ found_below places (lacks areas counts)
  passed_found {rest = rest} t w e = ap Some t.place_is ∙ lowest_found rest w t.some (ap (λ (a : ℕ). get_or counts a 0) (sym t.place_is) ∙ e)

  pub passed_next : {rest area left : ℕ} → Next rest area left → Passed areas counts rest → (get_or counts area 0 ≡ unreached → ⊥) → Passed areas counts left
  passed_next {rest = rest} t w ne = rw t.left_is (lowest_passed rest w t.some (λ e. ne (ap (λ (a : ℕ). get_or counts a 0) t.place_is ∙ e)))

  module _ (rest : ℕ) (w : Passed areas counts rest) where
    -- none is left: no area of the row lacks it
    pub passed_all : rest ≡ 0 → None ≡ found_below places (lacks areas counts)
    passed_all none =
        sym (found_none (lacks areas counts) places
        (λ a h. sym (w.each a h) ∙ ap (λ (b : Bool). b && eqb (get_or counts a 0) unreached) (ap (λ (r : ℕ). bit r a) none ∙ bit_zero a)))
