-- The counts that are written for the areas of a row, the lowest first: with the areas that are left still to be counted, they are at each turn those
-- of the whole row.
-- Assumes nothing.
use Prim.Native.Nat.{ℕ, ◌^◌, ◌<◌}
use mathlib.Core.Path.{◌≡◌, refl, sym, ap, ap₂, ◌∙◌}
use mathlib.Core.Bool.{Bool, false, cond}
use mathlib.Core.List.{List}
use native.Mathlib.Decide.{ℕ_discrete}
use borrow.Author.Tests.{eq-eqb, ne_eqb}
use lib.ListN.{length, get_or, set, length-set}
use lib.Seq.{get_or-set_same, get_or-set_other}
use Rattle.bits.specs.Bits.{bit, places, lowest, without_lowest, Next}
use Rattle.bits.proofs.Laws.{bit_zero, lowest_is_right, lowest_inside, without_lowest_bit, without_lowest_fits}
use Rattle.state.proofs.Tabulate.{tabulate_is}
use Rattle.chain_finder.specs.Parts.{counted_as}

-- area a's count, once the areas of the row have the count n
abbrev counted : (n areas : ℕ) (counts : List ℕ) → ℕ → ℕ
counted n areas counts a = cond (bit areas a) n (get_or counts a 0)

pub record Counted (n areas : ℕ) (counts₀ : List ℕ) (rest : ℕ) (counts : List ℕ) : Type 0 where
  pub left : rest < 2 ^ places
  pub long : length counts ≡ places
  pub each : (a : ℕ) → a < places → counted n rest counts a ≡ counted n areas counts₀ a

module _ (n areas : ℕ) (counts₀ : List ℕ) where
  pub counted_none : areas < 2 ^ places → length counts₀ ≡ places → Counted n areas counts₀ areas counts₀
  counted_none fits long = record { left = fits; long = long; each = λ a h. refl }

  pub counted_more : (rest : ℕ) (counts : List ℕ) → (rest ≡ 0 → ⊥) → Counted n areas counts₀ rest counts
      → Counted n areas counts₀ (without_lowest rest) (set counts (lowest rest) n)
  counted_more rest counts some w =
      record {
        left = without_lowest_fits rest;
        long = length-set counts (lowest rest) n ∙ w.long;
        each = λ a h. step a h (ℕ_discrete a (lowest rest)) ∙ w.each a h;
      }
    where
      low : ℕ
      low = lowest rest

      inside : low < places
      inside = lowest_inside rest w.left some

      gone : bit (without_lowest rest) low ≡ false
      gone = without_lowest_bit rest low inside ∙ ap (λ (b : Bool). cond b false (bit rest low)) (eq-eqb low low refl)

      kept : (a : ℕ) → a < places → (a ≡ low → ⊥) → bit (without_lowest rest) a ≡ bit rest a
      kept a h ne = without_lowest_bit rest a h ∙ ap (λ (b : Bool). cond b false (bit rest a)) (ne_eqb a low ne)

      here : counted n (without_lowest rest) (set counts low n) low ≡ counted n rest counts low
      here =
          ap (λ (b : Bool). cond b n (get_or (set counts low n) low 0)) gone ∙ get_or-set_same counts low n 0 (rw w.long inside)
          ∙ sym (ap (λ (b : Bool). cond b n (get_or counts low 0)) ((lowest_is_right rest).is_set inside))

      step : (a : ℕ) → a < places → Dec (a ≡ low) → counted n (without_lowest rest) (set counts low n) a ≡ counted n rest counts a
      step a h (yes e) = rw e here
      step a h (no ne) = ap₂ (λ (b : Bool) (k : ℕ). cond b n k) (kept a h ne) (get_or-set_other counts low a n 0 ne)

  -- one step of the walk
  pub counted_next : {rest area left : ℕ} {counts : List ℕ} → Next rest area left → Counted n areas counts₀ rest counts → Counted n areas counts₀ left (set counts area n)
  counted_next {rest = rest} {counts = counts} t w = rw (t.left_is, t.place_is) (counted_more rest counts t.some w)

  pub counted_all : (rest : ℕ) (counts : List ℕ) → rest ≡ 0 → Counted n areas counts₀ rest counts → counts ≡ counted_as n areas counts₀
  unfolding counted_as
  counted_all rest counts none w =
      tabulate_is (counted n areas counts₀) places 0 counts w.long
      (λ a h. sym (ap (λ (b : Bool). cond b n (get_or counts a 0)) (ap (λ (r : ℕ). bit r a) none ∙ bit_zero a)) ∙ w.each a h)
