-- The walk: where n steps lead from an area at hand to the area, it is a chain of n steps from one, and none of them is lower.
--     passes_open                 a list of n + 1 areas leads in n steps
--     Walked, walk_passes         the walk is such a list
--     walk_lowest                 and none of its length that starts at hand is lower
--     leads_same, walk_same       what is at hand and the moves matter among the areas alone
-- Assumes nothing.
use Prim.Native.Nat.{ℕ, zero, suc, ◌<◌}
use mathlib.Core.Path.{◌≡◌, refl, ap, ap₂, subst, ◌∙◌}
use mathlib.Core.Logic.{◌⊎◌, inl, inr}
use mathlib.Core.Bool.{Bool, ◌&&◌}
use mathlib.Core.List.{List, [], ◌∷◌}
use native.Mathlib.Omega.{arith}
use borrow.Author.Tests.{eqb-true, eq-eqb}
use lib.Dec.{T}
use lib.ListN.{length}
use Rattle.state.specs.Site.{area, limit}
use Rattle.state.proofs.Below.{some_by, some_same, first_under, first_found, first_same}
use Rattle.state.proofs.Bools.{and_both, and_left, and_right, is_true, fails, holds}
use Rattle.chains.specs.Chains.{Passes, Lower}
use Rattle.chains.specs.Chains as list
use Rattle.chains.specs.First.{leads_in, is_open, lowest_open, walk}
use Rattle.chains.proofs.Lists.{passes_area, passes_front, lower_cases, lower_some}

module _ (move : ℕ → ℕ → Bool) (a : ℕ) where
  -- the test of an area at hand
  abbrev leads_on : (start : ℕ → Bool) (n s : ℕ) → Bool
  leads_on start n s = start s && leads_in move a n s

  -- ---- a list of areas leads in as many steps
  passes_leads : {s : ℕ} {areas : List ℕ} → Passes move s a areas → (n : ℕ) → length areas ≡ suc n → T (leads_in move a n s)
  unfolding leads_in
  passes_leads (list.arrived h) zero e = holds (eq-eqb a a refl)
  passes_leads (list.arrived h) (suc n) e = absurd (omega arith)
  passes_leads (list.passing h m p) zero e = let size = ap length (passes_front move p).1 in absurd (omega arith)
  passes_leads (list.passing {s = s} {r = r} h m p) (suc n) e =
      some_by (leads_on (move s) n) (limit area) r (passes_area move p) (and_both (move s r) (leads_in move a n r) m (passes_leads p n (omega arith)))

  pub passes_open : (start : ℕ → Bool) {s : ℕ} {areas : List ℕ} (n : ℕ) → T (start s) → Passes move s a areas → length areas ≡ suc n → T (is_open move a n start)
  passes_open start {s = s} n t p e =
      some_by (leads_on start n) (limit area) s (passes_area move p) (and_both (start s) (leads_in move a n s) t (passes_leads p n e))

  -- ---- the walk is one
  pub record Walked (start : ℕ → Bool) (n : ℕ) : Type 0 where
    pub starts : T (start (lowest_open move a n start))
    pub passes : Passes move (lowest_open move a n start) a (walk move a n start)
    pub sized : length (walk move a n start) ≡ suc n

  pub walk_passes : (n : ℕ) (start : ℕ → Bool) → T (is_open move a n start) → Walked start n
  unfolding leads_in walk
  walk_passes zero start t =
      let found = first_found (leads_on start 0) (limit area) t in
      let s = lowest_open move a 0 start in
      let here : s ≡ a = eqb-true s a (is_true _ (and_right (start s) (leads_in move a 0 s) found.1)) in
      record {
        starts = and_left (start s) (leads_in move a 0 s) found.1;
        passes = subst (λ (c : ℕ). Passes move s c (s ∷ [])) here (list.arrived found.0);
        sized = refl;
      }
  walk_passes (suc n) start t =
      let found = first_found (leads_on start (suc n)) (limit area) t in
      let s = lowest_open move a (suc n) start in
      let later = walk_passes n (move s) (and_right (start s) (leads_in move a (suc n) s) found.1) in
      record {
        starts = and_left (start s) (leads_in move a (suc n) s) found.1;
        passes = list.passing found.0 later.starts later.passes;
        sized = ap suc later.sized;
      }

  -- ---- and none of its length is lower
  -- no area at hand that leads on is below the lowest
  not_below : (n : ℕ) (start : ℕ → Bool) {s : ℕ} {areas : List ℕ} → T (start s) → Passes move s a areas → length areas ≡ suc n → s < lowest_open move a n start → ⊥
  not_below n start {s = s} t p e h =
      fails (first_under (leads_on start n) (limit area) s h) (and_both (start s) (leads_in move a n s) t (passes_leads p n e))

  pub walk_lowest : (n : ℕ) (start : ℕ → Bool) {s : ℕ} {areas : List ℕ} → T (start s) → Passes move s a areas → length areas ≡ suc n
      → Lower areas (walk move a n start) → ⊥
  unfolding walk
  walk_lowest zero start t (list.arrived h) e l = go (lower_cases l)
    where
      go : (a < lowest_open move a 0 start) ⊎ ((a ≡ lowest_open move a 0 start) × Lower [] []) → ⊥
      go (inl b) = not_below 0 start t (list.arrived h) e b
      go (inr b) = let some = lower_some b.1 in absurd (omega arith)
  walk_lowest (suc n) start t (list.arrived h) e l = absurd (omega arith)
  walk_lowest zero start t (list.passing h m p) e l = let size = ap length (passes_front move p).1 in absurd (omega arith)
  walk_lowest (suc n) start t (list.passing {s = s} {r = r} {areas = rest} h m p) e l =
      go (λ near. walk_lowest n (move first) near p (omega arith)) (lower_cases l)
    where
      first : ℕ
      first = lowest_open move a (suc n) start

      go : (T (move first r) → Lower rest (walk move a n (move first)) → ⊥) → (s < first) ⊎ ((s ≡ first) × Lower rest (walk move a n (move first))) → ⊥
      go later (inl b) = not_below (suc n) start t (list.passing h m p) e b
      go later (inr b) = later (subst (λ (c : ℕ). T (move c r)) b.0 m) b.1

-- ---- what is at hand and the moves matter among the areas alone
module _ (move move' : ℕ → ℕ → Bool) (same : (s r : ℕ) → s < limit area → r < limit area → move s r ≡ move' s r) (a : ℕ) where
  pub leads_same : (n s : ℕ) → s < limit area → leads_in move a n s ≡ leads_in move' a n s
  unfolding leads_in
  leads_same zero s h = refl
  leads_same (suc n) s h = some_same _ _ (limit area) (λ r k. ap₂ ◌&&◌ (same s r h k) (leads_same n r k))

  pub walk_same : (start start' : ℕ → Bool) → ((s : ℕ) → s < limit area → start s ≡ start' s) → (n : ℕ) → T (is_open move a n start)
      → walk move a n start ≡ walk move' a n start'
  unfolding walk leads_in
  walk_same start start' starts zero t = ap (λ (s : ℕ). s ∷ []) (first_same _ _ (limit area) (λ s h. ap₂ ◌&&◌ (starts s h) (leads_same 0 s h)) t)
  walk_same start start' starts (suc n) t =
      let found = first_found (leads_on move a start (suc n)) (limit area) t in
      let first = lowest_open move a (suc n) start in
      let here : first ≡ lowest_open move' a (suc n) start' = first_same _ _ (limit area) (λ s h. ap₂ ◌&&◌ (starts s h) (leads_same (suc n) s h)) t in
      ap (λ (l : List ℕ). first ∷ l) (walk_same (move first) (move' first) (λ r h. same first r found.0 h) n (and_right (start first) (leads_in move a (suc n) first) found.1))
      ∙ ap (λ (s : ℕ). s ∷ walk move' a n (move' s)) here
