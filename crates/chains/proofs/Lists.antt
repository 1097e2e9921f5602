-- Chains as lists of areas: they are the chains that access rests on; and the order of two lists.
--     passes_area, passes_front         the area where a list starts is one, and is its first
--     passes_more                       one area more at the end
--     Listed, chain_list, list_chain    a chain of n steps is a list of n + 1 areas, and the other way round
--     lower_cases, lower_some           what the order says of two lists
--     lower_compares                    that it compares any two of equal length
-- Assumes nothing.
use Prim.Native.Nat.{ℕ, suc, ◌+◌, ◌<◌}
use mathlib.Core.Path.{◌≡◌, refl, ap, subst}
use mathlib.Core.Logic.{◌⊎◌, inl, inr}
use mathlib.Core.Bool.{Bool}
use mathlib.Core.List.{List, [], ◌∷◌, ◌++◌}
use native.Mathlib.Omega.{arith}
use native.Mathlib.Decide.{dec_lt}
use native.Mathlib.Nat.{zero-add}
use lib.Dec.{T}
use lib.ListN.{length, length-append}
use Rattle.state.specs.Site.{area, limit}
use Rattle.access.specs.Chain.{Chain, here, onward}
use Rattle.chains.specs.Chains.{Passes, Lower, lower_here, lower_behind}
use Rattle.chains.specs.Chains as list

module _ (move : ℕ → ℕ → Bool) where
  pub passes_area : {s a : ℕ} {areas : List ℕ} → Passes move s a areas → s < limit area
  passes_area (list.arrived h) = h
  passes_area (list.passing h m p) = h

  pub passes_front : {s a : ℕ} {areas : List ℕ} → Passes move s a areas → (rest : List ℕ) × (areas ≡ s ∷ rest)
  passes_front (list.arrived h) = ([], refl)
  passes_front (list.passing {areas = rest} h m p) = (rest, refl)

  -- one step more at the end
  passes_more : {s r a : ℕ} {areas : List ℕ} → Passes move s r areas → a < limit area → T (move r a) → Passes move s a (areas ++ (a ∷ []))
  passes_more (list.arrived h) k t = list.passing h t (list.arrived k)
  passes_more (list.passing h m p) k t = list.passing h m (passes_more p k t)

  -- a chain of n steps, as a list from the area where it starts
  pub record Listed (start : ℕ → Bool) (n a : ℕ) : Type 0 where
    pub from : ℕ
    pub starts : T (start from)
    pub areas : List ℕ
    pub passes : Passes move from a areas
    pub sized : length areas ≡ suc n

  pub chain_list : (start : ℕ → Bool) {n a : ℕ} → Chain start move n a → Listed start n a
  chain_list start (here {a = d} h t) = record { from = d; starts = t; areas = d ∷ []; passes = list.arrived h; sized = refl }
  chain_list start (onward {r = a} c h t) =
      let before = chain_list start c in
      let more : length (before.areas ++ (a ∷ [])) ≡ length before.areas + 1 = length-append before.areas (a ∷ []) in
      let sized = before.sized in
      record { from = before.from; starts = before.starts; areas = before.areas ++ (a ∷ []); passes = passes_more before.passes h t; sized = omega arith }

  -- a list of n + 1 areas behind a chain of m steps is a chain of m + n
  along : (start : ℕ → Bool) {s a : ℕ} {areas : List ℕ} (m n : ℕ) → Chain start move m s → Passes move s a areas → length areas ≡ suc n
      → Chain start move (m + n) a
  along start {s = s} m n c (list.arrived h) e =
      let same : m ≡ m + n = omega arith in
      subst (λ (k : ℕ). Chain start move k s) same c
  along start {a = a} m n c (list.passing {r = r} h t p) e =
      let front = passes_front p in
      let size = ap length front.1 in
      let later = along start (suc m) (length front.0) (onward c (passes_area p) t) p (ap length front.1) in
      let same : suc m + length front.0 ≡ m + n = omega arith in
      subst (λ (k : ℕ). Chain start move k a) same later

  pub list_chain : (start : ℕ → Bool) {s a : ℕ} {areas : List ℕ} (n : ℕ) → T (start s) → Passes move s a areas → length areas ≡ suc n → Chain start move n a
  list_chain start {a = a} n t p e = subst (λ (k : ℕ). Chain start move k a) (zero-add n) (along start 0 n (here (passes_area p) t) p e)

-- ---- the order of lists
pub lower_cases : {x y : ℕ} {xs ys : List ℕ} → Lower (x ∷ xs) (y ∷ ys) → (x < y) ⊎ ((x ≡ y) × Lower xs ys)
lower_cases (lower_here h) = inl h
lower_cases (lower_behind l) = inr (refl, l)

-- a list that is lower than another has a number
pub lower_some : {xs ys : List ℕ} → Lower xs ys → 0 < length xs
lower_some (lower_here {xs = xs} h) = omega arith
lower_some (lower_behind {xs = xs} l) = omega arith

pub lower_compares : (xs ys : List ℕ) → length xs ≡ length ys → (xs ≡ ys) ⊎ (Lower xs ys ⊎ Lower ys xs)
lower_compares [] [] e = inl refl
lower_compares [] (y ∷ ys) e = absurd (omega arith)
lower_compares (x ∷ xs) [] e = absurd (omega arith)
lower_compares (x ∷ xs) (y ∷ ys) e = go (dec_lt x y) (dec_lt y x) (lower_compares xs ys (omega arith))
  where
    same : x ≡ y → (xs ≡ ys) ⊎ (Lower xs ys ⊎ Lower ys xs) → ((x ∷ xs) ≡ (y ∷ ys)) ⊎ (Lower (x ∷ xs) (y ∷ ys) ⊎ Lower (y ∷ ys) (x ∷ xs))
    same q (inl r) = inl (rw (q, r) refl)
    same q (inr (inl l)) = inr (inl (rw q (lower_behind l)))
    same q (inr (inr l)) = inr (inr (rw q (lower_behind l)))

    go : Dec (x < y) → Dec (y < x) → (xs ≡ ys) ⊎ (Lower xs ys ⊎ Lower ys xs) → ((x ∷ xs) ≡ (y ∷ ys)) ⊎ (Lower (x ∷ xs) (y ∷ ys) ⊎ Lower (y ∷ ys) (x ∷ xs))
    go (yes h) k rest = inr (inl (lower_here h))
    go (no h) (yes k) rest = inr (inr (lower_here k))
    go (no h) (no k) rest = same (omega arith) rest
