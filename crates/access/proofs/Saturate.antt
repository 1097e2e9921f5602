-- Fewer than 32 steps reach whatever any number of steps reaches. After n steps the set is stable, or it has more than n areas; there are 32 areas,
-- so after 31 steps it is stable. Assumes nothing.
use Prim.Native.Nat.{ℕ, zero, suc, ◌+◌, ◌-◌, ◌≤◌, ◌<◌, zero-le, suc-le-suc}
use mathlib.Core.Path.{◌≡◌, refl, sym, ap, subst, ◌∙◌}
use mathlib.Core.Logic.{◌⊎◌, inl, inr}
use mathlib.Core.Bool.{Bool, true, false}
use mathlib.Core.List.{[], ◌∷◌}
use native.Mathlib.Omega.{arith}
use native.Mathlib.Decide.{dec_lt}
use native.Mathlib.Nat.{add-zero, add-suc, le_refl}
use lib.Dec.{T}
use lib.ListN.{length}
use Rattle.state.specs.Site.{area, limit}
use Rattle.state.proofs.Tabulate.{length_tabulate, tabulate_is}
use Rattle.state.proofs.Bools.{or_left, or_cases, same_test}
use Rattle.access.specs.Chain.{Chain}
use Rattle.access.specs.Answer.{Areas, has, some_area, spread, reached}
use Rattle.access.specs.Laws.{ShortChains}
use Rattle.state.proofs.Walk.{some_found}
use Rattle.access.proofs.Reach.{reached_more, chain_of, reached_by}

-- ---- how many areas a set has
count : Areas → ℕ
count [] = zero
count (true ∷ l) = suc (count l)
count (false ∷ l) = count l

count_most : (l : Areas) → count l ≤ length l
unfolding count
count_most [] = zero-le
count_most (true ∷ l) = suc-le-suc (count_most l)
count_most (false ∷ l) = let h = count_most l in omega arith

count_some : (l : Areas) (k : ℕ) → T (has l k) → 0 < count l
unfolding count
count_some [] k t = absurd t
count_some (true ∷ l) k t = omega arith
count_some (false ∷ l) zero t = absurd t
count_some (false ∷ l) (suc k) t = count_some l k t

-- a set within another of the same length is that set, or has fewer areas
grows : (l m : Areas) → length l ≡ length m → ((k : ℕ) → T (has l k) → T (has m k)) → (l ≡ m) ⊎ (count l < count m)
unfolding count
grows [] [] e sub = inl refl
grows [] (b ∷ m) e sub = absurd (omega arith)
grows (b ∷ l) [] e sub = absurd (omega arith)
grows (true ∷ l) (false ∷ m) e sub = absurd (sub zero tt)
grows (true ∷ l) (true ∷ m) e sub = go (grows l m (omega arith) (λ k t. sub (suc k) t))
  where
    go : (l ≡ m) ⊎ (count l < count m) → (◌≡◌ {A = Areas} (true ∷ l) (true ∷ m)) ⊎ (suc (count l) < suc (count m))
    go (inl q) = inl (ap (λ (x : Areas). true ∷ x) q)
    go (inr q) = inr (omega arith)
grows (false ∷ l) (true ∷ m) e sub = go (grows l m (omega arith) (λ k t. sub (suc k) t))
  where
    go : (l ≡ m) ⊎ (count l < count m) → (◌≡◌ {A = Areas} (false ∷ l) (true ∷ m)) ⊎ (count l < suc (count m))
    go (inl q) = let c : count l ≡ count m = ap count q in inr (omega arith)
    go (inr q) = inr (omega arith)
grows (false ∷ l) (false ∷ m) e sub = go (grows l m (omega arith) (λ k t. sub (suc k) t))
  where
    go : (l ≡ m) ⊎ (count l < count m) → (◌≡◌ {A = Areas} (false ∷ l) (false ∷ m)) ⊎ (count l < count m)
    go (inl q) = inl (ap (λ (x : Areas). false ∷ x) q)
    go (inr q) = inr q

module _ (start : ℕ → Bool) (move : ℕ → ℕ → Bool) where
  pub reached_length : (n : ℕ) → length (reached start move n) ≡ limit area
  unfolding reached spread
  reached_length zero = length_tabulate start (limit area)
  reached_length (suc n) = length_tabulate _ (limit area)

  -- one step more reaches nothing new
  abbrev pub Stable : ℕ → Type 0
  Stable n = reached start move (suc n) ≡ reached start move n

  stable_more : (n : ℕ) → Stable n → Stable (suc n)
  unfolding reached
  stable_more n e = ap (spread move) e

  pub stable_from : (n k : ℕ) → Stable n → reached start move (n + k) ≡ reached start move n
  unfolding reached
  stable_from n zero e = ap (reached start move) (add-zero n)
  stable_from n (suc k) e = ap (reached start move) (add-suc n k) ∙ ap (spread move) (stable_from n k e) ∙ e

  -- nothing is reached from nothing
  none_stable : (n : ℕ) → count (reached start move n) ≡ 0 → Stable n
  unfolding reached spread
  none_stable n e =
      sym
      (tabulate_is _ (limit area) false (reached start move n) (reached_length n)
      (λ k h. same_test (has (reached start move n) k) _ (or_left (has (reached start move n) k) _) (λ t. back k (or_cases (has (reached start move n) k) _ t))))
    where
      back : (k : ℕ) → T (has (reached start move n) k) ⊎ T (some_area (reached start move n) (λ s. move s k)) → T (has (reached start move n) k)
      back k (inl t) = t
      back k (inr t) =
          let some = some_found (λ s. move s k) (reached start move n) t in
          absurd (omega (arith, count_some (reached start move n) some.0 some.1))

  grown : (n : ℕ) → Stable n ⊎ (count (reached start move n) < count (reached start move (suc n)))
  grown n = go (grows (reached start move n) (reached start move (suc n)) (reached_length n ∙ sym (reached_length (suc n))) (reached_more start move n))
    where
      go : (reached start move n ≡ reached start move (suc n)) ⊎ (count (reached start move n) < count (reached start move (suc n))) → Stable n ⊎ (count (reached start move n) < count (reached start move (suc n)))
      go (inl e) = inl (sym e)
      go (inr h) = inr h

  stable_or_many : (n : ℕ) → Stable n ⊎ (n < count (reached start move n))
  stable_or_many zero = go (dec_lt 0 (count (reached start move 0)))
    where
      go : Dec (0 < count (reached start move 0)) → Stable 0 ⊎ (0 < count (reached start move 0))
      go (yes h) = inr h
      go (no h) = inl (none_stable 0 (omega arith))
  stable_or_many (suc n) = go (stable_or_many n) (grown n)
    where
      go : Stable n ⊎ (n < count (reached start move n)) → Stable n ⊎ (count (reached start move n) < count (reached start move (suc n))) → Stable (suc n) ⊎ (suc n < count (reached start move (suc n)))
      go (inl e) d = inl (stable_more n e)
      go (inr h) (inl e) = inl (stable_more n e)
      go (inr h) (inr g) = inr (omega arith)

  stable_at : (n : ℕ) → limit area ≤ suc n → Stable n
  stable_at n full = go (stable_or_many n) (grown n)
    where
      go : Stable n ⊎ (n < count (reached start move n)) → Stable n ⊎ (count (reached start move n) < count (reached start move (suc n))) → Stable n
      go (inl e) d = e
      go (inr h) (inl e) = e
      go (inr h) (inr g) = absurd (omega (arith, count_most (reached start move (suc n)), reached_length (suc n)))

pub short_chains : ShortChains
short_chains start move m a c = go (dec_lt m (limit area))
  where
    go : Dec (m < limit area) → (n : ℕ) × (n < limit area) × Chain start move n a
    go (yes h) = (m, h, c)
    go (no h) =
        let far : 31 + (m - 31) ≡ m = omega arith in
        let same = stable_from start move 31 (m - 31) (stable_at start move 31 (omega arith)) in
        let t : T (has (reached start move 31) a) = subst (λ (l : Areas). T (has l a)) (ap (reached start move) (sym far) ∙ same) (reached_by start move m c (le_refl m)) in
        let r = chain_of start move 31 a t in
        (r.0, omega (arith, r.1), r.2)
