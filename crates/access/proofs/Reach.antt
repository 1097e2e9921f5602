-- The areas within n steps, and chains: an area is among them exactly where a chain of at most n steps leads to it.
-- Assumes nothing.
use Prim.Native.Nat.{ℕ, zero, suc, ◌≤◌, ◌<◌, zero-le}
use mathlib.Core.Path.{◌≡◌, sym, subst}
use mathlib.Core.Logic.{◌⊎◌, inl, inr}
use mathlib.Core.Bool.{Bool, false}
use native.Mathlib.Omega.{arith}
use native.Mathlib.Decide.{dec_lt}
use native.Mathlib.Nat.{le_of_suc-le-suc, not-suc-le-zero}
use lib.Dec.{T}
use lib.ListN.{get_or-eq_default}
use Rattle.state.specs.Tabulate.{tabulate}
use Rattle.state.specs.Site.{area, limit}
use Rattle.state.proofs.Tabulate.{length_tabulate, get_or_tabulate}
use Rattle.state.proofs.Bools.{or_left, or_right, or_cases}
use Rattle.state.proofs.Walk.{some_found, some_there}
use Rattle.access.specs.Chain.{Chain, here, onward}
use Rattle.access.specs.Answer.{has, some_area, spread, reached}

-- ---- sets of areas
pub has_tabulate : (f : ℕ → Bool) (a : ℕ) → a < limit area → has (tabulate (limit area) f) a ≡ f a
has_tabulate f a h = get_or_tabulate f (limit area) a false h

-- an area of the tabulated set is an area, and meets the test
pub in_set : (f : ℕ → Bool) (a : ℕ) → T (has (tabulate (limit area) f) a) → (a < limit area) × T (f a)
in_set f a t = go (dec_lt a (limit area))
  where
    go : Dec (a < limit area) → (a < limit area) × T (f a)
    go (yes h) = (h, subst T (has_tabulate f a h) t)
    go (no h) = absurd (subst T (get_or-eq_default (tabulate (limit area) f) false (rw (length_tabulate f (limit area)) (omega arith))) t)

pub to_set : (f : ℕ → Bool) (a : ℕ) → a < limit area → T (f a) → T (has (tabulate (limit area) f) a)
to_set f a h t = subst T (sym (has_tabulate f a h)) t

-- ---- chains
module _ (start : ℕ → Bool) (move : ℕ → ℕ → Bool) where
  pub chain_area : {n a : ℕ} → Chain start move n a → a < limit area
  chain_area (here h t) = h
  chain_area (onward c h t) = h

  pub reached_area : (n a : ℕ) → T (has (reached start move n) a) → a < limit area
  unfolding reached spread
  reached_area zero a t = (in_set start a t).0
  reached_area (suc n) a t = (in_set _ a t).0

  -- an area that is reached stays reached
  pub reached_more : (n a : ℕ) → T (has (reached start move n) a) → T (has (reached start move (suc n)) a)
  unfolding reached spread
  reached_more n a t = to_set _ a (reached_area n a t) (or_left (has (reached start move n) a) _ t)

  -- and so is one that is a step further
  pub reached_next : (n s r : ℕ) → T (has (reached start move n) s) → r < limit area → T (move s r) → T (has (reached start move (suc n)) r)
  unfolding reached spread
  reached_next n s r t h m =
      to_set _ r h (or_right (has (reached start move n) r) _ (some_there (λ q. move q r) (reached start move n) s t m))

  -- an area that is reached in n + 1 steps was reached in n, or is one step from such an area
  pub reached_back : (n r : ℕ) → T (has (reached start move (suc n)) r) → T (has (reached start move n) r) ⊎ ((s : ℕ) × T (has (reached start move n) s) × T (move s r))
  unfolding reached spread
  reached_back n r t = go (or_cases (has (reached start move n) r) _ (in_set _ r t).1)
    where
      go : T (has (reached start move n) r) ⊎ T (some_area (reached start move n) (λ s. move s r)) → T (has (reached start move n) r) ⊎ ((s : ℕ) × T (has (reached start move n) s) × T (move s r))
      go (inl h) = inl h
      go (inr h) = inr (some_found (λ s. move s r) (reached start move n) h)

  pub chain_of : (n a : ℕ) → T (has (reached start move n) a) → (m : ℕ) × (m ≤ n) × Chain start move m a
  unfolding reached
  chain_of zero a t = let h = in_set start a t in (zero, zero-le, here h.0 h.1)
  chain_of (suc n) a t = go (chain_of n a) (chain_of n) (reached_back n a t)
    where
      go : (T (has (reached start move n) a) → (m : ℕ) × (m ≤ n) × Chain start move m a)
          → ((s : ℕ) → T (has (reached start move n) s) → (m : ℕ) × (m ≤ n) × Chain start move m s)
          → T (has (reached start move n) a) ⊎ ((s : ℕ) × T (has (reached start move n) s) × T (move s a)) → (m : ℕ) × (m ≤ suc n) × Chain start move m a
      go same other (inl h) = let r = same h in (r.0, omega (arith, r.1), r.2)
      go same other (inr h) = let r = other h.0 h.1 in (suc r.0, omega (arith, r.1), onward r.2 (reached_area (suc n) a t) h.2)

  pub reached_by : (n : ℕ) {m a : ℕ} → Chain start move m a → m ≤ n → T (has (reached start move n) a)
  unfolding reached
  reached_by zero (here h t) le = to_set start _ h t
  reached_by (suc n) (here h t) le = reached_more n _ (reached_by n (here h t) zero-le)
  reached_by zero (onward c h t) le = absurd (not-suc-le-zero le)
  reached_by (suc n) (onward c h t) le = reached_next n _ _ (reached_by n c (le_of_suc-le-suc le)) h t
