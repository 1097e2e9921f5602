-- A loop that looks for a number, one a turn from 0 on. After n turns what is found so far says whether a number below n meets the test: what is
-- found is there, and nothing below n is missed.
--     found_none     before the first turn
--     found_more     one turn more
-- Assumes nothing.
use Prim.Native.Nat.{ℕ, ◌+◌, ◌<◌}
use mathlib.Core.Path.{◌≡◌, subst, sym}
use mathlib.Core.Logic.{◌⊎◌, inl, inr}
use mathlib.Core.Bool.{Bool, false, ◌||◌}
use native.Mathlib.Omega.{arith}
use native.Mathlib.Decide.{ℕ_discrete}
use lib.Dec.{T}
use Rattle.state.proofs.Bools.{or_left, or_right, or_cases}

pub record Found (f : ℕ → Bool) (n : ℕ) (found : Bool) : Type 0 where
  pub there : T found → (k : ℕ) × T (f k)
  pub missed : (k : ℕ) → k < n → T (f k) → T found

module _ (f : ℕ → Bool) where
  pub found_none : Found f 0 false
  found_none = record { there = λ t. absurd t; missed = λ k h. absurd (omega arith) }

  pub found_more : (n : ℕ) (found new : Bool) → new ≡ f n → Found f n found → Found f (n + 1) (found || new)
  found_more n found new e b = record { there = λ t. there (or_cases found new t); missed = λ k h. at k (ℕ_discrete k n) h }
    where
      there : T found ⊎ T new → (k : ℕ) × T (f k)
      there (inl t) = b.there t
      there (inr t) = (n, subst T e t)

      at : (k : ℕ) → Dec (k ≡ n) → k < n + 1 → T (f k) → T (found || new)
      at k (yes q) h t = or_right found new (subst T (sym e) (rw q at t))
      at k (no q) h t = or_left found new (b.missed k (omega arith) t)
