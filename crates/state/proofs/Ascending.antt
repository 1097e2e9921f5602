-- Numbers in ascending order.
--     upto                     what holds of n and of each number below it
--     Ascends, ascends_by      each number is below every later one, if it is below the next
--     at_least                 of ascending numbers, the one at place k is at least k
--     at_most                  ascending numbers below n are at most n
-- Assumes nothing.
use Prim.Native.Nat.{ℕ, zero, suc, ◌≤◌, ◌<◌}
use mathlib.Core.Path.{◌≡◌}
use native.Mathlib.Omega.{arith}
use native.Mathlib.Decide.{ℕ_discrete}

pub upto : (P : ℕ → Type 0) (n : ℕ) → P n → ((k : ℕ) → k < n → P k) → (k : ℕ) → k < suc n → P k
upto P n here before k h = go (ℕ_discrete k n)
  where
    go : Dec (k ≡ n) → P k
    go (yes e) = rw e here
    go (no ne) = before k (omega arith)

-- ---- ascending numbers
abbrev pub Ascends : (place : ℕ → ℕ) (m : ℕ) → Type 0
Ascends place m = (k l : ℕ) → k < l → l < m → place k < place l

module _ (place : ℕ → ℕ) where
  pub ascends_by : (m : ℕ) → ((k : ℕ) → suc k < m → place k < place (suc k)) → Ascends place m
  ascends_by m next k zero h b = absurd (omega arith)
  ascends_by m next k (suc l) h b = upto (λ i. place i < place (suc l)) l step (λ i q. further i (ascends_by m next i l q (omega arith))) k h
    where
      step : place l < place (suc l)
      step = next l b

      further : (i : ℕ) → place i < place l → place i < place (suc l)
      further i q = omega (arith, step)

  pub at_least : (m : ℕ) → Ascends place m → (k : ℕ) → k < m → k ≤ place k
  at_least m up zero h = omega arith
  at_least m up (suc k) h =
      let before : k ≤ place k = at_least m up k (omega arith) in
      let next : place k < place (suc k) = up k (suc k) (omega arith) h in
      omega arith

  pub at_most : (m n : ℕ) → Ascends place m → ((k : ℕ) → k < m → place k < n) → m ≤ n
  at_most zero n up below = omega arith
  at_most (suc m) n up below =
      let a : m ≤ place m = at_least (suc m) up m (omega arith) in
      let b : place m < n = below m (omega arith) in
      omega arith
