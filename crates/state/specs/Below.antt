-- Tests of the numbers below a bound: whether each meets one, how many do, whether some does, and which is the first.
use Rattle.std.specs.Prelude.{ℕ, zero, suc, ◌+◌, Bool, true, false, ◌&&◌, ◌||◌, cond, eqb, Option, Some, None}

-- each number below n meets the test
unfoldable pub each_below : ℕ → (ℕ → Bool) → Bool
each_below zero test = true
each_below (suc n) test = each_below n test && test n

-- how many numbers below n meet the test
unfoldable pub count_below : ℕ → (ℕ → Bool) → ℕ
count_below zero test = 0
count_below (suc n) test = count_below n test + cond (test n) 1 0

-- some number below n meets the test
unfoldable pub some_below : ℕ → (ℕ → Bool) → Bool
some_below zero test = false
some_below (suc n) test = some_below n test || test n

-- the first of the n numbers from k on that meets the test, and the number behind them if none does
unfoldable pub first_from : (ℕ → Bool) → (n k : ℕ) → ℕ
first_from test zero k = k
first_from test (suc n) k = cond (test k) k (first_from test n (k + 1))

-- the first number below n that meets the test, n if none does
abbrev pub first_below : ℕ → (ℕ → Bool) → ℕ
first_below n test = first_from test n 0

-- the first number below n that meets the test, if one does
abbrev pub found_below : ℕ → (ℕ → Bool) → Option ℕ
found_below n test = cond (eqb (first_below n test) n) None (Some (first_below n test))
