-- The bytes of a number.
--     decimal_one, decimal_more     their two rules
--     by_tenths                     what holds of a number if it holds of its tenth
--     longer, decimal_length        one more than its tenth has; how many there are at most
--     decimal_some, decimal_long    at least one, and at least two from 10 on
--     decimal_injective             a number is known by them
-- Assumes nothing.
use Prim.Native.Nat.{ℕ, zero, suc, ◌+◌, ◌-◌, ◌*◌, ◌/◌, ◌%◌, ◌^◌, ◌≤◌, ◌<◌}
use mathlib.Core.Path.{◌≡◌, refl, sym, ap, ◌∙◌}
use mathlib.Core.List.{List, [], ◌∷◌, ◌++◌}
use native.Mathlib.Omega.{arith}
use native.Mathlib.Decide.{dec_lt}
use borrow.Author.Tests.{lt-ltb, le-ltb}
use lib.ListN.{length, length-append}
use Rattle.output.specs.Decimal.{digit, decimal_in, decimal}
use Rattle.output.specs.Claims.{DecimalOne, DecimalMore}
use Rattle.output.specs.Laws.{DecimalLength}

-- ---- the two rules: the depth does not matter, once it is not below the number
in_depth : (d e n : ℕ) → n ≤ d → n ≤ e → decimal_in d n ≡ decimal_in e n
unfolding decimal_in
in_depth zero zero n h k = refl
in_depth zero (suc e) n h k = rw (lt-ltb n 10 (omega arith)) refl
in_depth (suc d) zero n h k = rw (lt-ltb n 10 (omega arith)) refl
in_depth (suc d) (suc e) n h k = go (in_depth d e (n / 10)) (dec_lt n 10)
  where
    go : (n / 10 ≤ d → n / 10 ≤ e → decimal_in d (n / 10) ≡ decimal_in e (n / 10)) → Dec (n < 10) → decimal_in (suc d) n ≡ decimal_in (suc e) n
    go tenth (yes b) = rw (lt-ltb n 10 b) refl
    go tenth (no b) = rw (le-ltb n 10 (omega arith), tenth (omega arith) (omega arith)) refl

pub decimal_one : DecimalOne
unfolding decimal decimal_in
decimal_one zero h = refl
decimal_one (suc n) h = rw (lt-ltb (suc n) 10 h) refl

pub decimal_more : DecimalMore
unfolding decimal decimal_in
decimal_more zero h = absurd (omega arith)
decimal_more (suc n) h = rw (le-ltb (suc n) 10 h, in_depth n (suc n / 10) (suc n / 10) (omega arith) (omega arith)) refl

-- ---- by the tenth of a number
pub by_tenths : (P : ℕ → Type 0) → ((n : ℕ) → n < 10 → P n) → ((n : ℕ) → 10 ≤ n → P (n / 10) → P n) → (n : ℕ) → P n
by_tenths P one more n = below n n (omega arith)
  where
    below : (depth n : ℕ) → n ≤ depth → P n
    below zero n h = one n (omega arith)
    below (suc depth) n h = go (below depth (n / 10)) (dec_lt n 10)
      where
        go : (n / 10 ≤ depth → P (n / 10)) → Dec (n < 10) → P n
        go tenth (yes b) = one n b
        go tenth (no b) = more n (omega arith) (tenth (omega arith))

-- ---- how many bytes there are
pub longer : (n : ℕ) → 10 ≤ n → length (decimal n) ≡ length (decimal (n / 10)) + 1
longer n h = rw (decimal_more n h) (length-append (decimal (n / 10)) (digit (n % 10) ∷ []))

pub decimal_length : DecimalLength
decimal_length zero n h = rw (decimal_one n (omega arith)) (omega arith)
decimal_length (suc k) n h = go (decimal_length k (n / 10)) (dec_lt n 10)
  where
    go : (n / 10 < 10 ^ suc k → length (decimal (n / 10)) ≤ suc k) → Dec (n < 10) → length (decimal n) ≤ suc (suc k)
    go tenth (yes b) = rw (decimal_one n b) (omega arith)
    go tenth (no b) =
        let t : length (decimal (n / 10)) ≤ suc k = tenth (omega arith) in
        omega (arith, longer n (omega arith))

pub decimal_some : (n : ℕ) → 0 < length (decimal n)
decimal_some = by_tenths (λ n. 0 < length (decimal n)) (λ n h. rw (decimal_one n h) (omega arith)) more
  where
    more : (n : ℕ) → 10 ≤ n → 0 < length (decimal (n / 10)) → 0 < length (decimal n)
    more n h t = omega (arith, longer n h)

pub decimal_long : (n : ℕ) → 10 ≤ n → 1 < length (decimal n)
decimal_long n h = omega (arith, longer n h, decimal_some (n / 10))

-- ---- the value of some digits behind those of n
value : (n : ℕ) → List ℕ → ℕ
value n [] = n
value n (x ∷ w) = value (n * 10 + (x - 48)) w

value_last : (n : ℕ) (w : List ℕ) (x : ℕ) → value n (w ++ (x ∷ [])) ≡ value n w * 10 + (x - 48)
unfolding value
value_last n [] x = refl
value_last n (y ∷ w) x = value_last (n * 10 + (y - 48)) w x

value_decimal : (n : ℕ) → value 0 (decimal n) ≡ n
unfolding value
value_decimal = by_tenths (λ n. value 0 (decimal n) ≡ n) (λ n h. rw (decimal_one n h) (omega arith)) more
  where
    more : (n : ℕ) → 10 ≤ n → value 0 (decimal (n / 10)) ≡ n / 10 → value 0 (decimal n) ≡ n
    more n h t = rw (decimal_more n h, value_last 0 (decimal (n / 10)) (digit (n % 10)), t) (omega arith)

pub decimal_injective : (m n : ℕ) → decimal m ≡ decimal n → m ≡ n
decimal_injective m n e = sym (value_decimal m) ∙ ap (value 0) e ∙ value_decimal n
