-- The laws of bits: how bits read after each operation of the machine, and that equal bits make equal numbers. Each goes by halving: bit 0 is the
-- lowest digit, and bit k + 1 is bit k of the half.
-- Assumes nothing.
use Prim.Native.Nat.{ℕ, zero, suc, ◌+◌, ◌-◌, ◌*◌, ◌/◌, ◌%◌, ◌^◌, ◌≤◌, ◌<◌, zero-le}
use mathlib.Core.Path.{◌≡◌, refl, sym, ap, ap₂, subst, ◌∙◌}
use mathlib.Core.Logic.{◌⊎◌, inl, inr}
use mathlib.Core.Bool.{Bool, true, false, ◌&&◌, ◌||◌, not, cond, and-false, true≢false}
use native.Mathlib.Omega.{arith}
use native.Mathlib.Nat.{div-one, mod-lt, zero-lt-suc, not-suc-le-zero, pow-suc, one-mul, zero-mul}
use native.Mathlib.Numerals.{add-one, one-add}
use native.Mathlib.Decide.{dec_le, dec_lt, ℕ_discrete}
use borrow.Author.Tests.{eqb-true, eqb-false, eq-eqb, ne_eqb, le-leb, lt-leb, lt-ltb, le-ltb}
use lib.Dec.{T, leb, ltb, eqb, eqb→eq, eqb-zero-suc, eqb-suc-zero, eqb-suc-suc}
use lib.Pow.{pow_pos, shr-shr, shl-shr, field, mod-mod-pow}
use lib.Bits.{bit_and, bit_or, and_shr, or_shr, and_mod, or_mod, shifted_half, shifted_even, and_le_l, and_le_r, or_lt}
use lib.Count.{ones, ones_step, count_trailing_zeros, under}
use mir.Val.{bool_byte}
use Rattle.bits.specs.Bits.{bit, places, word_from, word, with_bit, union, intersection, difference, is_empty, is_subset}
use Rattle.bits.specs.Bits.{size_of, Lowest, lowest_of, lowest, without_lowest, Next, Single, is_single}
use Rattle.bits.specs.Claims.{EqualBits, BitPast, WordReads, WordFits, WithBitReads, UnionReads, IntersectionReads, DifferenceReads}
use Rattle.bits.specs.Claims.{EmptyDecided, SubsetDecided, LowestIsRight, OneLowest, LowestInside, WithoutLowestReads, WithoutLowestLess, SingleDecided}

-- ---- bit 0, and bit k + 1
pub bit_low : (n : ℕ) → bit n 0 ≡ eqb (n % 2) 1
unfolding bit
bit_low n = ap (λ (x : ℕ). eqb (x % 2) 1) (div-one n)

pub bit_up : (n k : ℕ) → bit n (suc k) ≡ bit (n / 2) k
unfolding bit
bit_up n k = ap (λ (x : ℕ). eqb (x % 2) 1) (ap (λ (e : ℕ). n / 2 ^ e) (sym (one-add k)) ∙ sym (shr-shr n 1 k))

parity : (n : ℕ) → (n % 2 ≡ 0) ⊎ (n % 2 ≡ 1)
parity n = go (n % 2) (mod-lt n (zero-lt-suc 1))
  where
    go : (m : ℕ) → m < 2 → (m ≡ 0) ⊎ (m ≡ 1)
    go zero h = inl refl
    go (suc zero) h = inr refl
    go (suc (suc m)) h = absurd (omega arith)

half_lt : (w a : ℕ) → a < 2 ^ suc w → a / 2 < 2 ^ w
half_lt w a h = omega (arith, pow-suc 2 w)

-- ---- an operation that works on each digit apart
module _ (op : ℕ → ℕ → ℕ) (f : Bool → Bool → Bool)
    (half : (a b : ℕ) → op a b / 2 ≡ op (a / 2) (b / 2))
    (low : (a b : ℕ) → op a b % 2 ≡ op (a % 2) (b % 2))
    (table : (a b : ℕ) → a < 2 → b < 2 → eqb (op a b) 1 ≡ f (eqb a 1) (eqb b 1)) where
  bit_op : (k a b : ℕ) → bit (op a b) k ≡ f (bit a k) (bit b k)
  bit_op zero a b =
      bit_low (op a b) ∙ ap (λ (x : ℕ). eqb x 1) (low a b)
      ∙ table (a % 2) (b % 2) (mod-lt a (zero-lt-suc 1)) (mod-lt b (zero-lt-suc 1)) ∙ ap₂ f (sym (bit_low a)) (sym (bit_low b))
  bit_op (suc k) a b =
      bit_up (op a b) k ∙ ap (λ (x : ℕ). bit x k) (half a b) ∙ bit_op k (a / 2) (b / 2)
      ∙ ap₂ f (sym (bit_up a k)) (sym (bit_up b k))

and_table : (a b : ℕ) → a < 2 → b < 2 → eqb (bit_and a b) 1 ≡ (eqb a 1 && eqb b 1)
and_table zero b ha hb = refl
and_table (suc zero) zero ha hb = refl
and_table (suc zero) (suc zero) ha hb = refl
and_table (suc zero) (suc (suc b)) ha hb = absurd (omega arith)
and_table (suc (suc a)) b ha hb = absurd (omega arith)

or_table : (a b : ℕ) → a < 2 → b < 2 → eqb (bit_or a b) 1 ≡ (eqb a 1 || eqb b 1)
or_table zero b ha hb = refl
or_table (suc zero) zero ha hb = refl
or_table (suc zero) (suc zero) ha hb = refl
or_table (suc zero) (suc (suc b)) ha hb = absurd (omega arith)
or_table (suc (suc a)) b ha hb = absurd (omega arith)

pub bit_and_lem : (a b k : ℕ) → bit (bit_and a b) k ≡ (bit a k && bit b k)
bit_and_lem a b k = bit_op bit_and ◌&&◌ (λ x y. and_shr x y 1) (λ x y. and_mod x y 1) and_table k a b

pub bit_or_lem : (a b k : ℕ) → bit (bit_or a b) k ≡ (bit a k || bit b k)
bit_or_lem a b k = bit_op bit_or ◌||◌ (λ x y. or_shr x y 1) (λ x y. or_mod x y 1) or_table k a b

-- ---- the complement in w bits
pub bit_not : (w a k : ℕ) → a < 2 ^ w → k < w → bit ((2 ^ w - 1) - a) k ≡ not (bit a k)
bit_not zero a k h l = absurd (not-suc-le-zero l)
bit_not (suc w) a zero h l = bit_low _ ∙ go (parity a) ∙ ap not (sym (bit_low a))
  where
    go : (a % 2 ≡ 0) ⊎ (a % 2 ≡ 1) → eqb (((2 ^ suc w - 1) - a) % 2) 1 ≡ not (eqb (a % 2) 1)
    go (inl e) =
        let m : ((2 ^ suc w - 1) - a) % 2 ≡ 1 = omega (arith, pow-suc 2 w, pow_pos w) in
        rw (m, e) refl
    go (inr e) =
        let m : ((2 ^ suc w - 1) - a) % 2 ≡ 0 = omega (arith, pow-suc 2 w, pow_pos w) in
        rw (m, e) refl
bit_not (suc w) a (suc k) h l =
    let m : ((2 ^ suc w - 1) - a) / 2 ≡ (2 ^ w - 1) - a / 2 = omega (arith, pow-suc 2 w, pow_pos w) in
    bit_up _ k ∙ ap (λ (x : ℕ). bit x k) m ∙ bit_not w (a / 2) k (half_lt w a h) (omega arith) ∙ ap not (sym (bit_up a k))

-- ---- numbers with no bit, and with one
pub bit_zero : (k : ℕ) → bit 0 k ≡ false
bit_zero zero = bit_low 0
bit_zero (suc k) = bit_up 0 k ∙ bit_zero k

bit_power : (j k : ℕ) → bit (2 ^ j) k ≡ eqb k j
bit_power zero zero = bit_low 1
bit_power zero (suc k) = bit_up 1 k ∙ bit_zero k ∙ sym (eqb-suc-zero k)
bit_power (suc j) zero =
    let even : 2 ^ suc j % 2 ≡ 0 = omega (arith, pow-suc 2 j) in
    bit_low (2 ^ suc j) ∙ ap (λ (x : ℕ). eqb x 1) even ∙ sym (eqb-zero-suc j)
bit_power (suc j) (suc k) =
    let half : 2 ^ suc j / 2 ≡ 2 ^ j = omega (arith, pow-suc 2 j) in
    bit_up (2 ^ suc j) k ∙ ap (λ (x : ℕ). bit x k) half ∙ bit_power j k ∙ sym (eqb-suc-suc k j)

pub bit_past : BitPast
bit_past zero a k h l =
    let none : a ≡ 0 = omega arith in
    rw none (bit_zero k)
bit_past (suc w) a zero h l = absurd (not-suc-le-zero l)
bit_past (suc w) a (suc k) h l = bit_up a k ∙ bit_past w (a / 2) k (half_lt w a h) (omega arith)

-- ---- shifts
pub bit_shr : (a v k : ℕ) → bit (a / 2 ^ v) k ≡ bit a (v + k)
unfolding bit
bit_shr a v k = ap (λ (x : ℕ). eqb (x % 2) 1) (shr-shr a v k)

bit_shl : (a v k : ℕ) → bit (a * 2 ^ v) (v + k) ≡ bit a k
bit_shl a v k = sym (bit_shr (a * 2 ^ v) v k) ∙ ap (λ (x : ℕ). bit x k) (shl-shr a v)

bit_shl_under : (a v k : ℕ) → k < v → bit (a * 2 ^ v) k ≡ false
bit_shl_under a zero k h = absurd (not-suc-le-zero h)
bit_shl_under a (suc v) zero h = bit_low _ ∙ ap (λ (x : ℕ). eqb x 1) (shifted_even a v)
bit_shl_under a (suc v) (suc k) h =
    bit_up _ k ∙ ap (λ (x : ℕ). bit x k) (shifted_half a v) ∙ bit_shl_under a v k (omega arith)

pub bit_shl_at : (a v k : ℕ) → bit (a * 2 ^ v) k ≡ (leb v k && bit a (k - v))
bit_shl_at a v k = go (dec_le v k)
  where
    go : Dec (v ≤ k) → bit (a * 2 ^ v) k ≡ (leb v k && bit a (k - v))
    go (yes h) =
        let e : v + (k - v) ≡ k = omega arith in
        ap (bit (a * 2 ^ v)) (sym e) ∙ bit_shl a v (k - v) ∙ sym (ap (λ (t : Bool). t && bit a (k - v)) (le-leb v k h))
    go (no h) = bit_shl_under a v k (omega arith) ∙ sym (ap (λ (t : Bool). t && bit a (k - v)) (lt-leb v k (omega arith)))

-- what is cut off above does not matter below
pub bit_mod : (w a k : ℕ) → k < w → bit (a % 2 ^ w) k ≡ bit a k
bit_mod zero a k h = absurd (not-suc-le-zero h)
bit_mod (suc w) a zero h =
    bit_low _ ∙ ap (λ (x : ℕ). eqb x 1) (ap (λ (e : ℕ). a % 2 ^ e % 2) (sym (add-one w)) ∙ mod-mod-pow a w 1) ∙ sym (bit_low a)
bit_mod (suc w) a (suc k) h =
    bit_up _ k ∙ ap (λ (x : ℕ). bit x k) (ap (λ (e : ℕ). a % 2 ^ e / 2) (sym (add-one w)) ∙ field a w 1)
    ∙ bit_mod w (a / 2) k (omega arith) ∙ sym (bit_up a k)

-- ---- equal bits make equal numbers
-- a truth value as a binary digit
abbrev digit : Bool → ℕ
digit v = cond v 1 0

same_digit : (a b : ℕ) → eqb (a % 2) 1 ≡ eqb (b % 2) 1 → a % 2 ≡ b % 2
same_digit a b = go (a % 2) (b % 2) (mod-lt a (zero-lt-suc 1)) (mod-lt b (zero-lt-suc 1))
  where
    go : (x y : ℕ) → x < 2 → y < 2 → eqb x 1 ≡ eqb y 1 → x ≡ y
    go zero zero hx hy e = refl
    go zero (suc zero) hx hy e = let z : ◌≡◌ {A = ℕ} 0 1 = ap digit e in z
    go (suc zero) zero hx hy e = let z : ◌≡◌ {A = ℕ} 1 0 = ap digit e in z
    go (suc zero) (suc zero) hx hy e = refl
    go zero (suc (suc y)) hx hy e = absurd (omega arith)
    go (suc zero) (suc (suc y)) hx hy e = absurd (omega arith)
    go (suc (suc x)) y hx hy e = absurd (omega arith)

pub equal_bits : EqualBits
equal_bits zero a b ha hb e = omega arith
equal_bits (suc w) a b ha hb e =
    let high : a / 2 ≡ b / 2 = equal_bits w (a / 2) (b / 2) (half_lt w a ha) (half_lt w b hb) (λ k h. sym (bit_up a k) ∙ e (suc k) (omega arith) ∙ bit_up b k) in
    let low : a % 2 ≡ b % 2 = same_digit a b (sym (bit_low a) ∙ e 0 (omega arith) ∙ bit_low b) in
    omega arith

-- ---- the number of a test
digit_small : (b : Bool) → digit b < 2
digit_small true = omega arith
digit_small false = omega arith

digit_back : (b : Bool) → eqb (digit b) 1 ≡ b
digit_back true = refl
digit_back false = refl

from_fits : (test : ℕ → Bool) (i w : ℕ) → word_from test i w < 2 ^ w
unfolding word_from
from_fits test i zero = omega arith
from_fits test i (suc w) = omega (arith, pow-suc 2 w, from_fits test (suc i) w, digit_small (test i))

bit_from : (test : ℕ → Bool) (i w k : ℕ) → k < w → bit (word_from test i w) k ≡ test (i + k)
unfolding word_from
bit_from test i zero k h = absurd (not-suc-le-zero h)
bit_from test i (suc w) zero h =
    let m : (word_from test (suc i) w * 2 + digit (test i)) % 2 ≡ digit (test i) = omega (arith, digit_small (test i)) in
    let e : i + 0 ≡ i = omega arith in
    bit_low _ ∙ ap (λ (x : ℕ). eqb x 1) m ∙ digit_back (test i) ∙ ap test (sym e)
bit_from test i (suc w) (suc k) h =
    let m : (word_from test (suc i) w * 2 + digit (test i)) / 2 ≡ word_from test (suc i) w = omega (arith, digit_small (test i)) in
    let e : suc i + k ≡ i + suc k = omega arith in
    bit_up _ k ∙ ap (λ (x : ℕ). bit x k) m ∙ bit_from test (suc i) w k (omega arith) ∙ ap test e

pub word_fits : WordFits
unfolding word
word_fits w test = from_fits test 0 w

-- how a word reads below w, and anywhere
pub word_bit : (w : ℕ) (test : ℕ → Bool) (k : ℕ) → k < w → bit (word w test) k ≡ test k
unfolding word
word_bit w test k h =
    let e : 0 + k ≡ k = omega arith in
    bit_from test 0 w k h ∙ ap test e

pub word_reads : WordReads
word_reads w test k = go (dec_lt k w)
  where
    go : Dec (k < w) → bit (word w test) k ≡ (ltb k w && test k)
    go (yes h) = word_bit w test k h ∙ sym (ap (λ (b : Bool). b && test k) (lt-ltb k w h))
    go (no h) =
        let past : w ≤ k = omega arith in
        bit_past w (word w test) k (word_fits w test) past ∙ sym (ap (λ (b : Bool). b && test k) (le-ltb k w past))

-- a number of w bits is that of the test which its bits meet
pub word_is : (w a : ℕ) (test : ℕ → Bool) → a < 2 ^ w → ((k : ℕ) → k < w → bit a k ≡ test k) → a ≡ word w test
word_is w a test h e = equal_bits w a (word w test) h (word_fits w test) (λ k l. e k l ∙ sym (word_bit w test k l))

pub same_word : (w : ℕ) (f g : ℕ → Bool) → ((k : ℕ) → k < w → f k ≡ g k) → word w f ≡ word w g
same_word w f g e = word_is w (word w f) g (word_fits w f) (λ k h. word_bit w f k h ∙ e k h)

-- ---- how the definitions read: anywhere, and below 32
pub with_bit_reads : WithBitReads
unfolding with_bit
with_bit_reads a k v j = word_reads places _ j

pub with_bit_bit : (a k : ℕ) (v : Bool) (j : ℕ) → j < places → bit (with_bit a k v) j ≡ cond (eqb j k) v (bit a j)
unfolding with_bit
with_bit_bit a k v j h = word_bit places _ j h

pub union_reads : UnionReads
unfolding union
union_reads a b k = word_reads places _ k

pub union_bit : (a b k : ℕ) → k < places → bit (union a b) k ≡ (bit a k || bit b k)
unfolding union
union_bit a b k h = word_bit places _ k h

pub intersection_reads : IntersectionReads
unfolding intersection
intersection_reads a b k = word_reads places _ k

pub intersection_bit : (a b k : ℕ) → k < places → bit (intersection a b) k ≡ (bit a k && bit b k)
unfolding intersection
intersection_bit a b k h = word_bit places _ k h

pub difference_reads : DifferenceReads
unfolding difference
difference_reads a b k = word_reads places _ k

pub difference_bit : (a b k : ℕ) → k < places → bit (difference a b) k ≡ (bit a k && not (bit b k))
unfolding difference
difference_bit a b k h = word_bit places _ k h

-- and that they are rows
pub with_bit_fits : (a k : ℕ) (v : Bool) → with_bit a k v < 2 ^ places
unfolding with_bit
with_bit_fits a k v = word_fits places _

pub union_fits : (a b : ℕ) → union a b < 2 ^ places
unfolding union
union_fits a b = word_fits places _

pub intersection_fits : (a b : ℕ) → intersection a b < 2 ^ places
unfolding intersection
intersection_fits a b = word_fits places _

pub difference_fits : (a b : ℕ) → difference a b < 2 ^ places
unfolding difference
difference_fits a b = word_fits places _

-- ---- what the tests decide
none_set : (a : ℕ) → a < 2 ^ places → ((k : ℕ) → k < places → bit a k ≡ false) → a ≡ 0
none_set a h e = equal_bits places a 0 h (pow_pos places) (λ k l. e k l ∙ sym (bit_zero k))

passes : {a b : ℕ} → a ≡ b → T (eqb a b)
passes {a} {b} e = subst T (sym (eq-eqb a b e)) tt

pub empty_decided : EmptyDecided
empty_decided a h = (λ t k l. ap (λ (n : ℕ). bit n k) (eqb→eq a 0 t) ∙ bit_zero k, λ none. passes (none_set a h none))

pub subset_decided : SubsetDecided
unfolding is_subset
subset_decided a b =
    let decided = empty_decided (difference a b) (difference_fits a b) in (
      λ t k h. there (bit a k) (bit b k) (sym (difference_bit a b k h) ∙ decided.0 t k h),
      λ each. decided.1 (λ k h. difference_bit a b k h ∙ back (bit a k) (bit b k) (each k h)),
    )
  where
    there : (p q : Bool) → (p && not q) ≡ false → T p → T q
    there true true e t = tt
    there true false e t = subst T e tt
    there false q e t = absurd t

    back : (p q : Bool) → (T p → T q) → (p && not q) ≡ false
    back true true f = refl
    back true false f = absurd (f tt)
    back false q f = refl

-- ---- how many places: what the machine counts
digit_of : (n : ℕ) → n % 2 ≡ digit (bit n 0)
digit_of n = go (parity n)
  where
    go : (n % 2 ≡ 0) ⊎ (n % 2 ≡ 1) → n % 2 ≡ digit (bit n 0)
    go (inl e) = e ∙ ap digit (sym (bit_low n ∙ ap (λ (d : ℕ). eqb d 1) e))
    go (inr e) = e ∙ ap digit (sym (bit_low n ∙ ap (λ (d : ℕ). eqb d 1) e))

pub size_counted : (w n : ℕ) → n < 2 ^ w → ones n ≡ size_of w n
unfolding size_of ones
size_counted zero n h =
    let none : n ≡ 0 = omega arith in
    ap ones none
size_counted (suc w) n h = ones_step n ∙ ap₂ (λ (a b : ℕ). a + b) (digit_of n) (size_counted w (n / 2) (half_lt w n h))

-- ---- the lowest place
lowest_low : (w n : ℕ) → bit n 0 ≡ true → lowest_of (suc w) n ≡ 0
unfolding lowest_of
lowest_low w n e = ap (λ (b : Bool). cond b 0 (suc (lowest_of w (n / 2)))) e

lowest_up : (w n : ℕ) → bit n 0 ≡ false → lowest_of (suc w) n ≡ suc (lowest_of w (n / 2))
unfolding lowest_of
lowest_up w n e = ap (λ (b : Bool). cond b 0 (suc (lowest_of w (n / 2)))) e

-- it is what the machine counts
pub lowest_counted : (w n : ℕ) → count_trailing_zeros w n ≡ lowest_of w n
unfolding count_trailing_zeros lowest_of
lowest_counted zero n = refl
lowest_counted (suc w) n = go (parity n) (lowest_counted w (n / 2))
  where
    go : (n % 2 ≡ 0) ⊎ (n % 2 ≡ 1) → count_trailing_zeros w (n / 2) ≡ lowest_of w (n / 2)
        → under (n % 2) (count_trailing_zeros w (n / 2)) ≡ lowest_of (suc w) n
    go (inl e) up =
        ap (λ (d : ℕ). under d (count_trailing_zeros w (n / 2))) e ∙ ap suc up
        ∙ sym (lowest_up w n (bit_low n ∙ ap (λ (d : ℕ). eqb d 1) e))
    go (inr e) up =
        ap (λ (d : ℕ). under d (count_trailing_zeros w (n / 2))) e
        ∙ sym (lowest_low w n (bit_low n ∙ ap (λ (d : ℕ). eqb d 1) e))

-- what is known of the lowest of w digits; `Lowest` is that of 32
record LowestIn (w n r : ℕ) : Type 0 where
  none_lower : (k : ℕ) → k < r → bit n k ≡ false
  is_set : r < w → bit n r ≡ true
  at_most : r ≤ w

lowest_in : (w n : ℕ) → LowestIn w n (lowest_of w n)
unfolding lowest_of
lowest_in zero n = record { none_lower = λ k h. absurd (not-suc-le-zero h); is_set = λ h. absurd (not-suc-le-zero h); at_most = zero-le }
lowest_in (suc w) n = go (lowest_in w (n / 2)) (bit n 0) refl
  where
    lower : LowestIn w (n / 2) (lowest_of w (n / 2)) → bit n 0 ≡ false → (k : ℕ) → k < suc (lowest_of w (n / 2)) → bit n k ≡ false
    lower up e zero h = e
    lower up e (suc k) h = bit_up n k ∙ up.none_lower k (omega arith)

    go : LowestIn w (n / 2) (lowest_of w (n / 2)) → (b : Bool) → bit n 0 ≡ b
        → LowestIn (suc w) n (cond b 0 (suc (lowest_of w (n / 2))))
    go up true e = record { none_lower = λ k h. absurd (not-suc-le-zero h); is_set = λ h. e; at_most = zero-le }
    go up false e =
        record {
          none_lower = lower up e;
          is_set = λ h. bit_up n _ ∙ up.is_set (omega arith);
          at_most = omega (arith, up.at_most);
        }

pub lowest_is_right : LowestIsRight
unfolding lowest
lowest_is_right a = let r = lowest_in places a in record { none_lower = r.none_lower; is_set = r.is_set; at_most = r.at_most }

-- of two such places none is the lower: its bit would be set and not set
not_lower : {a r t : ℕ} → Lowest a r → Lowest a t → r < t → ⊥
not_lower {r = r} p q l = true≢false (sym (p.is_set (omega (arith, q.at_most))) ∙ q.none_lower r l)

pub one_lowest : OneLowest
one_lowest a r t p q = omega (arith, not_lower p q, not_lower q p)

-- ---- the operations as the machine computes them
pub union_is : (a b : ℕ) → a < 2 ^ places → b < 2 ^ places → bit_or a b ≡ union a b
unfolding union
union_is a b ha hb = word_is places _ _ (or_lt places a b ha hb) (λ k h. bit_or_lem a b k)

pub intersection_is : (a b : ℕ) → a < 2 ^ places → bit_and a b ≡ intersection a b
unfolding intersection
intersection_is a b ha = word_is places _ _ (omega (arith, and_le_l a b)) (λ k h. bit_and_lem a b k)

pub difference_is : (a b : ℕ) → a < 2 ^ places → b < 2 ^ places → bit_and a ((2 ^ places - 1) - b) ≡ difference a b
unfolding difference
difference_is a b ha hb =
    word_is places _ _ (omega (arith, and_le_l a ((2 ^ places - 1) - b)))
    (λ k h. bit_and_lem a _ k ∙ ap (λ (t : Bool). bit a k && t) (bit_not places b k hb h))

pub subset_is : (a b : ℕ) → a < 2 ^ places → b < 2 ^ places → eqb (bit_and a ((2 ^ places - 1) - b)) 0 ≡ is_subset a b
unfolding is_subset
subset_is a b ha hb = ap (λ (n : ℕ). eqb n 0) (difference_is a b ha hb)

-- one bit, shifted to its place
bit_one : (j : ℕ) (v : Bool) (k : ℕ) → k < places → bit ((bool_byte v * 2 ^ j) % 2 ^ places) k ≡ (v && eqb k j)
bit_one j v k hk = bit_mod places _ k hk ∙ go v
  where
    go : (v : Bool) → bit (bool_byte v * 2 ^ j) k ≡ (v && eqb k j)
    go true = ap (λ (x : ℕ). bit x k) (one-mul (2 ^ j)) ∙ bit_power j k
    go false = ap (λ (x : ℕ). bit x k) (zero-mul (2 ^ j)) ∙ bit_zero k

-- a bit of one row where e is not, and of another where it is
pub place : (a e v : Bool) → ((a && not e) || (v && e)) ≡ cond e v a
place true true true = refl
place true true false = refl
place true false true = refl
place true false false = refl
place false true true = refl
place false true false = refl
place false false true = refl
place false false false = refl

pub with_bit_is : (a j : ℕ) (v : Bool) → a < 2 ^ places
    → bit_or (bit_and a ((2 ^ places - 1) - (1 * 2 ^ j) % 2 ^ places)) ((bool_byte v * 2 ^ j) % 2 ^ places) ≡ with_bit a j v
unfolding with_bit
with_bit_is a j v ha =
    let small : (1 * 2 ^ j) % 2 ^ places < 2 ^ places = mod-lt _ (pow_pos places) in
    let fits : bit_and a ((2 ^ places - 1) - (1 * 2 ^ j) % 2 ^ places) < 2 ^ places = omega (arith, and_le_l a ((2 ^ places - 1) - (1 * 2 ^ j) % 2 ^ places)) in
    word_is places _ _ (or_lt places _ _ fits (mod-lt _ (pow_pos places)))
    (λ k h.
    bit_or_lem _ _ k
    ∙ ap₂ ◌||◌ (bit_and_lem a _ k ∙ ap (λ (t : Bool). bit a k && t) (bit_not places _ k small h ∙ ap not (bit_one j true k h))) (bit_one j v k h)
    ∙ place (bit a k) (eqb k j) v)

-- a place past the last changes nothing
pub with_bit_past : (a j : ℕ) (v : Bool) → a < 2 ^ places → places ≤ j → a ≡ with_bit a j v
unfolding with_bit
with_bit_past a j v ha h = word_is places a _ ha (λ k l. sym (ap (λ (b : Bool). cond b v (bit a k)) (ne_eqb k j (λ (e : k ≡ j). omega arith))))

pub is_set_is : (a j : ℕ) → a < 2 ^ places → j < places → not (eqb (bit_and a ((1 * 2 ^ j) % 2 ^ places)) 0) ≡ bit a j
is_set_is a j ha hj = go (bit a j) refl
  where
    x : ℕ
    x = bit_and a ((1 * 2 ^ j) % 2 ^ places)

    bits : (k : ℕ) → k < places → bit x k ≡ (bit a k && eqb k j)
    bits k h = bit_and_lem a _ k ∙ ap (λ (t : Bool). bit a k && t) (bit_one j true k h)

    go : (b : Bool) → bit a j ≡ b → not (eqb x 0) ≡ bit a j
    go true e =
        let here : bit x j ≡ true = bits j hj ∙ ap₂ ◌&&◌ e (eq-eqb j j refl) in
        ap not (ne_eqb x 0 (λ (z : x ≡ 0). true≢false (sym here ∙ ap (λ (n : ℕ). bit n j) z ∙ bit_zero j))) ∙ sym e
    go false e = ap not (eq-eqb x 0 (none_set x (omega (arith, and_le_l a ((1 * 2 ^ j) % 2 ^ places))) none)) ∙ sym e
      where
        none : (k : ℕ) → k < places → bit x k ≡ false
        none k h = bits k h ∙ at (ℕ_discrete k j)
          where
            at : Dec (k ≡ j) → (bit a k && eqb k j) ≡ false
            at (yes q) = rw (q, e) refl
            at (no q) = ap (λ (t : Bool). bit a k && t) (ne_eqb k j q) ∙ and-false (bit a k)

-- ---- one less: the bits above the lowest stay, and the lowest goes
odd_of : (n : ℕ) → bit n 0 ≡ true → n % 2 ≡ 1
odd_of n e = eqb-true (n % 2) 1 (sym (bit_low n) ∙ e)

even_of : (n : ℕ) → bit n 0 ≡ false → n % 2 ≡ 0
even_of n e = go (parity n)
  where
    go : (n % 2 ≡ 0) ⊎ (n % 2 ≡ 1) → n % 2 ≡ 0
    go (inl q) = q
    go (inr q) = absurd (eqb-false (n % 2) 1 (sym (bit_low n) ∙ e) q)

and_self : (b : Bool) → (b && b) ≡ b
and_self true = refl
and_self false = refl

one_less : (j n k : ℕ) → bit n j ≡ true → ((m : ℕ) → m < j → bit n m ≡ false)
    → (bit n k && bit (n - 1) k) ≡ cond (eqb k j) false (bit n k)
one_less zero n zero s none =
    let o : n % 2 ≡ 1 = odd_of n s in
    let m : (n - 1) % 2 ≡ 0 = omega arith in
    let f : bit (n - 1) 0 ≡ false = bit_low (n - 1) ∙ ap (λ (x : ℕ). eqb x 1) m in
    ap₂ ◌&&◌ s f
one_less zero n (suc k) s none =
    let o : n % 2 ≡ 1 = odd_of n s in
    let m : (n - 1) / 2 ≡ n / 2 = omega arith in
    ap₂ ◌&&◌ (bit_up n k) (bit_up (n - 1) k ∙ ap (λ (x : ℕ). bit x k) m) ∙ and_self (bit (n / 2) k)
    ∙ sym (ap₂ (λ (t b : Bool). cond t false b) (eqb-suc-zero k) (bit_up n k))
one_less (suc j) n zero s none =
    let f : bit n 0 ≡ false = none 0 (omega arith) in
    ap (λ (b : Bool). b && bit (n - 1) 0) f ∙ sym (ap₂ (λ (t b : Bool). cond t false b) (eqb-zero-suc j) f)
one_less (suc j) n (suc k) s none =
    let o : n % 2 ≡ 0 = even_of n (none 0 (omega arith)) in
    let m : (n - 1) / 2 ≡ n / 2 - 1 = omega arith in
    ap₂ ◌&&◌ (bit_up n k) (bit_up (n - 1) k ∙ ap (λ (x : ℕ). bit x k) m)
    ∙ one_less j (n / 2) k (sym (bit_up n j) ∙ s) (λ i h. sym (bit_up n i) ∙ none (suc i) (omega arith))
    ∙ sym (ap₂ (λ (t b : Bool). cond t false b) (eqb-suc-suc k j) (bit_up n k))

lowest_of_none : (a : ℕ) → a ≡ 0 → places ≤ lowest a
lowest_of_none a e = go (dec_lt (lowest a) places)
  where
    go : Dec (lowest a < places) → places ≤ lowest a
    go (yes h) = absurd (true≢false (sym ((lowest_is_right a).is_set h) ∙ ap (λ (n : ℕ). bit n (lowest a)) e ∙ bit_zero (lowest a)))
    go (no h) = omega arith

pub lowest_inside : LowestInside
lowest_inside a ha f = go (dec_lt (lowest a) places)
  where
    go : Dec (lowest a < places) → lowest a < places
    go (yes h) = h
    go (no h) = absurd (f (none_set a ha (λ k l. (lowest_is_right a).none_lower k (omega arith))))

-- the place that a walk takes is one
pub next_inside : {rest place left : ℕ} → rest < 2 ^ places → Next rest place left → place < places
next_inside {rest = rest} h n = subst (λ (k : ℕ). k < places) (sym n.place_is) (lowest_inside rest h n.some)

-- the row that a loop over the places of a row is left with, and what makes the loop end
pub without_lowest_none : (a : ℕ) → a ≡ 0 → a ≡ without_lowest a
unfolding without_lowest
without_lowest_none a e = with_bit_past a (lowest a) false (omega (arith, pow_pos places)) (lowest_of_none a e)

pub without_lowest_is : (a : ℕ) → a < 2 ^ places → (a ≡ 0 → ⊥) → bit_and a (a - 1) ≡ without_lowest a
unfolding without_lowest with_bit
without_lowest_is a ha f =
    let low = lowest_is_right a in
    word_is places _ _ (omega (arith, and_le_l a (a - 1)))
    (λ k h. bit_and_lem a (a - 1) k ∙ one_less (lowest a) a k (low.is_set (lowest_inside a ha f)) low.none_lower)

pub without_lowest_reads : WithoutLowestReads
unfolding without_lowest
without_lowest_reads a k = with_bit_reads a (lowest a) false k

pub without_lowest_bit : (a k : ℕ) → k < places → bit (without_lowest a) k ≡ cond (eqb k (lowest a)) false (bit a k)
unfolding without_lowest
without_lowest_bit a k h = with_bit_bit a (lowest a) false k h

pub without_lowest_fits : (a : ℕ) → without_lowest a < 2 ^ places
unfolding without_lowest
without_lowest_fits a = with_bit_fits a (lowest a) false

pub without_lowest_less : WithoutLowestLess
without_lowest_less a ha f = subst (λ (n : ℕ). n < a) (without_lowest_is a ha f) (omega (arith, and_le_r a (a - 1), f))

-- ---- exactly one place
pub single_decided : SingleDecided
unfolding is_single
single_decided a h = (there, back)
  where
    low : ℕ
    low = lowest a

    -- a place but the lowest is one of the row without it
    other : (k : ℕ) → k < places → (k ≡ low → ⊥) → bit (without_lowest a) k ≡ bit a k
    other k l ne = without_lowest_bit a k l ∙ ap (λ (b : Bool). cond b false (bit a k)) (ne_eqb k low ne)

    some : T (not (is_empty a)) → a ≡ 0 → ⊥
    some t e = split (is_empty a) t (passes e)
      where
        split : (b : Bool) → T (not b) → T b → ⊥
        split true n p = n
        split false n p = p

    there : T (not (is_empty a) && is_empty (without_lowest a)) → Single a
    there t =
        let ne = some (first (not (is_empty a)) (is_empty (without_lowest a)) t) in
        let inside : low < places = lowest_inside a h ne in
        record {
          place = low;
          inside = inside;
          there = subst T (sym ((lowest_is_right a).is_set inside)) tt;
          only = λ k l p. go k l p (ℕ_discrete k low);
        }
      where
        first : (p q : Bool) → T (p && q) → T p
        first true q t = tt
        first false q t = t

        second : (p q : Bool) → T (p && q) → T q
        second true q t = t
        second false q t = absurd t

        go : (k : ℕ) → k < places → T (bit a k) → Dec (k ≡ low) → k ≡ low
        go k l p (yes e) = e
        go k l p (no e) =
            absurd (subst T (sym (other k l e) ∙ (empty_decided (without_lowest a) (without_lowest_fits a)).0 (second (not (is_empty a)) (is_empty (without_lowest a)) t) k l) p)

    back : Single a → T (not (is_empty a) && is_empty (without_lowest a))
    back s = both (not (is_empty a)) (is_empty (without_lowest a)) some_set ((empty_decided (without_lowest a) (without_lowest_fits a)).1 none)
      where
        both : (p q : Bool) → T p → T q → T (p && q)
        both true q x y = y
        both false q x y = x

        ne : a ≡ 0 → ⊥
        ne e = subst T (ap (λ (n : ℕ). bit n s.place) e ∙ bit_zero s.place) s.there

        some_set : T (not (is_empty a))
        some_set = subst T (sym (ap not (ne_eqb a 0 ne))) tt

        low_is : low ≡ s.place
        low_is = s.only low (lowest_inside a h ne) (subst T (sym ((lowest_is_right a).is_set (lowest_inside a h ne))) tt)

        none : (k : ℕ) → k < places → bit (without_lowest a) k ≡ false
        none k l = go (ℕ_discrete k low)
          where
            clear : (b : Bool) → (T b → ⊥) → b ≡ false
            clear true f = absurd (f tt)
            clear false f = refl

            go : Dec (k ≡ low) → bit (without_lowest a) k ≡ false
            go (yes e) = without_lowest_bit a k l ∙ ap (λ (b : Bool). cond b false (bit a k)) (eq-eqb k low e)
            go (no e) = other k l e ∙ clear (bit a k) (λ p. e (s.only k l p ∙ sym low_is))
