-- A row of bits: a number below 2 ^ 32, which stands for a set of places 0 to 31. Place k is in the row where bit k is
-- set.
--     bit                                  whether a bit is set
--     word                                 the number whose bits are the values of a test
--     with_bit                             a row with a place put in or taken out
--     union, intersection, difference      of two rows
--     is_empty, is_subset                  tests; that they decide what their names say is claimed (Claims)
--     size                                 how many places are in a row
--     Lowest, lowest, without_lowest       the lowest place in a row, and the row without it
--     Next, NextPlace                      one step of a walk over the places of a row
--     Single, is_single                    exactly one place is in a row
use Rattle.std.specs.Prelude.{ℕ, zero, suc, ◌+◌, ◌*◌, ◌/◌, ◌%◌, ◌^◌, ◌≤◌, ◌<◌, ◌≡◌, Bool, true, false, ◌&&◌, ◌||◌, not, cond, T, eqb, Option, Some, None, ◌≢◌}

-- bit k of n is set: n / 2 ^ k is odd
unfoldable pub bit : ℕ → ℕ → Bool
bit n k = eqb (n / 2 ^ k % 2) 1

-- how many places there are
abbrev pub places : ℕ
places = 32

-- the number of w binary digits test i, test (i + 1), .., the lowest first
unfoldable pub word_from : (ℕ → Bool) → (i w : ℕ) → ℕ
word_from test i zero = 0
word_from test i (suc w) = word_from test (suc i) w * 2 + cond (test i) 1 0

-- the number of w binary digits whose bit k is test k
unfoldable pub word : ℕ → (ℕ → Bool) → ℕ
unfolding word_from
word w test = word_from test 0 w

-- the row with place k in it (v true) or not in it (v false); a place past 31 changes nothing
unfoldable pub with_bit : ℕ → ℕ → Bool → ℕ
with_bit a k v = word places (λ j. cond (eqb j k) v (bit a j))

-- the places of either row, of both, and of the first that are not in the second
unfoldable pub union : ℕ → ℕ → ℕ
union a b = word places (λ k. bit a k || bit b k)

unfoldable pub intersection : ℕ → ℕ → ℕ
intersection a b = word places (λ k. bit a k && bit b k)

unfoldable pub difference : ℕ → ℕ → ℕ
difference a b = word places (λ k. bit a k && not (bit b k))

-- no place is in the row
abbrev pub is_empty : ℕ → Bool
is_empty a = eqb a 0

-- no place of the first row is missing in the second
unfoldable pub is_subset : ℕ → ℕ → Bool
is_subset a b = is_empty (difference a b)

-- how many of the w lowest bits are set: bit 0, and then those of the half
unfoldable pub size_of : (w n : ℕ) → ℕ
size_of zero n = 0
size_of (suc w) n = cond (bit n 0) 1 0 + size_of w (n / 2)

-- how many places are in the row
unfoldable pub size : ℕ → ℕ
unfolding size_of
size a = size_of places a

-- r is the lowest place in the row, 32 if none is: at 32 the first line says that none is
pub record Lowest (a r : ℕ) : Type 0 where
  pub none_lower : (k : ℕ) → k < r → bit a k ≡ false
  pub is_set : r < places → bit a r ≡ true
  pub at_most : r ≤ places

-- the lowest of the w lowest bits that is set, w if none is: bit 0, or one above that of the half
unfoldable pub lowest_of : (w n : ℕ) → ℕ
lowest_of zero n = 0
lowest_of (suc w) n = cond (bit n 0) 0 (suc (lowest_of w (n / 2)))

-- the lowest place in the row, 32 if none is, computed
unfoldable pub lowest : ℕ → ℕ
unfolding lowest_of
lowest a = lowest_of places a

-- the row without its lowest place; a row without places as it is
unfoldable pub without_lowest : ℕ → ℕ
without_lowest a = with_bit a (lowest a) false

-- One step of a walk over the places of a row, the lowest first: from the places that are left it takes the lowest, and
-- leaves the others; where none is left it ends.
pub record Next (rest place left : ℕ) : Type 0 where
  pub some : rest ≢ 0
  pub place_is : place ≡ lowest rest
  pub left_is : left ≡ without_lowest rest

abbrev pub NextPlace : (rest : ℕ) → Option ℕ → (left : ℕ) → Type 0
NextPlace rest (Some place) left = Next rest place left
NextPlace rest None left = (rest ≡ 0) × (left ≡ 0)

-- exactly one place is in the row
pub record Single (a : ℕ) : Type 0 where
  pub place : ℕ
  pub inside : place < places
  pub there : T (bit a place)
  pub only : (k : ℕ) → k < places → T (bit a k) → k ≡ place

-- a place is in the row, and none but the lowest: that this decides Single is claimed
unfoldable pub is_single : ℕ → Bool
is_single a = not (is_empty a) && is_empty (without_lowest a)
