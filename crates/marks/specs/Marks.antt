-- The lowest mark of a byte (document 01, 'The access question'): "eight marks in a byte (lowest number in the lowest
-- bit) give the place (0 to 7) of the lowest mark set, 8 if none".
use Rattle.std.specs.Prelude.{◌≡◌, Bool, true, false, ℕ, ◌^◌, ◌/◌, ◌%◌, ◌<◌, ◌≤◌, eqb}
use Rattle.state.specs.Below.{first_below}

-- "eight marks in a byte (lowest number in the lowest bit)": whether mark k of byte b is set
unfoldable pub marked : ℕ → ℕ → Bool
marked b k = eqb (b / 2 ^ k % 2) 1

-- "the place (0 to 7) of the lowest mark set, 8 if none": r is that for byte b; at 8 the first line says that none is
-- set
pub record Lowest (b r : ℕ) : Type 0 where
  pub none_lower : (k : ℕ) → k < r → marked b k ≡ false
  pub is_set : r < 8 → marked b r ≡ true
  pub at_most : r ≤ 8

-- "the place (0 to 7) of the lowest mark set, 8 if none", computed
unfoldable pub lowest : ℕ → ℕ
lowest b = first_below 8 (marked b)

-- what is computed is the place of the lowest mark set, 8 if none
abbrev pub LowestIsRight : Type 0
LowestIsRight = (b : ℕ) → Lowest b (lowest b)

-- no byte has two such places
abbrev pub OnlyOne : Type 0
OnlyOne = (b r t : ℕ) → Lowest b r → Lowest b t → r ≡ t
