-- The number that a word stands for (document 01, 'The program PanelRights'): "decimal numbers 0 to 255, without
-- leading zeros". How a number is written is in crate `output` (Decimal).
use Rattle.std.specs.Prelude.{ℕ, Bool, true, false, ◌&&◌, Option, List, [], ◌∷◌, eqb}
use Rattle.state.specs.Below.{found_below}
use Rattle.output.specs.Decimal.{decimal}

-- the same bytes
unfoldable pub same : (v w : List ℕ) → Bool
same [] [] = true
same [] (y ∷ w) = false
same (x ∷ v) [] = false
same (x ∷ v) (y ∷ w) = eqb x y && same v w

-- the word is the number n
abbrev pub is_number : (word : List ℕ) (n : ℕ) → Bool
is_number word n = same word (decimal n)

-- "decimal numbers 0 to 255": 256 is the first that is none
abbrev pub no_number : ℕ
no_number = 256

-- the number that the word stands for, if it stands for one
unfoldable pub word_number : (word : List ℕ) → Option ℕ
word_number word = found_below no_number (is_number word)
