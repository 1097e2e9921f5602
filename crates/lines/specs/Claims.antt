-- What is claimed of words and lines. Each claim is a type, which proofs/Laws.antt inhabits under the claim's name.
use Rattle.std.specs.Prelude.{ℕ, ◌<◌, ◌≡◌, ◌↔◌, Some, List, [], ◌∷◌, ◌++◌}
use Rattle.instructions.specs.Instructions.{four_bytes}
use Rattle.output.specs.Decimal.{decimal}
use Rattle.lines.specs.Words.{word_number}
use Rattle.lines.specs.Lines.{line_number, line_of, lines_of, first_line_of}

-- a word stands for a number 0 to 255 exactly when it is that number's bytes
abbrev pub NumberExactly : Type 0
NumberExactly = (word : List ℕ) (n : ℕ) → n < 256 → (word_number word ≡ Some n) ↔ (word ≡ decimal n)

-- ---- lines
-- "four decimal numbers 0 to 255, without leading zeros, one space between": byte 32 is a space
abbrev pub text_of : (c u a b : ℕ) → List ℕ
text_of c u a b = decimal c ++ 32 ∷ decimal u ++ 32 ∷ decimal a ++ 32 ∷ decimal b

pub record AllBelow256 (c u a b : ℕ) : Type 0 where
  pub code : c < 256
  pub activator : u < 256
  pub first : a < 256
  pub second : b < 256

pub record FourNumbers (line : List ℕ) (c u a b : ℕ) : Type 0 where
  pub below : AllBelow256 c u a b
  pub text : line ≡ text_of c u a b

-- a line is readable exactly when it is so written, and then says these numbers
abbrev pub ReadableExactly : Type 0
ReadableExactly = (text : List ℕ) (c u a b : ℕ) → (line_of text ≡ Some (four_bytes c u a b)) ↔ FourNumbers text c u a b

-- the bytes begin with a line so written, "ended by byte 10"
pub record ReadableFirst (bytes : List ℕ) : Type 0 where
  pub code : ℕ
  pub activator : ℕ
  pub first : ℕ
  pub second : ℕ
  pub rest : List ℕ
  pub below : AllBelow256 code activator first second
  pub text : bytes ≡ text_of code activator first second ++ 10 ∷ rest

-- what `first_line` promises of the number of its line (Lines, `line_number`): 13, "unreadable line", exactly where the
-- bytes begin with no such line
pub record NumberOfFirst (bytes : List ℕ) (n : ℕ) : Type 0 where
  pub readable : ReadableFirst bytes → n ≡ 0
  pub unreadable : (ReadableFirst bytes → ⊥) → n ≡ 13

abbrev pub FirstLineNumber : Type 0
FirstLineNumber = (bytes : List ℕ) → NumberOfFirst bytes (line_number (first_line_of bytes).line)

-- "Empty input has no line"
abbrev pub NoLine : Type 0
NoLine = lines_of [] ≡ []
