-- What the layers above use. Each law is a type, which proofs/Laws.antt inhabits under the law's name.
use Rattle.std.specs.Prelude.{ℕ, ◌≤◌, ◌<◌, ◌≡◌, List, ◌∷◌, length, drop}
use Rattle.lines.specs.Lines.{lines_of, first_line_of}

-- bytes that are not empty have a first line, and the lines of what stands behind it
abbrev pub FirstLine : Type 0
FirstLine =
    (bytes : List ℕ) → 0 < length bytes
    → lines_of bytes ≡ (first_line_of bytes).line ∷ lines_of (drop (first_line_of bytes).size bytes)

-- the first line has a byte, and no more than there are
pub record Sized (bytes : List ℕ) : Type 0 where
  pub some : 0 < (first_line_of bytes).size
  pub within : (first_line_of bytes).size ≤ length bytes

abbrev pub FirstSize : Type 0
FirstSize = (bytes : List ℕ) → 0 < length bytes → Sized bytes

-- no more lines than bytes
abbrev pub LinesAtMost : Type 0
LinesAtMost = (input : List ℕ) → length (lines_of input) ≤ length input
