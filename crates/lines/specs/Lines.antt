-- The lines of an input (document 01, 'The program PanelRights'): "lines of four decimal numbers 0 to 255, without
-- leading zeros, one space between, each line ended by byte 10; a last line lacking that is unreadable."
--     parts        the parts of some bytes between those of one value
--     line_of      what a line says
--     lines_of     the lines of an input
--     line_number  the paper's number for a line
--     first_line_of the first line, and how many bytes it takes
use Rattle.std.specs.Prelude.{ℕ, suc, cond, Option, Some, None, List, [], ◌∷◌, map, eqb, ltb, length, take}
use Rattle.instructions.specs.Instructions.{four_bytes}
use Rattle.instructions.specs.declared.Bytes.{Bytes}
use Rattle.lines.specs.Words.{word_number}
use Rattle.lines.specs.declared.First.{First}

-- what a line says, or `None` if it is unreadable
abbrev pub Line : Type 0
Line = Option Bytes

-- the paper's number for each case: 13, "unreadable line", and 0 for a line that is readable; the step then gives its
-- own number
abbrev pub line_number : Line → ℕ
line_number None = 13
line_number (Some bytes) = 0

-- the two bytes that part lines and numbers
abbrev pub newline : ℕ
newline = 10

abbrev pub space : ℕ
space = 32

-- a byte put in front of the first part
abbrev pub onto : ℕ → List (List ℕ) → List (List ℕ)
onto x [] = (x ∷ []) ∷ []
onto x (part ∷ rest) = (x ∷ part) ∷ rest

-- the parts of the bytes in front of each `at`, and the part behind the last
unfoldable pub parts : (at : ℕ) → List ℕ → List (List ℕ)
parts at [] = [] ∷ []
parts at (x ∷ rest) = cond (eqb x at) ([] ∷ parts at rest) (onto x (parts at rest))

-- "four decimal numbers 0 to 255": a line of exactly these is readable
abbrev pub line_by : List (Option ℕ) → Line
line_by (Some c ∷ Some u ∷ Some a ∷ Some b ∷ []) = Some (four_bytes c u a b)
line_by others = None

-- what a line says, its byte 10 left out: its parts, "one space between", are the numbers
unfoldable pub line_of : (text : List ℕ) → Line
line_of text = line_by (map word_number (parts space text))

-- "each line ended by byte 10; a last line lacking that is unreadable". Behind the last byte 10 stands no line, or one
-- that lacks it.
abbrev pub unended : List ℕ → List Line
unended [] = []
unended (x ∷ rest) = None ∷ []

abbrev pub lines_by : List (List ℕ) → List Line
lines_by [] = []
lines_by (last ∷ []) = unended last
lines_by (text ∷ next ∷ rest) = line_of text ∷ lines_by (next ∷ rest)

unfoldable pub lines_of : (input : List ℕ) → List Line
lines_of input = lines_by (parts newline input)

-- ---- the first line
-- how many bytes stand in front of the first `at`; all of them if there is none
unfoldable pub index : (at : ℕ) → List ℕ → ℕ
index at [] = 0
index at (x ∷ rest) = cond (eqb x at) 0 (suc (index at rest))

abbrev pub first : Line → ℕ → First
first line size = record { line = line; size = size }

-- the first line of the bytes, and how many of them it takes, its byte 10 included; of no bytes, an unreadable line
-- that takes none
unfoldable pub first_line_of : List ℕ → First
first_line_of bytes =
    cond (ltb (index newline bytes) (length bytes))
    (first (line_of (take (index newline bytes) bytes)) (suc (index newline bytes)))
    (first None (length bytes))
