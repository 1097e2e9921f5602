-- Not needed to believe a claim. What this crate's own functions promise each other: the number of a word with one byte
-- more, and that a byte is not among some others.
use Rattle.std.specs.Prelude.{ℕ, ◌+◌, ◌-◌, ◌*◌, ◌≡◌, ◌||◌, cond, Option, Some, None, List, eqb, ltb, length}
use Rattle.lines.specs.Words.{no_number}
use Rattle.lines.specs.Lines.{index}

-- n with one digit more, unless the byte is no digit, or the number is above 255
abbrev pub with_digit : (n byte : ℕ) → Option ℕ
with_digit n byte =
    cond (ltb byte 48 || ltb 57 byte) None
    (cond (ltb (n * 10 + (byte - 48)) no_number) (Some (n * 10 + (byte - 48))) None)

-- the number of a word of one byte or more that stands for n, with one more: "without leading zeros", nothing follows 0
abbrev pub extended : (n byte : ℕ) → Option ℕ
extended n byte = cond (eqb n 0) None (with_digit n byte)

-- no byte is `at`
abbrev pub Lacks : (at : ℕ) → List ℕ → Type 0
Lacks at bytes = index at bytes ≡ length bytes
