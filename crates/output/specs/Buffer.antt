-- What becomes of a buffer that a text is written into, and what is answered.
--     laid, place_behind      a text from a place on, as far as the buffer goes
--     written_of, buffer_of   a whole text, or nothing where the buffer is too short
--     as_written              what a function answers, as the two numbers that `written_of` has
use Rattle.std.specs.Prelude.{ℕ, ◌+◌, min, Bool, cond, List, ◌++◌, ltb, length, drop, Result, Ok, Err}
use Rattle.std.proofs.lemmas.List.Edits.{sets}
use Rattle.verdicts.specs.Refusals.{number}
use Rattle.verdicts.specs.declared.Refusal.{Refusal}

-- the bytes of the text stored in the buffer at `at` and the places behind, in order (the library's `sets`); past the
-- buffer's end nothing is stored
unfoldable pub laid : (text : List ℕ) (at : ℕ) (buffer : List ℕ) → List ℕ
laid text at buffer = sets buffer at text

-- the largest number of 64 bits: a place is counted no further, and no buffer goes so far
abbrev pub last_place : ℕ
last_place = 18446744073709551615

-- the place behind a text from `at` on
unfoldable pub place_behind : (at : ℕ) (text : List ℕ) → ℕ
place_behind at text = min (at + length text) last_place

-- the number of a refusal, 0 for none; and how many bytes were written
pub record Written : Type 0 where
  pub refusal : ℕ
  pub length : ℕ

abbrev pub written : (refusal count : ℕ) → Written
written refusal count = record { refusal = refusal; length = count }

-- so many bytes, or a refusal's number and none
abbrev pub as_written : Result ℕ Refusal → Written
as_written (Ok count) = written 0 count
as_written (Err refusal) = written (number refusal) 0

-- the buffer is shorter than the text
abbrev pub is_short : (text buffer : List ℕ) → Bool
is_short text buffer = ltb (length buffer) (length text)

-- 31, document 02's number for a buffer that is too short, and no byte written; or 0 and how many were
unfoldable pub written_of : (text buffer : List ℕ) → Written
written_of text buffer = cond (is_short text buffer) (written 31 0) (written 0 (length text))

-- no byte changed where the buffer is too short; else the text at the front, and the bytes past it as they were
unfoldable pub buffer_of : (text buffer : List ℕ) → List ℕ
buffer_of text buffer = cond (is_short text buffer) buffer (text ++ drop (length text) buffer)
