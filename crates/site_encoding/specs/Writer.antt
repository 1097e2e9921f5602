-- The writer of site files (document 02, point 3): "from a sound state and a block of 32-byte label entries into a lent
-- buffer, with the length as the answer." The bytes that it writes are `encode` of the state and its labels
-- (Encode).
--     write_checks, write_refusal   the refusals, in the paper's order
--     write_of                      what is answered
--     buffer_after                  what the buffer holds afterwards
use Rattle.std.specs.Prelude.{ℕ, ◌%◌, Bool, ◌||◌, not, cond, List, [], ◌∷◌, ◌++◌, eqb, length, drop}
use Rattle.state.specs.Checks.{Check, ◌when◌, first_met}
use Rattle.state.specs.Site.{Site}
use Rattle.soundness.specs.Tests.{is_sound}
use Rattle.label_tables.specs.Labels.{label_size, labels_fit, labels_ascend, labels_listed}
use Rattle.site_encoding.specs.Encode.{encode}
use Rattle.output.specs.Buffer.{Written, written, is_short}

-- "a label block that has a partial entry": its length is no multiple of 32
abbrev pub has_partial : (block : List ℕ) → Bool
has_partial l = not (eqb (length l % label_size) 0)

-- "or breaks the label conditions of 26, 27 or 28"
abbrev pub breaks_labels : Site → (block : List ℕ) → Bool
breaks_labels s l = not (labels_fit l) || not (labels_ascend l) || not (labels_listed s.areas l)

-- 30: either of the two
abbrev pub is_unlawful : Site → (block : List ℕ) → Bool
is_unlawful s l = has_partial l || breaks_labels s l

-- "Refusals are 12, then 30 for a label block that has a partial entry or breaks the label conditions of 26, 27 or 28,
-- then 31 for a buffer shorter than the file."
abbrev pub write_checks : Site → (block buffer : List ℕ) → List Check
write_checks s l buffer =
    (12 when not (is_sound s))
    ∷ (30 when is_unlawful s l)
    ∷ (31 when is_short (encode s l) buffer)
    ∷ []

-- no other number is given (WriterClaims, WriteNumbers)
abbrev pub write_numbers : List ℕ
write_numbers = 12 ∷ 30 ∷ 31 ∷ []

-- the number of the refusal, 0 where the file is written
unfoldable pub write_refusal : Site → (block buffer : List ℕ) → ℕ
write_refusal s l buffer = first_met (write_checks s l buffer)

-- "with the length as the answer": how many bytes the file has, or the refusal and no byte
unfoldable pub write_of : Site → (block buffer : List ℕ) → Written
write_of s l buffer =
    cond (eqb (write_refusal s l buffer) 0) (written 0 (length (encode s l))) (written (write_refusal s l buffer) 0)

-- the file from the front of the buffer on; "Bytes past the length keep their content, and a refusal changes no byte."
unfoldable pub buffer_after : Site → (block buffer : List ℕ) → List ℕ
buffer_after s l buffer =
    cond (eqb (write_refusal s l buffer) 0) (encode s l ++ drop (length (encode s l)) buffer) buffer
