-- What is claimed of texts in a buffer, and of numbers. Each claim is a type, which proofs/Laws.antt inhabits under the
-- claim's name.
use Rattle.std.specs.Prelude.{ℕ, ◌+◌, ◌/◌, ◌%◌, ◌≤◌, ◌<◌, ◌≡◌, List, [], ◌∷◌, ◌++◌, length, take, drop}
use Rattle.output.specs.Buffer.{laid, place_behind, written, written_of, buffer_of}
use Rattle.output.specs.Decimal.{decimal}

-- ---- a text in a buffer
-- the buffer up to the place, the text, and the buffer behind it; what goes past the buffer's end is dropped
abbrev pub LaidExactly : Type 0
LaidExactly =
    (text : List ℕ) (at : ℕ) (buffer : List ℕ)
    → laid text at buffer ≡ take (length buffer) (take at buffer ++ text ++ drop (at + length text) buffer)

-- the place behind the text is so many bytes further, where a number of 64 bits can say so
abbrev pub PlaceCounts : Type 0
PlaceCounts =
    (at : ℕ) (text : List ℕ) → at + length text ≤ 18446744073709551615
    → place_behind at text ≡ at + length text

-- a buffer that is shorter than the text is refused as 31, and no byte of it changes
abbrev pub ShortRefused : Type 0
ShortRefused = (text buffer : List ℕ) → length buffer < length text → written_of text buffer ≡ written 31 0

abbrev pub ShortUnchanged : Type 0
ShortUnchanged = (text buffer : List ℕ) → length buffer < length text → buffer_of text buffer ≡ buffer

-- ---- decimal numbers: the two rules; byte 48 is the digit 0
abbrev pub DecimalOne : Type 0
DecimalOne = (n : ℕ) → n < 10 → decimal n ≡ (48 + n) ∷ []

abbrev pub DecimalMore : Type 0
DecimalMore = (n : ℕ) → 10 ≤ n → decimal n ≡ decimal (n / 10) ++ ((48 + n % 10) ∷ [])
