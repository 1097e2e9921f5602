-- What is claimed of the writer. Each claim is a type, which proofs/WriterLaws.antt inhabits under the claim's name.
-- That a file never has more than 13,340 bytes is claimed too (Claims, EncodeMost and AcceptedMost).
use Rattle.std.specs.Prelude.{ℕ, ◌≤◌, ◌<◌, ◌≡◌, ◌↔◌, List, ◌∷◌, ◌++◌, T, length, take, drop}
use Rattle.state.specs.Checks.{numbers, among}
use Rattle.state.specs.Site.{Site, Shaped}
use Rattle.soundness.specs.Sound.{Sound}
use Rattle.label_tables.specs.Labels.{label_of}
use Rattle.site_format.specs.Format.{AreBytes, labels, part}
use Rattle.site_file.specs.Reading.{file_refusal, read_of}
use Rattle.label_finder.specs.Finder.{label_text}
use Rattle.site_encoding.specs.Encode.{Lawful, encode}
use Rattle.site_encoding.specs.Claims.{Accepted, most_bytes}
use Rattle.output.specs.Buffer.{written}
use Rattle.site_encoding.specs.Writer.{write_checks, write_numbers, write_refusal, write_of, buffer_after}

-- ---- what is written, and when
-- the state is sound, the labels are lawful, and the buffer is no shorter than the file
pub record Writable (s : Site) (l buffer : List ℕ) : Type 0 where
  pub sound : Sound s
  pub lawful : Lawful s l
  pub room : length (encode s l) ≤ length buffer

-- a file is written exactly then
abbrev pub WrittenExactly : Type 0
WrittenExactly = (s : Site) → Shaped s → (l buffer : List ℕ) → (write_refusal s l buffer ≡ 0) ↔ Writable s l buffer

-- and it is the encoding: "with the length as the answer", "Bytes past the length keep their content"
pub record WroteEncoding (s : Site) (l buffer : List ℕ) : Type 0 where
  pub answer : write_of s l buffer ≡ written 0 (length (encode s l))
  pub front : take (length (encode s l)) (buffer_after s l buffer) ≡ encode s l
  pub past : drop (length (encode s l)) (buffer_after s l buffer) ≡ drop (length (encode s l)) buffer

abbrev pub WritesEncoding : Type 0
WritesEncoding = (s : Site) (l buffer : List ℕ) → Writable s l buffer → WroteEncoding s l buffer

-- "a refusal changes no byte", and no length is answered beside it
pub record Unwritten (s : Site) (l buffer : List ℕ) : Type 0 where
  pub answer : write_of s l buffer ≡ written (write_refusal s l buffer) 0
  pub unchanged : buffer_after s l buffer ≡ buffer

abbrev pub RefusedUnwritten : Type 0
RefusedUnwritten = (s : Site) (l buffer : List ℕ) → (write_refusal s l buffer ≡ 0 → ⊥) → Unwritten s l buffer

-- the buffer stays as long as it was
abbrev pub BufferLength : Type 0
BufferLength = (s : Site) (l buffer : List ℕ) → length (buffer_after s l buffer) ≡ length buffer

-- ---- the order of the refusals, and that no other number is given
abbrev pub WriteOrder : Type 0
WriteOrder = (s : Site) (l buffer : List ℕ) → numbers (write_checks s l buffer) ≡ write_numbers

abbrev pub WriteNumbers : Type 0
WriteNumbers = (s : Site) (l buffer : List ℕ) → T (among (write_refusal s l buffer) (0 ∷ write_numbers))

-- which number is given, exactly: "12, then 30 for a label block that has a partial entry or breaks the label
-- conditions of 26, 27 or 28, then 31 for a buffer shorter than the file"
pub record RefusedAs (s : Site) (l buffer : List ℕ) : Type 0 where
  pub unsound : (write_refusal s l buffer ≡ 12) ↔ (Sound s → ⊥)
  pub unlawful : (write_refusal s l buffer ≡ 30) ↔ (Sound s × (Lawful s l → ⊥))
  pub short : (write_refusal s l buffer ≡ 31) ↔ (Sound s × Lawful s l × (length buffer < length (encode s l)))

abbrev pub RefusedExactly : Type 0
RefusedExactly = (s : Site) → Shaped s → (l buffer : List ℕ) → RefusedAs s l buffer

-- ---- there and back
-- "Reading what it wrote yields the same state and labels."
abbrev pub ReadingBack : Type 0
ReadingBack =
    (s : Site) → Shaped s → (l buffer : List ℕ) → write_refusal s l buffer ≡ 0
    → Accepted (take (write_of s l buffer).length (buffer_after s l buffer)) s l

-- the labels also as area and text: for every area, the text that the block gives it, or none
abbrev pub ReadingBackTexts : Type 0
ReadingBackTexts =
    (s : Site) → Shaped s → (l buffer : List ℕ) → write_refusal s l buffer ≡ 0
    → (a : ℕ) → label_text (take (write_of s l buffer).length (buffer_after s l buffer)) a ≡ label_of l a

-- "Writing an accepted file's state and labels yields that file again.": into any buffer that is no shorter than it
pub record WroteAgain (file buffer : List ℕ) : Type 0 where
  pub answer : write_of (read_of file).state (part file labels) buffer ≡ written 0 (length file)
  pub bytes : buffer_after (read_of file).state (part file labels) buffer ≡ file ++ drop (length file) buffer

abbrev pub WritingAgain : Type 0
WritingAgain =
    (file : List ℕ) → AreBytes file → file_refusal file ≡ 0 → (buffer : List ℕ) → length file ≤ length buffer
    → WroteAgain file buffer

-- ---- a buffer of 13,340 bytes is never too short: a sound state with lawful labels is written
abbrev pub MostIsEnough : Type 0
MostIsEnough =
    (s : Site) (l buffer : List ℕ) → Sound s → Lawful s l → most_bytes ≤ length buffer → write_refusal s l buffer ≡ 0
