-- What is claimed of the label finder. Each claim is a type, which proofs/Laws.antt inhabits under the claim's name.
use Rattle.std.specs.Prelude.{ℕ, ◌+◌, ◌*◌, ◌≤◌, ◌<◌, ◌≡◌, List, [], length, take, drop}
use Rattle.label_tables.specs.Labels.{label_count, label_area, label_length, entry_text, label_of}
use Rattle.site_format.specs.Format.{labels, offset_in, part}
use Rattle.site_file.specs.Reading.{file_refusal}
use Rattle.label_finder.specs.Finder.{text_at, text_length, label_text, block_at, block_length}

-- the part for the area of entry k of the table, in a file that is accepted: it starts at byte 2 of the entry, and is
-- the entry's text
pub record EntryPart (file table : List ℕ) (k : ℕ) : Type 0 where
  pub starts : text_at file (label_area table k) ≡ offset_in file labels + (k * 32 + 2)
  pub text : label_text file (label_area table k) ≡ entry_text table k
  pub long : length (label_text file (label_area table k)) ≡ label_length table k

abbrev pub LabelPart : Type 0
LabelPart =
    (file : List ℕ) (k : ℕ) → file_refusal file ≡ 0 → k < label_count (part file labels)
    → EntryPart file (part file labels) k

-- so for every area it is the text that the table of labels gives it, or no bytes
abbrev pub LabelIsText : Type 0
LabelIsText = (file : List ℕ) (a : ℕ) → file_refusal file ≡ 0 → label_text file a ≡ label_of (part file labels) a

-- "the part of length 0 at the file's front"
pub record AtFront (file : List ℕ) (a : ℕ) : Type 0 where
  pub starts : text_at file a ≡ 0
  pub long : text_length file a ≡ 0
  pub text : label_text file a ≡ []

-- "For a refused file, or an area with no label"
abbrev pub NoLabelRefused : Type 0
NoLabelRefused = (file : List ℕ) (a : ℕ) → (file_refusal file ≡ 0 → ⊥) → AtFront file a

abbrev pub NoLabelOfArea : Type 0
NoLabelOfArea =
    (file : List ℕ) (a : ℕ)
    → ((k : ℕ) → k < label_count (part file labels) → label_area (part file labels) k ≡ a → ⊥) → AtFront file a

-- "(any number above 31 too)"
abbrev pub NoLabelAbove : Type 0
NoLabelAbove = (file : List ℕ) (a : ℕ) → 32 ≤ a → AtFront file a

-- the text lies in the file
abbrev pub LabelInside : Type 0
LabelInside = (file : List ℕ) (a : ℕ) → text_at file a + text_length file a ≤ length file

-- ---- the label block
-- of an accepted file it is the table of labels, and stands behind the header
pub record BlockPart (file : List ℕ) : Type 0 where
  pub bytes : take (block_length file) (drop (block_at file) file) ≡ part file labels
  pub long : length (part file labels) ≡ block_length file
  pub behind_header : 28 ≤ block_at file

abbrev pub BlockIsLabels : Type 0
BlockIsLabels = (file : List ℕ) → file_refusal file ≡ 0 → BlockPart file

-- of a refused one it is the part of length 0 at the file's front
abbrev pub NoBlockRefused : Type 0
NoBlockRefused = (file : List ℕ) → (file_refusal file ≡ 0 → ⊥) → (block_at file ≡ 0) × (block_length file ≡ 0)
