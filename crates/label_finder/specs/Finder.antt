-- The label finder (document 01, 'The site file'): "It hands back the label's text as a part of the caller's file. For
-- a refused file, or an area with no label (any number above 31 too), it is the part of length 0 at the file's front."
use Rattle.std.specs.Prelude.{ℕ, ◌+◌, ◌*◌, Bool, ◌&&◌, cond, List, eqb, ltb, take, drop, Option, Some, None}
use Rattle.label_tables.specs.Labels.{label_size, text_start, label_count, label_length, label_index}
use Rattle.site_format.specs.Format.{labels, offset_in, size_in, part}
use Rattle.site_file.specs.Reading.{file_refusal}
use Rattle.label_finder.specs.declared.Place.{Place}

-- the file is accepted, and the area has a label in it
abbrev pub has_label : (file : List ℕ) (a : ℕ) → Bool
has_label file a = eqb (file_refusal file) 0 && ltb (label_index (part file labels) a) (label_count (part file labels))

-- where the text starts, "from byte 2 of the label entry", and how long it is
unfoldable pub text_at : (file : List ℕ) (a : ℕ) → ℕ
text_at file a =
    cond (has_label file a) (offset_in file labels + (label_index (part file labels) a * label_size + text_start)) 0

unfoldable pub text_length : (file : List ℕ) (a : ℕ) → ℕ
text_length file a = cond (has_label file a) (label_length (part file labels) (label_index (part file labels) a)) 0

-- the two as one place
abbrev pub place_of : (file : List ℕ) (a : ℕ) → Place
place_of file a = record { at = text_at file a; length = text_length file a }

-- what is answered: that place, if there is a label
abbrev pub found_place : (file : List ℕ) (a : ℕ) → Option Place
found_place file a = cond (has_label file a) (Some (place_of file a)) None

-- the bytes of the text
abbrev pub label_text : (file : List ℕ) (a : ℕ) → List ℕ
label_text file a = take (text_length file a) (drop (text_at file a) file)

-- ---- the label block of an accepted file, "a block of 32-byte label entries" (document 02, point 3): where it stands,
-- and how many bytes it has; both are 0 for a refused file
unfoldable pub block_at : (file : List ℕ) → ℕ
block_at file = cond (eqb (file_refusal file) 0) (offset_in file labels) 0

unfoldable pub block_length : (file : List ℕ) → ℕ
block_length file = cond (eqb (file_refusal file) 0) (size_in file labels) 0

abbrev pub block_place : (file : List ℕ) → Place
block_place file = record { at = block_at file; length = block_length file }

-- what is answered: that place, if the file is accepted
abbrev pub found_block : (file : List ℕ) → Option Place
found_block file = cond (eqb (file_refusal file) 0) (Some (block_place file)) None

-- ---- an answer as a place: none stands for the part of length 0 at the front
abbrev pub place_or_front : Option Place → Place
place_or_front (Some place) = place
place_or_front None = record { at = 0; length = 0 }
