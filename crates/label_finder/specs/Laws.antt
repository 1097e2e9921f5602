-- What the layers above use. Each law is a type, which proofs/Laws.antt inhabits under the law's name.
use Rattle.std.specs.Prelude.{ℕ, ◌+◌, ◌<◌, ◌≡◌, false, List, T}
use Rattle.site_format.specs.Format.{AreBytes}
use Rattle.label_finder.specs.Finder.{has_label, text_at, text_length, place_of, found_place, block_at, block_length}
use Rattle.label_finder.specs.Finder.{block_place, found_block, place_or_front}
use Rattle.label_finder.specs.Claims.{AtFront}

-- no label stands at the front of the file, and an area with no label has the part there
abbrev pub LabelBehindFront : Type 0
LabelBehindFront = (file : List ℕ) (a : ℕ) → T (has_label file a) → 0 < text_at file a

abbrev pub NoLabelAtFront : Type 0
NoLabelAtFront = (file : List ℕ) (a : ℕ) → has_label file a ≡ false → AtFront file a

-- an accepted file states its length in 16 bits, so these hold the place where the text ends
abbrev pub LabelSmall : Type 0
LabelSmall = (file : List ℕ) → AreBytes file → (a : ℕ) → text_at file a + text_length file a < 65536

-- and the place where the label block ends
abbrev pub BlockSmall : Type 0
BlockSmall = (file : List ℕ) → AreBytes file → block_at file + block_length file < 65536

-- what is answered is the place, and where there is none the front
abbrev pub FoundPlace : Type 0
FoundPlace = (file : List ℕ) (a : ℕ) → place_or_front (found_place file a) ≡ place_of file a

abbrev pub FoundBlock : Type 0
FoundBlock = (file : List ℕ) → place_or_front (found_block file) ≡ block_place file
