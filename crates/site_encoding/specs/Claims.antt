-- What is claimed of the encoding: a file is accepted exactly when it is the single encoding of a sound state and its
-- labels. Each claim is a type, which proofs/Laws.antt inhabits under the claim's name.
use Rattle.std.specs.Prelude.{ℕ, ◌≤◌, ◌≡◌, ◌↔◌, List, length}
use Rattle.state.specs.Site.{Site}
use Rattle.soundness.specs.Sound.{Sound}
use Rattle.site_format.specs.Format.{AreBytes, labels, part}
use Rattle.site_file.specs.Reading.{file_refusal, read_of}
use Rattle.label_finder.specs.Finder.{label_text}
use Rattle.site_encoding.specs.Encode.{Lawful, encode}

-- the file is accepted, with this state and this label block
pub record Accepted (file : List ℕ) (s : Site) (l : List ℕ) : Type 0 where
  pub no_refusal : file_refusal file ≡ 0
  pub state : (read_of file).state ≡ s
  pub block : part file labels ≡ l

-- the file is the encoding of a sound state and its labels
pub record Encoding (file : List ℕ) (s : Site) (l : List ℕ) : Type 0 where
  pub sound : Sound s
  pub lawful : Lawful s l
  pub encoded : file ≡ encode s l

-- Demand 2: a site file is accepted exactly when it is the single encoding of a sound state and its labels.
abbrev pub SingleEncoding : Type 0
SingleEncoding = (file : List ℕ) → AreBytes file → (s : Site) (l : List ℕ) → Accepted file s l ↔ Encoding file s l

-- so no two files stand for one state and labels, and no file for two
abbrev pub OneFile : Type 0
OneFile = (f g : List ℕ) → AreBytes f → AreBytes g → (s : Site) (l : List ℕ) → Accepted f s l → Accepted g s l → f ≡ g

abbrev pub OneMeaning : Type 0
OneMeaning = (file : List ℕ) (s t : Site) (l m : List ℕ) → Encoding file s l → Encoding file t m → (s ≡ t) × (l ≡ m)

-- Of labels as area and text: two accepted files with one state and, for every area, one label's text, or none in both,
-- are the same bytes
abbrev pub OneFileOfTexts : Type 0
OneFileOfTexts =
    (f g : List ℕ) → AreBytes f → AreBytes g → file_refusal f ≡ 0 → file_refusal g ≡ 0
    → (read_of f).state ≡ (read_of g).state → ((a : ℕ) → label_text f a ≡ label_text g a) → f ≡ g

-- and each sound state with lawful labels has a file: its encoding is bytes, and is accepted with them
abbrev pub EncodeBytes : Type 0
EncodeBytes = (s : Site) (l : List ℕ) → Sound s → Lawful s l → AreBytes (encode s l)

abbrev pub EncodeAccepted : Type 0
EncodeAccepted = (s : Site) (l : List ℕ) → Sound s → Lawful s l → Accepted (encode s l) s l

-- No accepted file has more than 13,340 bytes: the header's 28, and two for each of 1,024 owner pairs, 64 definitions,
-- 1,024 structure pairs, 1,984 imports and 2,048 exports, and 32 for each of 32 labels. For no area imports what it
-- defines (document 02, point 4), so an object has 31 importers at most.
abbrev pub most_bytes : ℕ
most_bytes = 13340

abbrev pub EncodeMost : Type 0
EncodeMost = (s : Site) (l : List ℕ) → Sound s → Lawful s l → length (encode s l) ≤ most_bytes

abbrev pub AcceptedMost : Type 0
AcceptedMost = (file : List ℕ) → AreBytes file → file_refusal file ≡ 0 → length file ≤ most_bytes

-- and none has fewer than 30: the header's 28, and an owner pair
abbrev pub EncodeLeast : Type 0
EncodeLeast = (s : Site) (l : List ℕ) → Sound s → 30 ≤ length (encode s l)
