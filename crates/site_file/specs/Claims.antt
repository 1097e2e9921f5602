-- What is claimed of the reader. The single encoding is a claim of crate `site_encoding`. Each claim is a type, which
-- proofs/Laws.antt inhabits under the claim's name; AcceptedMeetsNone and OwnImportIs29 are proved in
-- proofs/Checked.antt.
use Rattle.std.specs.Prelude.{ℕ, ◌≤◌, ◌≡◌, false, List, ◌∷◌, ◌++◌, T, length}
use Rattle.state.specs.Site.{defines, imports, founding}
use Rattle.soundness.specs.Sound.{Consistent, Acceptable, SomeArea, Sound}
use Rattle.state.specs.Checks.{first_met, numbers, met_at, among}
use Rattle.label_tables.specs.Labels.{labels_listed}
use Rattle.site_format.specs.Format.{field, labels, part}
use Rattle.site_header.specs.Header.{header_checks}
use Rattle.site_file.specs.Reading.{state_in, table_checks, file_checks, read_numbers, file_refusal, read_of}

-- Demand 1: a site file of any bytes gets a sound state or a refusal number; the state beside the number is sound as
-- well
abbrev pub ReadSound : Type 0
ReadSound = (file : List ℕ) → Sound (read_of file).state

-- "the state beside a refusal is F"
abbrev pub RefusedFounding : Type 0
RefusedFounding = (file : List ℕ) → (file_refusal file ≡ 0 → ⊥) → (read_of file).state ≡ founding

-- 0, or a number of the table: "Reader refusals"
abbrev pub ReadNumbers : Type 0
ReadNumbers = (file : List ℕ) → T (among (file_refusal file) (0 ∷ read_numbers))

-- a file is accepted only where no condition is met, whichever number is asked for
abbrev pub AcceptedMeetsNone : Type 0
AcceptedMeetsNone = (file : List ℕ) → file_refusal file ≡ 0 → (n : ℕ) → met_at n (file_checks file) ≡ false

-- the number beside the state is that of the table
abbrev pub ReadNumber : Type 0
ReadNumber = (file : List ℕ) → (read_of file).refusal ≡ file_refusal file

-- "Reader refusals, lowest number first over the whole file"
abbrev pub FileOrder : Type 0
FileOrder = (file : List ℕ) → numbers (file_checks file) ≡ read_numbers

-- nothing is wrong that 21 to 28 ask about
pub record NothingBefore29 (file : List ℕ) : Type 0 where
  pub no_refusal : first_met (header_checks file ++ table_checks file) ≡ 0
  pub consistent : Consistent (state_in file)
  pub acceptable : Acceptable (state_in file)
  pub some_area : SomeArea (state_in file)
  pub labelled : T (labels_listed (state_in file).areas (part file labels))

-- "A file with one gets 29." (document 02, point 4): one in which area a imports object o and defines it
abbrev pub OwnImportIs29 : Type 0
OwnImportIs29 =
    (file : List ℕ) → NothingBefore29 file → (o a : ℕ) → T (imports (state_in file) o a) → T (defines (state_in file) o a)
    → file_refusal file ≡ 29

-- "A header of 28 bytes, all fields 16 bits, low byte first: version (1), file length": what an accepted file states
pub record HeaderStates (file : List ℕ) : Type 0 where
  pub long : 28 ≤ length file
  pub version : field file 0 ≡ 1
  pub size : field file 2 ≡ length file

abbrev pub AcceptedHeader : Type 0
AcceptedHeader = (file : List ℕ) → file_refusal file ≡ 0 → HeaderStates file
