-- What the layers above use. Each law is a type, which proofs/Laws.antt inhabits under the law's name.
use Rattle.std.specs.Prelude.{ℕ, ◌≡◌, false, List, T, length}
use Rattle.state.specs.Site.{empty, Shaped}
use Rattle.state.specs.Site.{Site}
use Rattle.records.specs.Record.{record_size, bytes_of, is_record, state_of, is_sized}
use Rattle.records.specs.Record.{stored}

-- whatever the bytes, the state has its shape
abbrev pub StateShaped : Type 0
StateShaped = (bytes : List ℕ) → Shaped (state_of bytes)

-- ---- what is no record
abbrev pub NoRecordEmpty : Type 0
NoRecordEmpty = (bytes : List ℕ) → is_record bytes ≡ false → state_of bytes ≡ empty

abbrev pub RecordLength : Type 0
RecordLength = (bytes : List ℕ) → T (is_record bytes) → length bytes ≡ 1040

-- ---- a buffer that a state is written into
abbrev pub StoredSized : Type 0
StoredSized = (buffer : List ℕ) (s : Site) → length buffer ≡ record_size → stored buffer s ≡ bytes_of s

-- "no byte written"
abbrev pub StoredOther : Type 0
StoredOther = (buffer : List ℕ) (s : Site) → is_sized buffer ≡ false → stored buffer s ≡ buffer
