-- What is claimed of records. Each claim is a type, which proofs/Laws.antt inhabits under the claim's name.
use Rattle.std.specs.Prelude.{ℕ, ◌+◌, ◌*◌, ◌/◌, ◌%◌, ◌<◌, ◌≡◌, List, T, length, get_or}
use Rattle.bits.specs.Bits.{bit}
use Rattle.state.specs.Site.{Kind, area, limit, listed, Relation, first_kind, related, Shaped}
use Rattle.state.specs.Site.{Site}
use Rattle.records.specs.Record.{list_start, pair_start, bytes_of, is_record, state_of}

-- ---- which bit is which
-- number i is bit i % 8 of byte i / 8 of its set
abbrev pub ListedByte : Type 0
ListedByte =
    (s : Site) → Shaped s → (k : Kind) (i : ℕ) → i < limit k
    → bit (get_or (bytes_of s) (list_start k + i / 8) 0) (i % 8) ≡ listed s k i

-- the pair (i, j) is bit j % 8 of byte j / 8 of row i, which has four bytes
abbrev pub PairByte : Type 0
PairByte =
    (s : Site) → Shaped s → (r : Relation) (i j : ℕ) → i < limit (first_kind r) → j < limit area
    → bit (get_or (bytes_of s) (pair_start r + (i * 4 + j / 8)) 0) (j % 8) ≡ related s r i j

-- ---- records and states, one to one
-- every byte string of the length is a record
abbrev pub EveryString : Type 0
EveryString = (bytes : List ℕ) → length bytes ≡ 1040 → ((k : ℕ) → get_or bytes k 0 < 256) → T (is_record bytes)

-- a state's bytes are a record
abbrev pub BytesAreRecord : Type 0
BytesAreRecord = (s : Site) → Shaped s → T (is_record (bytes_of s))

abbrev pub BytesLength : Type 0
BytesLength = (s : Site) → length (bytes_of s) ≡ 1040

-- the record's state is the state that it was made of
abbrev pub StateOfBytes : Type 0
StateOfBytes = (s : Site) → Shaped s → state_of (bytes_of s) ≡ s

-- and the bytes of a record's state are the record
abbrev pub BytesOfState : Type 0
BytesOfState = (bytes : List ℕ) → T (is_record bytes) → bytes_of (state_of bytes) ≡ bytes
