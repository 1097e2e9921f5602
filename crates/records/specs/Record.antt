-- The record of a state as bytes, as programs in other languages keep it (include/panelrights.h): "rows of bits, one
-- row of 32 for each user, area or object" (document 02, point 11), four bytes a row, the low byte first. So it is one
-- bit for each place, 1 where a number is listed or a pair is there and 0 where not, eight places a byte, the lowest in
-- the lowest bit. Here and above, a record is these bytes.
--     list_start, pair_start, record_size     where each set and each relation begins, and how many bytes there are
--     places, bytes_of                        the places of a state, and the bytes of its record
--     is_sized, is_record, state_of           whether bytes are a record, and of which state
--     number_for, stored                      a state written into a buffer
use Rattle.std.specs.Prelude.{ℕ, ◌+◌, ◌*◌, ◌/◌, ◌%◌, Bool, false, ◌&&◌, cond, List, ◌++◌, eqb, ltb, length, get_or}
use Rattle.bits.specs.Bits.{bit, word}
use Rattle.state.specs.Below.{each_below}
use Rattle.state.specs.Tabulate.{tabulate}
use Rattle.state.specs.Cells.{width}
use Rattle.state.specs.Site.{Kind, user, area, object, limit, site_of, empty}
use Rattle.state.specs.Site.{Relation, owner, definition, structure, import, export, first_kind}
use Rattle.state.specs.Site.{Site}

-- users 4 bytes, areas 4, objects 8: where that of number 0 stands
abbrev pub list_start : Kind → ℕ
list_start user = 0
list_start area = 4
list_start object = 8

-- owners 128, definitions 256, structure 128, imports 256, exports 256: where row 0 stands; row i stands 4 * i further
abbrev pub pair_start : Relation → ℕ
pair_start owner = 16
pair_start definition = 144
pair_start structure = 400
pair_start import = 528
pair_start export = 784

-- 1,040 bytes in all
abbrev pub record_size : ℕ
record_size = 1040

-- ---- the record of a state
-- the places of a state in this order: users, areas, objects; owners (user * 32 + area), definitions (object * 32 +
-- area), structure (inner * 32 + outer), imports and exports (object * 32 + area)
abbrev pub places : Site → List Bool
places s = s.users ++ s.areas ++ s.objects ++ s.owners ++ s.definitions ++ s.structure ++ s.imports ++ s.exports

-- byte p of so many places: bit k of it is place p * 8 + k
abbrev pub byte_of : List Bool → ℕ → ℕ
byte_of cells p = word 8 (λ k. get_or cells (p * 8 + k) false)

-- their first n bytes
unfoldable pub bytes_of_places : (n : ℕ) → List Bool → List ℕ
bytes_of_places n cells = tabulate n (byte_of cells)

unfoldable pub bytes_of : Site → List ℕ
unfolding bytes_of_places
bytes_of s = bytes_of_places record_size (places s)

-- ---- the state of a record
-- as many bytes as a record has
abbrev pub is_sized : (bytes : List ℕ) → Bool
is_sized bytes = eqb (length bytes) record_size

-- entry k is a byte
abbrev pub is_byte : (bytes : List ℕ) → ℕ → Bool
is_byte bytes k = ltb (get_or bytes k 0) 256

-- As many bytes as a record has. That each is one the type of a buffer says in the code; the lists that stand for
-- buffers here do not.
unfoldable pub is_record : (bytes : List ℕ) → Bool
is_record bytes = is_sized bytes && each_below (length bytes) (is_byte bytes)

-- place i behind byte `at` holds something
abbrev pub is_set : (bytes : List ℕ) (at i : ℕ) → Bool
is_set bytes at i = bit (get_or bytes (at + i / 8) 0) (i % 8)

-- the n places from byte `at` on
abbrev pub cells_at : (bytes : List ℕ) (at n : ℕ) → List Bool
cells_at bytes at n = tabulate n (is_set bytes at)

abbrev pub list_at : (bytes : List ℕ) → Kind → List Bool
list_at bytes k = cells_at bytes (list_start k) (limit k)

abbrev pub pairs_at : (bytes : List ℕ) → Relation → List Bool
pairs_at bytes r = cells_at bytes (pair_start r) (limit (first_kind r) * width)

-- the state that the places hold
abbrev pub state_at : (bytes : List ℕ) → Site
state_at bytes =
    site_of (list_at bytes user) (list_at bytes area) (list_at bytes object)
    (pairs_at bytes owner) (pairs_at bytes definition) (pairs_at bytes structure)
    (pairs_at bytes import) (pairs_at bytes export)

-- the state whose record the bytes are; bytes that are no record give the state of nothing, which is not sound
unfoldable pub state_of : (bytes : List ℕ) → Site
state_of bytes = cond (is_record bytes) (state_at bytes) empty

-- ---- a state written into a buffer
-- 0; or 31, document 02's number for a buffer that is too short, for one of any other length
abbrev pub number_for : (buffer : List ℕ) → ℕ
number_for buffer = cond (is_sized buffer) 0 31

-- the record of the state; no byte changed in a buffer of another length
unfoldable pub stored : (buffer : List ℕ) → Site → List ℕ
stored buffer s = cond (is_sized buffer) (bytes_of s) buffer
