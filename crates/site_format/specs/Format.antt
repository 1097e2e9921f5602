-- The format of a site file as data (document 01, 'The site file'): the header's fields, and one row for each table.
use Rattle.std.specs.Prelude.{ℕ, ◌+◌, ◌*◌, ◌<◌, Bool, true, ◌&&◌, List, [], ◌∷◌, get_or, take, drop}
use Rattle.state.specs.Stands.{relation_of}
use Rattle.state.specs.Site.{Relation, owner, definition, structure, import, export, limit, first_kind}
use Rattle.pair_tables.specs.Pairs.{pair_size, pairs_fit, pairs_ascend}
use Rattle.label_tables.specs.Labels.{label_size, labels_fit, labels_ascend}
use Rattle.site_format.specs.declared.Layout as code
use Rattle.site_format.specs.declared.Table.{Table}
use Rattle.site_format.specs.declared.Table.TheVariants.{Pairs, Labels}

-- each number of the list is that of a byte
abbrev pub AreBytes : List ℕ → Type 0
AreBytes file = (i : ℕ) → get_or file i 0 < 256

-- "A header of 28 bytes"
abbrev pub header_size : ℕ
header_size = 28

-- "all fields 16 bits, low byte first"
abbrev pub field : (file : List ℕ) (at : ℕ) → ℕ
field file at = get_or file at 0 + 256 * get_or file (at + 1) 0

-- "version (1), file length, six counts, six offsets"
abbrev pub version : ℕ
version = 1

abbrev pub version_at : ℕ
version_at = 0

abbrev pub length_at : ℕ
length_at = 2

-- what a table holds
pub data Content : Type 0 where
  pairs_of : Relation → Content
  labels : Content

-- one row: the size of an element, the most of them that there may be, and where in the header their count and the
-- table's offset are stated
pub record Layout : Type 0 where
  pub size : ℕ
  pub most : ℕ
  pub count_at : ℕ
  pub offset_at : ℕ

-- "six counts, six offsets; both in the order owners, definitions, structure, imports, exports, labels" .. "Counts are
-- at most 1,024, 64, 1,024, 2,048, 2,048 and 32."
abbrev pub layout_of : Content → Layout
layout_of (pairs_of owner) = record { size = pair_size; most = 1024; count_at = 4; offset_at = 16 }
layout_of (pairs_of definition) = record { size = pair_size; most = 64; count_at = 6; offset_at = 18 }
layout_of (pairs_of structure) = record { size = pair_size; most = 1024; count_at = 8; offset_at = 20 }
layout_of (pairs_of import) = record { size = pair_size; most = 2048; count_at = 10; offset_at = 22 }
layout_of (pairs_of export) = record { size = pair_size; most = 2048; count_at = 12; offset_at = 24 }
layout_of labels = record { size = label_size; most = 32; count_at = 14; offset_at = 26 }

-- "Tables follow in that order"
abbrev pub tables : List Content
tables = pairs_of owner ∷ pairs_of definition ∷ pairs_of structure ∷ pairs_of import ∷ pairs_of export ∷ labels ∷ []

-- each of the tables meets the test
abbrev pub each_table : List Content → (Content → Bool) → Bool
each_table [] test = true
each_table (c ∷ rest) test = test c && each_table rest test

-- ---- the code's tables and rows
-- what each table holds
abbrev pub held : Table → Content
held (Pairs r) = pairs_of (relation_of r)
held Labels = labels

-- the numbers of a row
abbrev pub as_layout : code.Layout → Layout
as_layout l = record { size = l.size; most = l.most; count_at = l.count_at; offset_at = l.offset_at }

-- ---- what a file states of a table
abbrev pub count_in : (file : List ℕ) → Content → ℕ
count_in file c = field file (layout_of c).count_at

abbrev pub offset_in : (file : List ℕ) → Content → ℕ
offset_in file c = field file (layout_of c).offset_at

-- how many bytes the table has, and which
abbrev pub size_in : (file : List ℕ) → Content → ℕ
size_in file c = count_in file c * (layout_of c).size

abbrev pub part : (file : List ℕ) → Content → List ℕ
part file c = take (size_in file c) (drop (offset_in file c) file)

-- ---- what is asked of a table's own bytes, by its content
-- "a number, length, text byte or filler byte" is in its range
abbrev pub content_fits : Content → List ℕ → Bool
content_fits (pairs_of r) t = pairs_fit (limit (first_kind r)) t
content_fits labels t = labels_fit t

-- "strictly ascending by first byte, then second (labels by area)"
abbrev pub content_ascends : Content → List ℕ → Bool
content_ascends (pairs_of r) t = pairs_ascend t
content_ascends labels t = labels_ascend t

-- a part of a slice lies `at` bytes behind the slice's front: the same memory, and no copy. A place in memory is a
-- block and an offset.
abbrev pub behind : (ℕ × ℕ) → (at : ℕ) → ℕ × ℕ
behind front at = (front.0, front.1 + at)
