-- The encoding of a state and its labels as the bytes of a file, and which labels are lawful.
use Rattle.std.specs.Prelude.{ℕ, ◌+◌, ◌/◌, ◌%◌, List, [], ◌∷◌, ◌++◌, T, length}
use Rattle.state.specs.Site.{limit, first_kind, related}
use Rattle.state.specs.Site.{Site}
use Rattle.pair_tables.specs.Pairs.{table_of}
use Rattle.label_tables.specs.Labels.{labels_listed, LawfulBlock}
use Rattle.site_format.specs.Format.{header_size, version, Content, pairs_of, labels, layout_of, tables}

-- a label block has no partial entry, and breaks none of the label conditions of 26, 27 and 28
pub record Lawful (s : Site) (l : List ℕ) : Type 0 where
  pub block : LawfulBlock l
  pub listed : T (labels_listed s.areas l)

-- the bytes of a table
abbrev pub content_of : Site → (block : List ℕ) → Content → List ℕ
content_of s l (pairs_of r) = table_of (limit (first_kind r)) (related s r)
content_of s l labels = l

-- "Tables follow in that order with no gap"
abbrev pub body_of : Site → (block : List ℕ) → List Content → List ℕ
body_of s l [] = []
body_of s l (c ∷ rest) = content_of s l c ++ body_of s l rest

-- "six counts, six offsets"
abbrev pub counts_of : Site → (block : List ℕ) → List Content → List ℕ
counts_of s l [] = []
counts_of s l (c ∷ rest) = (length (content_of s l c) / (layout_of c).size) ∷ counts_of s l rest

abbrev pub offsets_from : (at : ℕ) → Site → (block : List ℕ) → List Content → List ℕ
offsets_from at s l [] = []
offsets_from at s l (c ∷ rest) = at ∷ offsets_from (at + length (content_of s l c)) s l rest

-- "all fields 16 bits, low byte first"
abbrev pub field_bytes : List ℕ → List ℕ
field_bytes [] = []
field_bytes (n ∷ rest) = (n % 256) ∷ (n / 256) ∷ field_bytes rest

-- "version (1), file length, six counts, six offsets"
abbrev pub fields_of : Site → (block : List ℕ) → List ℕ
fields_of s l =
    version ∷ (header_size + length (body_of s l tables)) ∷ (counts_of s l tables ++ offsets_from header_size s l tables)

unfoldable pub encode : Site → (block : List ℕ) → List ℕ
encode s l = field_bytes (fields_of s l) ++ body_of s l tables
