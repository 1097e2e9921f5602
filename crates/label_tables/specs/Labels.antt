-- The table of labels in a site file (document 01, 'The site file'): "A label entry has 32 bytes: area, length 1 to 30,
-- the text (bytes 32 to 126), then zeros." A table is the list of its own bytes.
--     label_count, label_area, label_length     how many entries there are, and the first two bytes of an entry
--     labels_fit, labels_ascend, labels_listed  what refusals 26, 27 and 28 ask of the table
--     label_index, label_found                  which entry is that of an area
--     entry_text, label_of                      the text of an entry, and of an area's label
--     LawfulBlock                               a table that has no partial entry, and passes 26 and 27
use Rattle.std.specs.Prelude.{ℕ, ◌+◌, ◌-◌, ◌*◌, ◌/◌, ◌≡◌, Bool, ◌&&◌, cond, List, [], T, eqb, ltb, leb, length, get_or, take, drop, Option, Some, None}
use Rattle.state.specs.Below.{each_below, first_below}
use Rattle.state.specs.Cells.{Members, member}
use Rattle.state.specs.Site.{area, limit}

-- "A label entry has 32 bytes", the text and its filler all but the first two
abbrev pub label_size : ℕ
label_size = 32

abbrev pub text_start : ℕ
text_start = 2

abbrev pub text_size : ℕ
text_size = 30

-- how many entries the table has
abbrev pub label_count : List ℕ → ℕ
label_count t = length t / label_size

-- "area, length 1 to 30, the text": the first byte of entry k, the second, and byte i of the others
abbrev pub label_area : List ℕ → ℕ → ℕ
label_area t k = get_or t (k * label_size) 0

abbrev pub label_length : List ℕ → ℕ → ℕ
label_length t k = get_or t (k * label_size + 1) 0

abbrev pub text_byte : List ℕ → (k i : ℕ) → ℕ
text_byte t k i = get_or t (k * label_size + text_start + i) 0

-- ---- 26: "a number, length, text byte or filler byte outside its range"
-- "the text (bytes 32 to 126), then zeros"
abbrev pub byte_fits : (size : ℕ) → (i byte : ℕ) → Bool
byte_fits size i byte = cond (ltb i size) (leb 32 byte && leb byte 126) (eqb byte 0)

abbrev pub label_fits : List ℕ → ℕ → Bool
label_fits t k =
    ltb (label_area t k) (limit area) && leb 1 (label_length t k) && leb (label_length t k) text_size
    && each_below text_size (λ i. byte_fits (label_length t k) i (text_byte t k i))

unfoldable pub labels_fit : List ℕ → Bool
labels_fit t = each_below (label_count t) (label_fits t)

-- ---- 27: "not strictly ascending .. (labels by area)"
abbrev pub label_ascends : List ℕ → ℕ → Bool
label_ascends t k = ltb (label_area t k) (label_area t (k + 1))

unfoldable pub labels_ascend : List ℕ → Bool
labels_ascend t = each_below (label_count t - 1) (label_ascends t)

-- ---- 28: "an unlisted area .. named"
abbrev pub label_listed : (areas : Members) → List ℕ → ℕ → Bool
label_listed areas t k = member areas (label_area t k)

unfoldable pub labels_listed : (areas : Members) → List ℕ → Bool
labels_listed areas t = each_below (label_count t) (label_listed areas t)

-- ---- the entry of area a: the first with that area, or the count if there is none
unfoldable pub label_index : List ℕ → (a : ℕ) → ℕ
label_index t a = first_below (label_count t) (λ k. eqb (label_area t k) a)

-- the same, where there is one
abbrev pub label_found : List ℕ → (a : ℕ) → Option ℕ
label_found t a = cond (ltb (label_index t a) (label_count t)) (Some (label_index t a)) None

-- ---- the text of area a's label
-- the text of entry k: so many bytes from its third on
abbrev pub entry_text : List ℕ → ℕ → List ℕ
entry_text t k = take (label_length t k) (drop (k * label_size + text_start) t)

-- the text of area a's label; no bytes if the area has none (a text has 1 to 30)
unfoldable pub label_of : List ℕ → (a : ℕ) → List ℕ
label_of t a = cond (ltb (label_index t a) (label_count t)) (entry_text t (label_index t a)) []

-- ---- a block of labels: a table with no partial entry, which breaks none of the label conditions of 26 and 27
pub record LawfulBlock (t : List ℕ) : Type 0 where
  pub whole : length t ≡ label_count t * label_size
  pub is_in_range : T (labels_fit t)
  pub ascending : T (labels_ascend t)
