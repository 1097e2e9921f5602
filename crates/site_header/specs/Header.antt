-- The refusals of a site file's header, 21 to 25, in the paper's order (document 01, 'The site file').
use Rattle.std.specs.Prelude.{ℕ, ◌+◌, Bool, ◌&&◌, not, List, [], ◌∷◌, eqb, ltb, length}
use Rattle.state.specs.Checks.{Check, ◌when◌}
use Rattle.site_format.specs.Format.{header_size, field, version, version_at, length_at, Content, layout_of, tables}
use Rattle.site_format.specs.Format.{each_table, count_in, offset_in, size_in}

-- 24: no count is "above its limit"
abbrev pub count_fits : (file : List ℕ) → Content → Bool
count_fits file c = not (ltb (layout_of c).most (count_in file c))

abbrev pub counts_fit : (file : List ℕ) → Bool
counts_fit file = each_table tables (count_fits file)

-- 25: each offset, and the end, stand where they should: "Tables follow in that order with no gap, the first at 28, and
-- the file ends with the last" .. "An empty table has the offset where it would stand."
abbrev pub placed_from : (file : List ℕ) → List Content → (at : ℕ) → Bool
placed_from file [] at = eqb at (length file)
placed_from file (c ∷ rest) at = eqb (offset_in file c) at && placed_from file rest (at + size_in file c)

-- 21 to 25, of the header and the file's length
abbrev pub header_checks : (file : List ℕ) → List Check
header_checks file =
    (21 when ltb (length file) header_size)
    ∷ (22 when not (eqb (field file version_at) version))
    ∷ (23 when not (eqb (field file length_at) (length file)))
    ∷ (24 when not (counts_fit file))
    ∷ (25 when not (placed_from file tables header_size))
    ∷ []
