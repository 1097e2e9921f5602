-- What is claimed of a file that passes 25: "Tables follow in that order with no gap, the first at 28, and the file
-- ends with the last." Each claim is a type, which proofs/Laws.antt inhabits under the claim's name.
use Rattle.std.specs.Prelude.{ℕ, ◌≡◌, List, [], ◌∷◌, ◌++◌, T, length, drop}
use Rattle.site_format.specs.Format.{header_size, Content, tables, size_in, part}
use Rattle.site_header.specs.Header.{placed_from}

-- the tables' bytes, one behind the other
abbrev pub joined : (file : List ℕ) → List Content → List ℕ
joined file [] = []
joined file (c ∷ rest) = part file c ++ joined file rest

-- what is behind the header is the tables, and nothing else
abbrev pub NoGap : Type 0
NoGap = (file : List ℕ) → T (placed_from file tables 28) → drop 28 file ≡ joined file tables

-- each table has the bytes that its count says
abbrev pub PartSize : Type 0
PartSize =
    (file : List ℕ) → T (placed_from file tables header_size) → (c : Content) → length (part file c) ≡ size_in file c
