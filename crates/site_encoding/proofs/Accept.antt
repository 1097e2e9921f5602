-- A file that is accepted is the encoding of the state and the labels that it holds.
-- Assumes nothing.
use Prim.Native.Nat.{ℕ, ◌+◌, ◌*◌, ◌/◌}
use mathlib.Core.Path.{◌≡◌, refl, sym, ap, ap₂, ◌∙◌}
use mathlib.Core.List.{List, [], ◌∷◌, ◌++◌, map}
use native.Mathlib.Omega.{arith}
use lib.Dec.{T}
use lib.ListN.{length, drop, length-drop, take-append-drop}
use Rattle.state.specs.Site.{Relation, limit, first_kind, related}
use Rattle.pair_tables.specs.Pairs.{pair_size}
use Rattle.pair_tables.specs.Pairs.{Whole}
use Rattle.pair_tables.proofs.Laws.{table_of_held}
use Rattle.site_format.specs.Format.{AreBytes, header_size, Content, pairs_of, labels, layout_of, tables, count_in, offset_in, size_in, part}
use Rattle.site_header.specs.Header.{placed_from}
use Rattle.site_header.specs.Claims.{joined}
use Rattle.site_format.proofs.Tables.{pair_size_lem}
use Rattle.site_header.proofs.Laws.{at_offset, behind_it, no_gap}
use Rattle.site_file.specs.Reading.{state_in}
use Rattle.site_encoding.specs.Encode.{Lawful, content_of, body_of, counts_of, offsets_from, field_bytes, fields_of, encode}
use Rattle.site_encoding.proofs.Fields.{fields_from, fields_stated}
use Rattle.site_file.proofs.Held.{in_table}
use Rattle.site_file.proofs.Checked.{Checked, sized}

module _ (file : List ℕ) (k : Checked file) where
  -- a table's count is what its bytes say
  pairs_sized : (r : Relation) → length (part file (pairs_of r)) ≡ count_in file (pairs_of r) * pair_size
  pairs_sized r = sized file k (pairs_of r) ∙ ap (λ (n : ℕ). count_in file (pairs_of r) * n) (pair_size_lem r)

  pairs_whole : (r : Relation) → Whole (part file (pairs_of r))
  pairs_whole r = let e = pairs_sized r in omega arith

  counted : (c : Content) → count_in file c ≡ length (part file c) / (layout_of c).size
  counted (pairs_of r) =
      let e = pairs_sized r in
      let half : count_in file (pairs_of r) ≡ length (part file (pairs_of r)) / pair_size = omega arith in
      half ∙ ap (λ (n : ℕ). length (part file (pairs_of r)) / n) (sym (pair_size_lem r))
  counted labels = let e = sized file k labels in omega arith

  pub lawful : Lawful (state_in file) (part file labels)
  lawful =
      record {
        block =
            record {
              whole = let e = sized file k labels in omega arith;
              is_in_range = k.is_in_range labels;
              ascending = k.ascends labels;
            };
        listed = k.labelled;
      }

  -- each table's bytes are those that encode what it holds
  written : (c : Content) → part file c ≡ content_of (state_in file) (part file labels) c
  written (pairs_of r) =
      table_of_held (limit (first_kind r)) (part file (pairs_of r)) (pairs_whole r) (k.is_in_range (pairs_of r)) (k.ascends (pairs_of r)) (related (state_in file) r)
      (λ i j hi hj. in_table file r (k.is_in_range (pairs_of r)) i j)
  written labels = refl

  body : (cs : List Content) → joined file cs ≡ body_of (state_in file) (part file labels) cs
  body [] = refl
  body (c ∷ rest) = ap₂ ◌++◌ (written c) (body rest)

  counts : (cs : List Content) → map (count_in file) cs ≡ counts_of (state_in file) (part file labels) cs
  counts [] = refl
  counts (c ∷ rest) = ap₂ ◌∷◌ (counted c ∙ ap (λ (t : List ℕ). length t / (layout_of c).size) (written c)) (counts rest)

  offsets : (cs : List Content) (at : ℕ) → T (placed_from file cs at) → map (offset_in file) cs ≡ offsets_from at (state_in file) (part file labels) cs
  offsets [] at t = refl
  offsets (c ∷ rest) at t =
      ap₂ ◌∷◌ (at_offset file c rest at t)
      (offsets rest (at + size_in file c) (behind_it file c rest at t)
      ∙ ap (λ (n : ℕ). offsets_from (at + n) (state_in file) (part file labels) rest) (sym (sized file k c) ∙ ap length (written c)))

  rest_body : drop header_size file ≡ body_of (state_in file) (part file labels) tables
  rest_body = no_gap file k.placed ∙ body tables

  file_long : length file ≡ header_size + length (body_of (state_in file) (part file labels) tables)
  file_long =
      let e : length (drop header_size file) ≡ length (body_of (state_in file) (part file labels) tables) = ap length rest_body in
      let d = length-drop header_size file in
      let h = k.header_long in
      omega arith

  fields : fields_from file 0 14 ≡ fields_of (state_in file) (part file labels)
  fields = ap₂ ◌∷◌ k.version_known (ap₂ ◌∷◌ (k.length_stated ∙ file_long) (ap₂ ◌++◌ (counts tables) (offsets tables header_size k.placed)))

  pub encoded : AreBytes file → file ≡ encode (state_in file) (part file labels)
  unfolding encode
  encoded bytes =
      sym (take-append-drop header_size file)
      ∙ ap₂ ◌++◌ (fields_stated file bytes 14 0 k.header_long ∙ ap field_bytes fields) rest_body
