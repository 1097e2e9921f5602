-- The fields of a header one by one, by how many pairs each relation has. No function needs them so: they are filled in
-- by a walk over the tables (Fields).
--     pairs_in       how many pairs a relation has
--     fields_fit     16 bits hold the length of the file
--     fields_are     the fields
-- Assumes nothing.
use Prim.Native.Nat.{ℕ, ◌+◌, ◌*◌, ◌≤◌}
use mathlib.Core.Path.{◌≡◌, refl, ap₂, ◌∙◌}
use mathlib.Core.List.{List, [], ◌∷◌, ◌++◌}
use native.Mathlib.Omega.{arith}
use lib.ListN.{length, length-append}
use Rattle.state.specs.Site.{Site, Relation, owner, definition, structure, import, export, limit, first_kind, related}
use Rattle.pair_tables.specs.Pairs.{pair_count, table_of}
use Rattle.pair_tables.proofs.Laws.{table_whole, table_count}
use Rattle.label_tables.specs.Labels.{label_count, LawfulBlock}
use Rattle.label_tables.proofs.Laws.{label_count_fits}
use Rattle.site_format.specs.Format.{version, Content, tables, pairs_of, labels}
use Rattle.site_encoding.specs.Encode.{content_of, body_of, counts_of, offsets_from, fields_of}

abbrev pub pairs_in : Site → Relation → ℕ
pairs_in s r = pair_count (table_of (limit (first_kind r)) (related s r))

module _ (s : Site) (l : List ℕ) where
  -- how many bytes a table has, and how many tables have
  table_bytes : Content → ℕ
  table_bytes (pairs_of r) = pairs_in s r * 2
  table_bytes labels = length l

  body_bytes : List Content → ℕ
  body_bytes [] = 0
  body_bytes (c ∷ rest) = table_bytes c + body_bytes rest

  sized : (c : Content) → length (content_of s l c) ≡ table_bytes c
  unfolding table_bytes
  sized (pairs_of r) = table_whole (limit (first_kind r)) (related s r)
  sized labels = refl

  body_long : (cs : List Content) → length (body_of s l cs) ≡ body_bytes cs
  unfolding body_bytes
  body_long [] = refl
  body_long (c ∷ rest) = length-append (content_of s l c) (body_of s l rest) ∙ ap₂ ◌+◌ (sized c) (body_long rest)

  module _ (owners definitions structures imported exported : ℕ)
      (o : owners ≡ pairs_in s owner) (d : definitions ≡ pairs_in s definition) (t : structures ≡ pairs_in s structure)
      (i : imported ≡ pairs_in s import) (e : exported ≡ pairs_in s export) where
    -- where the tables stand, and where the file ends
    abbrev definitions_at : ℕ
    definitions_at = 28 + owners * 2

    abbrev structure_at : ℕ
    structure_at = definitions_at + definitions * 2

    abbrev imports_at : ℕ
    imports_at = structure_at + structures * 2

    abbrev exports_at : ℕ
    exports_at = imports_at + imported * 2

    abbrev labels_at : ℕ
    labels_at = exports_at + exported * 2

    abbrev end : ℕ
    end = labels_at + length l

    pub fields_fit : LawfulBlock l → end ≤ 65535
    fields_fit law =
        omega (
          arith,
          o,
          d,
          t,
          i,
          e,
          table_count 32 (related s owner),
          table_count 64 (related s definition),
          table_count 32 (related s structure),
          table_count 64 (related s import),
          table_count 64 (related s export),
          label_count_fits l law.is_in_range law.ascending,
          law.whole,
        )

    ends : end ≡ 28 + length (body_of s l tables)
    unfolding table_bytes body_bytes
    ends = omega (arith, o, d, t, i, e, body_long tables)

    -- one table behind that of a relation
    behind : (r : Relation) (n at place : ℕ) → n ≡ pairs_in s r → at ≡ place → at + n * 2 ≡ place + length (content_of s l (pairs_of r))
    unfolding table_bytes
    behind r n at place h p = omega (arith, sized (pairs_of r))

    offsets : 28 ∷ definitions_at ∷ structure_at ∷ imports_at ∷ exports_at ∷ labels_at ∷ [] ≡ offsets_from 28 s l tables
    offsets =
        let to-definitions = behind owner owners 28 28 o refl in
        let to-structure = behind definition definitions _ _ d to-definitions in
        let to-imports = behind structure structures _ _ t to-structure in
        let to-exports = behind import imported _ _ i to-imports in
        let to-labels = behind export exported _ _ e to-exports in
        ap₂ ◌∷◌ refl (ap₂ ◌∷◌ to-definitions (ap₂ ◌∷◌ to-structure (ap₂ ◌∷◌ to-imports (ap₂ ◌∷◌ to-exports (ap₂ ◌∷◌ to-labels refl)))))

    counts : owners ∷ definitions ∷ structures ∷ imported ∷ exported ∷ label_count l ∷ [] ≡ counts_of s l tables
    counts = ap₂ ◌∷◌ o (ap₂ ◌∷◌ d (ap₂ ◌∷◌ t (ap₂ ◌∷◌ i (ap₂ ◌∷◌ e refl))))

    pub fields_are :
        version ∷ end
        ∷ owners ∷ definitions ∷ structures ∷ imported ∷ exported ∷ label_count l
        ∷ 28 ∷ definitions_at ∷ structure_at ∷ imports_at ∷ exports_at ∷ labels_at ∷ [] ≡ fields_of s l
    fields_are = ap₂ ◌∷◌ refl (ap₂ ◌∷◌ ends (ap₂ ◌++◌ counts offsets))
