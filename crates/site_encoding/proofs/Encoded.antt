-- The encoding of a sound state and lawful labels is accepted, and holds them. How long it is at most.
-- Assumes nothing.
use Prim.Native.Nat.{ℕ, zero, suc, ◌+◌, ◌*◌, ◌/◌, ◌≤◌, ◌<◌}
use mathlib.Core.Path.{◌≡◌, refl, sym, ap, subst, ◌∙◌}
use mathlib.Core.Bool.{Bool, true, false}
use mathlib.Core.List.{List, [], ◌∷◌, ◌++◌}
use native.Mathlib.Nat.{mul-le-mul_right}
use native.Mathlib.Omega.{arith}
use lib.Dec.{T}
use lib.ListN.{length, get_or, length-append}
use Rattle.state.specs.Site.{Kind, user, area, object, owner, definition, structure, import, export, limit, first_kind, listed, related}
use Rattle.state.specs.Site.{Site}
use Rattle.state.proofs.Bools.{is_false, holds, fails}
use Rattle.state.proofs.Laws.{pair_area}
use Rattle.soundness.specs.Sound.{Sound}
use Rattle.soundness.proofs.Laws.{consistent_decided, valid_decided, no_own_import_decided}
use Rattle.soundness.proofs.Names.{sound_lists, same_by_names}
use Rattle.pair_tables.specs.Claims.{WithoutOne}
use Rattle.pair_tables.specs.Pairs.{has_pair, table_of}
use Rattle.pair_tables.proofs.Laws.{pairs_are_bytes, table_whole, table_fits, table_ascends, table_holds, table_count, table_count_once, table_count_less}
use Rattle.label_tables.proofs.Laws.{label_count_fits, labels_are_bytes}
use Rattle.site_format.proofs.Tables.{content_of_lem, pair_size_lem}
use Rattle.site_format.specs.Format.{AreBytes, header_size, Content, pairs_of, labels, layout_of, tables, field, count_in, size_in, part, content_fits, content_ascends}
use Rattle.site_file.specs.Reading.{state_in}
use Rattle.site_encoding.specs.Encode.{Lawful, content_of, body_of, counts_of, offsets_from, field_bytes, fields_of, encode}
use Rattle.site_encoding.specs.Claims.{most_bytes}
use Rattle.site_encoding.proofs.Fields.{twice, field_written}
use Rattle.site_encoding.proofs.Placed.{Stated, all_written, all_placed}
use Rattle.site_file.proofs.Held.{derived, shaped, in_table, derived_lists, some_owner, not_twice}
use Rattle.site_file.proofs.Checked.{Checked}

-- every number of the list has 16 bits
abbrev Small : List ℕ → Type 0
Small [] = Unit
Small (n ∷ rest) = (n < 65536) × Small rest

small_at : (l : List ℕ) → Small l → (k : ℕ) → get_or l k 0 < 65536
small_at [] s k = omega arith
small_at (n ∷ rest) s zero = s.0
small_at (n ∷ rest) s (suc k) = small_at rest s.1 k

small_append : (xs ys : List ℕ) → Small xs → Small ys → Small (xs ++ ys)
small_append [] ys p q = q
small_append (n ∷ xs) ys p q = (p.0, small_append xs ys p.1 q)

-- ---- what is written is bytes
bytes_append : (xs ys : List ℕ) → AreBytes xs → AreBytes ys → AreBytes (xs ++ ys)
bytes_append [] ys p q i = q i
bytes_append (x ∷ xs) ys p q zero = p zero
bytes_append (x ∷ xs) ys p q (suc i) = bytes_append xs ys (λ k. p (suc k)) q i

field_bytes_lem : (fields : List ℕ) → Small fields → AreBytes (field_bytes fields)
field_bytes_lem [] s i = omega arith
field_bytes_lem (n ∷ rest) s zero = omega arith
field_bytes_lem (n ∷ rest) s (suc zero) = omega (arith, s.0)
field_bytes_lem (n ∷ rest) s (suc (suc i)) = field_bytes_lem rest s.1 i

limit_small : (k : Kind) → limit k ≤ 256
limit_small user = omega arith
limit_small area = omega arith
limit_small object = omega arith

-- how many elements the table of a sound state has at most: as many as there may be, but no area imports what it defines
abbrev sound_most : Content → ℕ
sound_most (pairs_of owner) = 1024
sound_most (pairs_of definition) = 64
sound_most (pairs_of structure) = 1024
sound_most (pairs_of import) = 1984
sound_most (pairs_of export) = 2048
sound_most labels = 32

may_be : (c : Content) → sound_most c ≤ (layout_of c).most
may_be (pairs_of owner) = omega arith
may_be (pairs_of definition) = omega arith
may_be (pairs_of structure) = omega arith
may_be (pairs_of import) = omega arith
may_be (pairs_of export) = omega arith
may_be labels = omega arith

most_small : (c : Content) → sound_most c < 65536
most_small (pairs_of owner) = omega arith
most_small (pairs_of definition) = omega arith
most_small (pairs_of structure) = omega arith
most_small (pairs_of import) = omega arith
most_small (pairs_of export) = omega arith
most_small labels = omega arith

-- how many bytes tables have at most
abbrev sound_most_of : List Content → ℕ
sound_most_of [] = 0
sound_most_of (c ∷ rest) = sound_most c * (layout_of c).size + sound_most_of rest

module _ (s : Site) (l : List ℕ) (h : Sound s) (law : Lawful s l) where
  -- ---- how long the tables are
  defined_once : (o a b : ℕ) → T (related s definition o a) → T (related s definition o b) → a ≡ b
  defined_once o a b p q =
      let d = h.acceptable.objects o (h.consistent definition o a p).first in
      d.only a p ∙ sym (d.only b q)

  -- an object is not imported by the area that defines it, and by none if it is not listed
  some_other : (o : ℕ) → o < 64 → WithoutOne (related s import) o
  some_other o b = go (listed s object o) refl
    where
      go : (t : Bool) → listed s object o ≡ t → WithoutOne (related s import) o
      go true e =
          let d = h.acceptable.objects o (holds e) in
          record {
            missing = d.place;
            inside = pair_area s.definitions o d.place d.defined;
            absent = is_false (related s import o d.place) (λ t. h.has_no_own_import o d.place t d.defined);
          }
      go false e =
          record { missing = 0; inside = omega arith; absent = is_false (related s import o 0) (λ t. fails e (h.consistent import o 0 t).first) }

  count : (c : Content) → length (content_of s l c) / (layout_of c).size ≤ sound_most c
  count (pairs_of owner) = table_count 32 (related s owner)
  count (pairs_of definition) = table_count_once 64 (related s definition) defined_once
  count (pairs_of structure) = table_count 32 (related s structure)
  count (pairs_of import) = table_count_less 64 (related s import) some_other
  count (pairs_of export) = table_count 64 (related s export)
  count labels = label_count_fits l law.block.is_in_range law.block.ascending

  whole : (c : Content) → length (content_of s l c) ≡ length (content_of s l c) / (layout_of c).size * (layout_of c).size
  whole (pairs_of r) = rw (pair_size_lem r) (table_whole (limit (first_kind r)) (related s r))
  whole labels = law.block.whole

  size_fits : (c : Content) → length (content_of s l c) ≤ sound_most c * (layout_of c).size
  size_fits c = rw (whole c) (mul-le-mul_right (layout_of c).size (count c))

  body_fits : (cs : List Content) → length (body_of s l cs) ≤ sound_most_of cs
  body_fits [] = omega arith
  body_fits (c ∷ rest) = rw (length-append (content_of s l c) (body_of s l rest)) (omega (arith, size_fits c, body_fits rest))

  small_counts : (cs : List Content) → Small (counts_of s l cs)
  small_counts [] = tt
  small_counts (c ∷ rest) = (omega (arith, count c, most_small c), small_counts rest)

  small_offsets : (cs : List Content) (at : ℕ) → at + length (body_of s l cs) < 65536 → Small (offsets_from at s l cs)
  small_offsets [] at b = tt
  small_offsets (c ∷ rest) at b = (omega arith, small_offsets rest (at + length (content_of s l c)) (omega (arith, length-append (content_of s l c) (body_of s l rest))))

  body_most : header_size + length (body_of s l tables) ≤ most_bytes
  body_most = let b : length (body_of s l tables) ≤ sound_most_of tables = body_fits tables in omega arith

  body_small : header_size + length (body_of s l tables) < 65536
  body_small = omega (arith, body_most)

  small : Small (fields_of s l)
  small = (omega arith, (body_small, small_append (counts_of s l tables) (offsets_from header_size s l tables) (small_counts tables) (small_offsets tables header_size body_small)))

  content_bytes : (c : Content) → AreBytes (content_of s l c)
  content_bytes (pairs_of r) i =
      pairs_are_bytes (limit (first_kind r)) (table_of (limit (first_kind r)) (related s r)) i (limit_small (first_kind r)) (table_whole (limit (first_kind r)) (related s r))
      (table_fits (limit (first_kind r)) (related s r))
  content_bytes labels i = labels_are_bytes l i law.block.whole law.block.is_in_range

  body_bytes : (cs : List Content) → AreBytes (body_of s l cs)
  body_bytes [] i = omega arith
  body_bytes (c ∷ rest) i = bytes_append (content_of s l c) (body_of s l rest) (content_bytes c) (body_bytes rest) i

  pub are_bytes : AreBytes (encode s l)
  unfolding encode
  are_bytes = bytes_append (field_bytes (fields_of s l)) (body_of s l tables) (field_bytes_lem (fields_of s l) small) (body_bytes tables)

  -- ---- a file with these bytes
  module _ (file : List ℕ) (e : file ≡ field_bytes (fields_of s l) ++ body_of s l tables) where
    at_field : (k : ℕ) → k < 14 → field file (twice k) ≡ get_or (fields_of s l) k 0
    at_field k b = ap (λ (f : List ℕ). field f (twice k)) e ∙ field_written (fields_of s l) (body_of s l tables) k b (small_at (fields_of s l) small k)

    -- from a table's count to its bytes
    bytes : (c : Content) → count_in file c ≡ length (content_of s l c) / (layout_of c).size → size_in file c ≡ length (content_of s l c)
    bytes c n = ap (λ (m : ℕ). m * (layout_of c).size) n ∙ sym (whole c)

    counted : (c : Content) → count_in file c ≡ length (content_of s l c) / (layout_of c).size
    counted (pairs_of owner) = at_field 2 (omega arith)
    counted (pairs_of definition) = at_field 3 (omega arith)
    counted (pairs_of structure) = at_field 4 (omega arith)
    counted (pairs_of import) = at_field 5 (omega arith)
    counted (pairs_of export) = at_field 6 (omega arith)
    counted labels = at_field 7 (omega arith)

    stated : Stated file s l tables header_size
    stated = (
      at_field 8 (omega arith),
      bytes (pairs_of owner) (counted (pairs_of owner)),
      (
        at_field 9 (omega arith),
        bytes (pairs_of definition) (counted (pairs_of definition)),
        (
          at_field 10 (omega arith),
          bytes (pairs_of structure) (counted (pairs_of structure)),
          (
            at_field 11 (omega arith),
            bytes (pairs_of import) (counted (pairs_of import)),
            (
              at_field 12 (omega arith),
              bytes (pairs_of export) (counted (pairs_of export)),
              (
                at_field 13 (omega arith),
                bytes labels (counted labels),
                tt,
              ),
            ),
          ),
        ),
      ),
    )

    -- each table's bytes are those that were written
    pub written : (c : Content) → part file c ≡ content_of s l c
    written = content_of_lem (λ c. part file c ≡ content_of s l c) (all_written file s l tables (field_bytes (fields_of s l)) e stated)

    file_long : length file ≡ header_size + length (body_of s l tables)
    file_long = ap length e ∙ length-append (field_bytes (fields_of s l)) (body_of s l tables)

    pub at_most : length file ≤ most_bytes
    at_most = rw file_long body_most

    fits : (c : Content) → T (content_fits c (content_of s l c))
    fits (pairs_of r) = table_fits (limit (first_kind r)) (related s r)
    fits labels = law.block.is_in_range

    ascends : (c : Content) → T (content_ascends c (content_of s l c))
    ascends (pairs_of r) = table_ascends (limit (first_kind r)) (related s r)
    ascends labels = law.block.ascending

    is_in_range : (c : Content) → T (content_fits c (part file c))
    is_in_range c = subst (λ (t : List ℕ). T (content_fits c t)) (sym (written c)) (fits c)

    -- the state that the file holds
    pub held : state_in file ≡ s
    held =
        same_by_names (state_in file) s (shaped file) h.shaped (derived_lists (state_in file) (derived file) (shaped file)) (sound_lists s h)
        (λ r i j hi hj. in_table file r (is_in_range (pairs_of r)) i j ∙ ap (λ (t : List ℕ). has_pair t i j) (written (pairs_of r)) ∙ table_holds (limit (first_kind r)) (related s r) i j hi hj)

    pub passes : Checked file
    passes =
        record {
          header_long = omega (arith, file_long);
          version_known = at_field 0 (omega arith);
          length_stated = at_field 1 (omega arith) ∙ sym file_long;
          each_count_fits = λ c. rw (counted c) (omega (arith, count c, may_be c));
          placed = all_placed file s l tables (field_bytes (fields_of s l)) e stated;
          is_in_range = is_in_range;
          ascends = λ c. subst (λ (t : List ℕ). T (content_ascends c t)) (sym (written c)) (ascends c);
          owned = rw held (some_owner s h.acceptable h.some_area);
          named = rw held ((consistent_decided s).1 h.consistent);
          labelled = rw (held, written labels) law.listed;
          defined_once = rw held (not_twice s h.acceptable.objects (λ o a p. (h.consistent definition o a p).first));
          valid = rw held ((valid_decided s).1 h.valid);
          has_no_own_import = rw held ((no_own_import_decided s).1 h.has_no_own_import);
        }
