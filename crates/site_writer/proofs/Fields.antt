-- The fields of a header, filled in by a walk over the tables.
--     file_fits                            16 bits hold the length of the file
--     Filled                               the fields before turn k of the walk
--     filled_none, filled_more, filled_all    before the first turn, one turn more, after the last
--     next_fits                            16 bits hold where the next table stands
-- Assumes nothing.
use Prim.Native.Nat.{ℕ, zero, suc, ◌+◌, ◌-◌, ◌*◌, ◌/◌, ◌≤◌, ◌<◌}
use mathlib.Core.Path.{◌≡◌, sym, ap, ap₂, ◌∙◌}
use mathlib.Core.Logic.{◌≢◌}
use mathlib.Core.List.{List, [], ◌∷◌, ◌++◌, map}
use native.Mathlib.Numerals.{add-one}
use native.Mathlib.Omega.{arith}
use native.Mathlib.Decide.{dec_lt, ℕ_discrete}
use lib.ListN.{length, get_or, drop, set, length-append, length-set, get_or-append}
use lib.Seq.{get_or-append_right}
use Rattle.std.proofs.lemmas.List.{get_or-set_other, get_or-set_same, ext_get_or}
use Rattle.state.specs.Site.{Site, owner, definition, structure, import, export, limit, first_kind, related}
use Rattle.pair_tables.proofs.Laws.{table_whole, table_count}
use Rattle.label_tables.specs.Labels.{LawfulBlock}
use Rattle.label_tables.proofs.Laws.{label_count_fits}
use Rattle.site_format.specs.Format.{version, Content, tables, pairs_of, labels, layout_of, held}
use Rattle.site_format.specs.declared.Table.{Table}
use Rattle.site_format.proofs.Tables.{pair_size_lem}
use Rattle.site_encoding.specs.Encode.{content_of, body_of, counts_of, offsets_from, fields_of}
use Rattle.site_writer.proofs.Left.{left, one_more, none_left}

-- what the rest of a list begins with
begins : (xs : List ℕ) (k n : ℕ) (rest : List ℕ) → drop k xs ≡ n ∷ rest → (get_or xs k 0 ≡ n) × (drop (suc k) xs ≡ rest)
begins [] zero n rest e = cc
begins [] (suc k) n rest e = cc
begins (x ∷ xs) zero n rest e = (cc, cc)
begins (x ∷ xs) (suc k) n rest e = begins xs k n rest e

module _ (s : Site) (l : List ℕ) where
  abbrev counts : List ℕ
  counts = counts_of s l tables

  abbrev offsets : List ℕ
  offsets = offsets_from 28 s l tables

  abbrev end : ℕ
  end = 28 + length (body_of s l tables)

  module _ (law : LawfulBlock l) where
    whole : (c : Content) → length (content_of s l c) ≡ length (content_of s l c) / (layout_of c).size * (layout_of c).size
    whole (pairs_of r) = rw (pair_size_lem r) (table_whole (limit (first_kind r)) (related s r))
    whole labels = law.whole

    sum : (a b c d e f : List ℕ) → length (a ++ (b ++ (c ++ (d ++ (e ++ (f ++ [])))))) ≡ length a + length b + length c + length d + length e + length f
    sum a b c d e f =
        rw (length-append a _, length-append b _, length-append c _, length-append d _, length-append e _, length-append f [])
        (omega arith)

    pub file_fits : end ≤ 65535
    file_fits =
        omega (
          arith,
          sum (content_of s l (pairs_of owner)) (content_of s l (pairs_of definition)) (content_of s l (pairs_of structure)) (content_of s l (pairs_of import)) (content_of s l (pairs_of export)) l,
          table_count 32 (related s owner),
          table_count 64 (related s definition),
          table_count 32 (related s structure),
          table_count 64 (related s import),
          table_count 64 (related s export),
          table_whole 32 (related s owner),
          table_whole 64 (related s definition),
          table_whole 32 (related s structure),
          table_whole 64 (related s import),
          table_whole 64 (related s export),
          label_count_fits l law.is_in_range law.ascending,
          law.whole,
        )

  -- The fields of the tables before table k are there, and table k stands at `at`.
  pub record Filled (ts : List Table) (k at : ℕ) (fields : List ℕ) : Type 0 where
    pub long : length fields ≡ 14
    pub front : get_or fields 0 0 ≡ version
    pub counted : (j : ℕ) → j < k → get_or fields (2 + j) 0 ≡ get_or counts j 0
    pub placed : (j : ℕ) → j < k → get_or fields (8 + j) 0 ≡ get_or offsets j 0
    pub counts_left : drop k counts ≡ counts_of s l (left ts k)
    pub offsets_left : drop k offsets ≡ offsets_from at s l (left ts k)
    pub ends : at + length (body_of s l (left ts k)) ≡ end

  module _ (ts : List Table) (e : map held ts ≡ tables) where
    pub filled_none : (fields : List ℕ) → length fields ≡ 14 → Filled ts 0 28 (set fields 0 version)
    filled_none fields long =
        record {
          long = length-set fields 0 version ∙ long;
          front = get_or-set_same fields 0 version 0 (omega arith);
          counted = λ j h. absurd (omega arith);
          placed = λ j h. absurd (omega arith);
          counts_left = ap (counts_of s l) (sym e);
          offsets_left = ap (offsets_from 28 s l) (sym e);
          ends = ap (λ (cs : List Content). 28 + length (body_of s l cs)) e;
        }

    module _ (k at : ℕ) (fields : List ℕ) (w : Filled ts k at fields) where
      module _ (t : Table) (h : k < 6) where
        abbrev content : List ℕ
        content = content_of s l (held (get_or ts k t))

        abbrev size : ℕ
        size = (layout_of (held (get_or ts k t))).size

        next : left ts k ≡ held (get_or ts k t) ∷ left ts (k + 1)
        next = one_more ts e k t h

        counts_next : (get_or counts k 0 ≡ length content / size) × (drop (suc k) counts ≡ counts_of s l (left ts (k + 1)))
        counts_next = begins counts k _ _ (w.counts_left ∙ ap (counts_of s l) next)

        offsets_next : (get_or offsets k 0 ≡ at) × (drop (suc k) offsets ≡ offsets_from (at + length content) s l (left ts (k + 1)))
        offsets_next = begins offsets k _ _ (w.offsets_left ∙ ap (offsets_from at s l) next)

        ends_next : at + length content + length (body_of s l (left ts (k + 1))) ≡ end
        ends_next =
            let before = ap (λ (cs : List Content). at + length (body_of s l cs)) next in
            omega (arith, before, w.ends, length-append content (body_of s l (left ts (k + 1))))

        -- by what was told of the table
        module _ (law : LawfulBlock l) (count each : ℕ) (c : count ≡ length content / size) (z : each ≡ size) where
          long_so : count * each ≡ length content
          long_so = ap₂ ◌*◌ c z ∙ sym (whole law (held (get_or ts k t)))

          pub next_fits : at + count * each ≤ 65535
          next_fits = omega (arith, long_so, ends_next, file_fits law)

          abbrev after : List ℕ
          after = set (set fields (2 + k) count) (8 + k) at

          kept : (j : ℕ) → j ≢ 2 + k → j ≢ 8 + k → get_or after j 0 ≡ get_or fields j 0
          kept j ne nf = get_or-set_other (set fields (2 + k) count) (8 + k) j at 0 nf ∙ get_or-set_other fields (2 + k) j count 0 ne

          counted_so : (j : ℕ) → j < k + 1 → get_or after (2 + j) 0 ≡ get_or counts j 0
          counted_so j b = go (ℕ_discrete j k)
            where
              go : Dec (j ≡ k) → get_or after (2 + j) 0 ≡ get_or counts j 0
              go (yes q) =
                  rw q
                  (get_or-set_other (set fields (2 + k) count) (8 + k) (2 + k) at 0 (λ (x : 2 + k ≡ 8 + k). omega arith)
                  ∙ get_or-set_same fields (2 + k) count 0 (omega (arith, w.long))
                  ∙ c ∙ sym counts_next.0)
              go (no q) = kept (2 + j) (λ (x : 2 + j ≡ 2 + k). q (omega arith)) (λ (x : 2 + j ≡ 8 + k). omega arith) ∙ w.counted j (omega arith)

          placed_so : (j : ℕ) → j < k + 1 → get_or after (8 + j) 0 ≡ get_or offsets j 0
          placed_so j b = go (ℕ_discrete j k)
            where
              go : Dec (j ≡ k) → get_or after (8 + j) 0 ≡ get_or offsets j 0
              go (yes q) =
                  rw q
                  (get_or-set_same (set fields (2 + k) count) (8 + k) at 0 (omega (arith, w.long, length-set fields (2 + k) count))
                  ∙ sym offsets_next.0)
              go (no q) = kept (8 + j) (λ (x : 8 + j ≡ 2 + k). omega arith) (λ (x : 8 + j ≡ 8 + k). q (omega arith)) ∙ w.placed j (omega arith)

          pub filled_more : Filled ts (k + 1) (at + count * each) after
          filled_more =
              record {
                long = length-set (set fields (2 + k) count) (8 + k) at ∙ length-set fields (2 + k) count ∙ w.long;
                front = kept 0 (λ (x : 0 ≡ 2 + k). omega arith) (λ (x : 0 ≡ 8 + k). omega arith) ∙ w.front;
                counted = counted_so;
                placed = placed_so;
                counts_left = ap (λ (n : ℕ). drop n counts) (add-one k) ∙ counts_next.1;
                offsets_left =
                    ap (λ (n : ℕ). drop n offsets) (add-one k)
                    ∙ offsets_next.1
                    ∙ ap (λ (n : ℕ). offsets_from (at + n) s l (left ts (k + 1))) (sym long_so);
                ends = ap (λ (n : ℕ). at + n + length (body_of s l (left ts (k + 1)))) long_so ∙ ends_next;
              }

      pub filled_all : 6 ≤ k → set fields 1 at ≡ fields_of s l
      filled_all h = ext_get_or 0 (set fields 1 at) (fields_of s l) (length-set fields 1 at ∙ w.long) alike
        where
          last : at ≡ end
          last =
              let none = ap (λ (cs : List Content). at + length (body_of s l cs)) (none_left ts e k h) in
              omega (arith, none, w.ends)

          table_fields : (i : ℕ) → i < 12 → get_or fields (2 + i) 0 ≡ get_or (counts ++ offsets) i 0
          table_fields i b = go (dec_lt i 6)
            where
              go : Dec (i < 6) → get_or fields (2 + i) 0 ≡ get_or (counts ++ offsets) i 0
              go (yes c) = w.counted i (omega arith) ∙ sym (get_or-append counts offsets 0 i c)
              go (no c) =
                  let place : 2 + i ≡ 8 + (i - 6) = omega arith in
                  ap (λ (n : ℕ). get_or fields n 0) place
                  ∙ w.placed (i - 6) (omega arith)
                  ∙ sym (get_or-append_right counts offsets i 0 (omega arith))

          alike : (j : ℕ) → j < length (set fields 1 at) → get_or (set fields 1 at) j 0 ≡ get_or (fields_of s l) j 0
          alike zero b = get_or-set_other fields 1 0 at 0 (λ (x : 0 ≡ 1). omega arith) ∙ w.front
          alike (suc zero) b = get_or-set_same fields 1 at 0 (omega (arith, w.long)) ∙ last
          alike (suc (suc i)) b =
              let place : suc (suc i) ≡ 2 + i = omega arith in
              let few : i < 12 = omega (arith, w.long, length-set fields 1 at) in
              get_or-set_other fields 1 (suc (suc i)) at 0 (λ (x : suc (suc i) ≡ 1). omega arith)
              ∙ ap (λ (n : ℕ). get_or fields n 0) place
              ∙ table_fields i few
