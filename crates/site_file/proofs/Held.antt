-- The state that a file holds: its relations are those of the tables, its lists follow from the relations, and so it is sound where the checks pass.
-- Assumes nothing.
use Prim.Native.Nat.{ℕ, ◌*◌, ◌<◌}
use mathlib.Core.Path.{◌≡◌, refl, sym, ap, subst, ◌∙◌}
use mathlib.Core.Bool.{Bool, true, false, ◌&&◌, ◌||◌, not}
use mathlib.Core.List.{List}
use native.Mathlib.Decide.{ℕ_discrete}
use borrow.Author.Tests.{ne_eqb}
use lib.Dec.{T, eqb, ltb, lt→ltb, eqb→eq, eqb_refl}
use lib.ListN.{length}
use Rattle.state.specs.Cells.{Pairs, width, member, pair}
use Rattle.state.specs.Site.{Kind, user, area, object, limit, listed, members, Relation, owner, definition, structure, import, export, first_kind, cells, related, empty, Shaped}
use Rattle.state.specs.Walk.{some_pair, has_first, has_second}
use Rattle.state.specs.Site.{Site}
use Rattle.state.proofs.Bools.{and_both, and_left, and_right, is_true, is_false, fails, not_so, so}
use Rattle.state.proofs.Laws.{some_pair_lem, has_first_lem, has_second_lem, related_inside, empty_related, empty_shaped}
use Rattle.relations.specs.Relations.{firsts, seconds}
use Rattle.relations.proofs.Laws.{firsts_length, firsts_reads, seconds_length, seconds_reads}
use Rattle.soundness.specs.Sound.{Consistent, DefinedOnce, Acceptable, SomeArea, Sound}
use Rattle.soundness.specs.Tests.{is_consistent, is_valid, no_own_import}
use Rattle.soundness.proofs.Laws.{consistent_decided, valid_decided, no_own_import_decided}
use Rattle.soundness.proofs.Names.{ListsNamed}
use Rattle.pair_tables.specs.Pairs.{pairs_fit, has_pair}
use Rattle.site_format.specs.Format.{pairs_of, part}
use Rattle.site_file.specs.Reading.{relation_in, state_in, no_owner, defined_elsewhere, defined_twice}
use Rattle.pair_tables.proofs.Laws.{with_pairs_length, with_pairs_reads}

-- the lists of the state are those that its owner and definition pairs name
pub record Derived (s : Site) : Type 0 where
  pub users : s.users ≡ firsts 32 s.owners
  pub areas : s.areas ≡ seconds s.owners
  pub objects : s.objects ≡ firsts 64 s.definitions

module _ (file : List ℕ) where
  pub derived : Derived (state_in file)
  unfolding state_in
  derived = record { users = refl; areas = refl; objects = refl }

  relation_in_lem : (r : Relation) → cells (state_in file) r ≡ relation_in file r
  unfolding state_in
  relation_in_lem owner = refl
  relation_in_lem definition = refl
  relation_in_lem structure = refl
  relation_in_lem import = refl
  relation_in_lem export = refl

  -- a pair of the state is a pair of the table: one lemma for the five
  pub in_table : (r : Relation) → T (pairs_fit (limit (first_kind r)) (part file (pairs_of r))) → (i j : ℕ) → related (state_in file) r i j ≡ has_pair (part file (pairs_of r)) i j
  in_table r fit i j =
      ap (λ (c : Pairs). pair c i j) (relation_in_lem r)
      ∙ with_pairs_reads (limit (first_kind r)) (part file (pairs_of r)) (cells empty r) fit (empty_shaped.relations r) i j
      ∙ ap (λ (b : Bool). b || has_pair (part file (pairs_of r)) i j) (empty_related r i j)

  pub shaped : Shaped (state_in file)
  shaped = record { sets = sets; relations = relations }
    where
      sets : (k : Kind) → length (members (state_in file) k) ≡ limit k
      sets user = ap length derived.users ∙ firsts_length 32 (state_in file).owners
      sets area = ap length derived.areas ∙ seconds_length (state_in file).owners
      sets object = ap length derived.objects ∙ firsts_length 64 (state_in file).definitions

      relations : (r : Relation) → length (cells (state_in file) r) ≡ limit (first_kind r) * width
      relations r = ap length (relation_in_lem r) ∙ with_pairs_length (part file (pairs_of r)) (cells empty r) ∙ empty_shaped.relations r

-- ---- a state whose lists follow from its pairs
module _ (s : Site) (d : Derived s) where
  users_read : (u : ℕ) → listed s user u ≡ (ltb u 32 && has_first s.owners u)
  users_read u = ap (λ (l : List Bool). member l u) d.users ∙ firsts_reads 32 s.owners u

  areas_read : (a : ℕ) → listed s area a ≡ (ltb a width && has_second s.owners a)
  areas_read a = ap (λ (l : List Bool). member l a) d.areas ∙ seconds_reads s.owners a

  objects_read : (o : ℕ) → listed s object o ≡ (ltb o 64 && has_first s.definitions o)
  objects_read o = ap (λ (l : List Bool). member l o) d.objects ∙ firsts_reads 64 s.definitions o

-- ---- its lists are what its pairs name
listed_by : (n : ℕ) (b c : Bool) (i : ℕ) → i < n → b ≡ (ltb i n && c) → T c → T b
listed_by n b c i h e t = subst T (sym e) (and_both (ltb i n) c (lt→ltb i n h) t)

pub derived_lists : (s : Site) → Derived s → Shaped s → ListsNamed s
derived_lists s d shape user u = (
  λ t. (has_first_lem s.owners u).0 (and_right (ltb u 32) (has_first s.owners u) (subst T (users_read s d u) t)),
  λ n. listed_by 32 (listed s user u) (has_first s.owners u) u (related_inside s owner u n.0 shape n.1).0 (users_read s d u) ((has_first_lem s.owners u).1 n),
)
derived_lists s d shape area a = (
  λ t. (has_second_lem s.owners a).0 (and_right (ltb a width) (has_second s.owners a) (subst T (areas_read s d a) t)),
  λ n. listed_by width (listed s area a) (has_second s.owners a) a (related_inside s owner n.0 a shape n.1).1 (areas_read s d a) ((has_second_lem s.owners a).1 n),
)
derived_lists s d shape object o = (
  λ t. (has_first_lem s.definitions o).0 (and_right (ltb o 64) (has_first s.definitions o) (subst T (objects_read s d o) t)),
  λ n. listed_by 64 (listed s object o) (has_first s.definitions o) o (related_inside s definition o n.0 shape n.1).0 (objects_read s d o) ((has_first_lem s.definitions o).1 n),
)

-- ---- a state whose lists follow from its pairs is sound where the checks pass
module _ (s : Site) (d : Derived s) (shape : Shaped s) where
  twice_by : (o a b : ℕ) → T (related s definition o a) → T (related s definition o b) → (b ≡ a → ⊥) → T (defined_twice s)
  twice_by o a b p q ne =
      (some_pair_lem s.definitions (defined_elsewhere s)).1
      (o, a, p, (some_pair_lem s.definitions (λ m n. eqb m o && not (eqb n a))).1 (o, b, q, and_both (eqb o o) (not (eqb b a)) (eqb_refl o) (rw (ne_eqb b a ne) tt)))

  defined_once : defined_twice s ≡ false → (o : ℕ) → T (listed s object o) → DefinedOnce s o
  defined_once once o t =
      let n = (derived_lists s d shape object o).0 t in
      record { place = n.0; defined = n.1; only = λ b q. only n.0 b n.1 q (ℕ_discrete b n.0) }
    where
      only : (a b : ℕ) → T (related s definition o a) → T (related s definition o b) → Dec (b ≡ a) → b ≡ a
      only a b p q (yes e) = e
      only a b p q (no ne) = absurd (fails once (twice_by o a b p q ne))

  -- every listed user owns an area, every listed area has an owner, and every listed object is defined once
  pub acceptable_by : defined_twice s ≡ false → Acceptable s
  acceptable_by once = record { users = λ u h. (derived_lists s d shape user u).0 h; areas = λ a h. (derived_lists s d shape area a).0 h; objects = defined_once once }

  pub sound_by : no_owner s ≡ false → T (is_consistent s) → defined_twice s ≡ false → T (is_valid s) → T (no_own_import s) → Sound s
  sound_by owned named once valid no_own =
      record {
        shaped = shape;
        consistent = consistent;
        acceptable = acceptable_by once;
        some_area = (pair.1, (consistent owner pair.0 pair.1 pair.2).second);
        valid = (valid_decided s).0 valid;
        has_no_own_import = (no_own_import_decided s).0 no_own;
      }
    where
      consistent : Consistent s
      consistent = (consistent_decided s).0 named

      pair : (u : ℕ) × (a : ℕ) × T (related s owner u a) × T true
      pair = (some_pair_lem s.owners (λ u a. true)).0 (so (some_pair s.owners (λ u a. true)) owned)

-- where an area is listed, and each listed area has an owner, there is an owner pair
pub some_owner : (s : Site) → Acceptable s → SomeArea s → no_owner s ≡ false
some_owner s acceptable some =
    let u = acceptable.areas some.0 some.1 in
    ap not (is_true (some_pair s.owners (λ u a. true)) ((some_pair_lem s.owners (λ u a. true)).1 (u.0, some.0, u.1, tt)))

-- in an acceptable state whose pairs name listed objects, none is defined twice
pub not_twice : (s : Site) → ((o : ℕ) → T (listed s object o) → DefinedOnce s o) → ((o a : ℕ) → T (related s definition o a) → T (listed s object o)) → defined_twice s ≡ false
not_twice s once named = is_false (defined_twice s) none
  where
    none : T (defined_twice s) → ⊥
    none t =
        let p = (some_pair_lem s.definitions (defined_elsewhere s)).0 t in
        let q = (some_pair_lem s.definitions (λ m n. eqb m p.0 && not (eqb n p.1))).0 p.3 in
        let same : q.0 ≡ p.0 = eqb→eq q.0 p.0 (and_left (eqb q.0 p.0) (not (eqb q.1 p.1)) q.3) in
        let d = once p.0 (named p.0 p.1 p.2) in
        let alike : q.1 ≡ p.1 = d.only q.1 (rw same at q.2) ∙ sym (d.only p.1 p.2) in
        not_so (eqb q.1 p.1) (and_right (eqb q.0 p.0) (not (eqb q.1 p.1)) q.3) (rw alike (eqb_refl p.1))
