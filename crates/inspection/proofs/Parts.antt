-- The tests of `soundness` as the functions make them, row by row.
--     named_by_rows                        each pair of a relation names what is listed
--     own_by_rows, owned_by_rows           each listed user owns an area, each listed area has an owner
--     defined_by_rows                      each listed object is defined in exactly one area
--     some_by_row                          there is an area
--     well_formed_by_rows                  all of these
--     disjoint_by_rows                     no pair is in both relations
-- Assumes nothing.
use Prim.Native.Nat.{ℕ, ◌+◌, ◌*◌, ◌/◌, ◌%◌, ◌^◌, ◌<◌}
use mathlib.Core.Path.{◌≡◌, refl, sym, ap, ap₂, subst, ◌∙◌}
use mathlib.Core.Bool.{Bool, true, false, ◌&&◌, ◌||◌, not, and_assoc}
use mathlib.Core.Logic.{◌↔◌}
use native.Mathlib.Omega.{arith}
use lib.Dec.{T}
use lib.ListN.{length, get_or}
use Rattle.bits.specs.Bits.{bit, places, word, intersection, is_empty, is_subset, Single, is_single}
use Rattle.bits.specs.Rows.{Rows, cells_of, Fit}
use Rattle.bits.proofs.Laws.{bit_zero, word_bit, intersection_bit, intersection_fits, empty_decided, subset_decided, single_decided}
use Rattle.bits.proofs.Cells.{cells_length}
use Rattle.state.specs.Below.{each_below}
use Rattle.state.specs.Cells.{member, pair}
use Rattle.state.specs.Stands.{site, Sized, Fits}
use Rattle.state.specs.declared.State.{State}
use Rattle.state.specs.Walk.{has_first, has_second}
use Rattle.state.proofs.Below.{each_at, each_by, each_add}
use Rattle.state.proofs.Bools.{and_both, and_left, and_right, same_test, is_false, fails, not_so, so_not, not_not, implied, implies}
use Rattle.state.proofs.Laws.{each_member_lem, each_pair_lem, member_inside, pair_area, pair_first}
use Rattle.relations.proofs.Laws.{member_bit, pair_bit, row_empty}
use Rattle.search.specs.Rounds.{object_in}
use Rattle.soundness.specs.Tests.{named, all_own, all_owned, once, all_defined, some_listed, is_well_formed, disjoint}
use Rattle.soundness.proofs.Tests.{named_decided, Once, once_decided}
use Rattle.soundness.proofs.Laws.{some_decided}
use Rattle.inspection.specs.Parts.{row_named, user_fits, object_fits, user_at, area_at, object_at, apart_at}

-- ---- a number of a set of one row, or of the second row of two
pub member_low : (set : Rows) (i : ℕ) → i < places → member (cells_of set) i ≡ bit (get_or set 0 0) i
member_low set i h =
    let q : i / places ≡ 0 = omega arith in
    let r : i % places ≡ i = omega arith in
    member_bit set i ∙ ap₂ (λ (m k : ℕ). bit (get_or set m 0) k) q r

pub member_high : (set : Rows) (i : ℕ) → i < places → member (cells_of set) (32 + i) ≡ bit (get_or set 1 0) i
member_high set i h =
    let q : (32 + i) / places ≡ 1 = omega arith in
    let r : (32 + i) % places ≡ i = omega arith in
    member_bit set (32 + i) ∙ ap₂ (λ (m k : ℕ). bit (get_or set m 0) k) q r

-- ---- named
-- what a row names is listed
row_named_lem : (row : ℕ) (first : Bool) (areas : ℕ) → T (row_named row first areas) ↔ ((j : ℕ) → j < places → T (bit row j) → T first × T (bit areas j))
unfolding row_named
row_named_lem row true areas = (λ t j h p. (tt, (subset_decided row areas).0 t j h p), λ f. (subset_decided row areas).1 (λ j h p. (f j h p).1))
row_named_lem row false areas = (
  λ t j h p. absurd (fails (bit_zero j) ((subset_decided row 0).0 t j h p)),
  λ f. (subset_decided row 0).1 (λ j h p. absurd (f j h p).0),
)

-- a relation names what is listed where each of its rows does
module _ (rows firsts areas : Rows) (n : ℕ) (long : length rows ≡ n) (one : length areas ≡ 1) where
  abbrev row_at : ℕ → Bool
  row_at i = row_named (get_or rows i 0) (member (cells_of firsts) i) (get_or areas 0 0)

  area_inside : (j : ℕ) → T (member (cells_of areas) j) → j < places
  area_inside j t = omega (arith, member_inside (cells_of areas) j t, cells_length areas)

  pub named_by_rows : T (named (cells_of rows) (cells_of firsts) (cells_of areas)) ↔ ((i : ℕ) → i < n → T (row_at i))
  named_by_rows =
      let decided = named_decided (cells_of rows) (cells_of firsts) (cells_of areas) in (
        λ t i h. (row_named_lem (get_or rows i 0) (member (cells_of firsts) i) (get_or areas 0 0)).1
            (λ j hj p. let r = decided.0 t i j (subst T (sym (pair_bit rows i j hj)) p) in (r.0, subst T (member_low areas j hj) r.1)),
        λ f. decided.1
            (λ i j p.
            let hj = pair_area (cells_of rows) i j p in
            let r = (row_named_lem (get_or rows i 0) (member (cells_of firsts) i) (get_or areas 0 0)).0 (f i (pair_first (cells_of rows) n i j (cells_length rows ∙ ap (λ (m : ℕ). m * places) long) p)) j hj (subst T (pair_bit rows i j hj) p) in
            (r.0, subst T (sym (member_low areas j hj)) r.1)),
      )

-- ---- users, areas and objects
module _ (users : Rows) (owners : Rows) (one : length users ≡ 1) (fit : Fit owners) where
  pub own_by_rows : T (all_own (cells_of users) (cells_of owners)) ↔ ((u : ℕ) → u < 32 → T (bit (get_or users 0 0) u) → T (not (is_empty (get_or owners u 0))))
  unfolding all_own
  own_by_rows =
      let e = each_member_lem (cells_of users) (has_first (cells_of owners)) in (
        λ t u h m. subst T (sym (row_empty owners u (fit u))) (e.0 t u (subst T (sym (member_low users u h)) m)),
        λ f. e.1
            (λ u m.
            let h : u < places = omega (arith, member_inside (cells_of users) u m, cells_length users) in
            subst T (row_empty owners u (fit u)) (f u h (subst T (member_low users u h) m))),
      )

module _ (areas : Rows) (owners : Rows) (one : length areas ≡ 1) where
  pub owned_by_rows : is_subset (get_or areas 0 0) (word places (has_second (cells_of owners))) ≡ all_owned (cells_of areas) (cells_of owners)
  unfolding all_owned
  owned_by_rows =
      let e = each_member_lem (cells_of areas) (has_second (cells_of owners)) in
      let subset = subset_decided (get_or areas 0 0) (word places (has_second (cells_of owners))) in
      same_test _ _
      (λ t. e.1
      (λ a m.
      let h : a < places = omega (arith, member_inside (cells_of areas) a m, cells_length areas) in
      subst T (word_bit places _ a h) (subset.0 t a h (subst T (member_low areas a h) m))))
      (λ t. subset.1 (λ a h p. subst T (sym (word_bit places _ a h)) (e.0 t a (subst T (sym (member_low areas a h)) p))))

  pub some_by_row : get_or areas 0 0 < 2 ^ places → not (is_empty (get_or areas 0 0)) ≡ some_listed (cells_of areas)
  some_by_row fits =
      let decided = some_decided (cells_of areas) in
      let none = empty_decided (get_or areas 0 0) fits in
      same_test _ _
      (λ t. not_not (some_listed (cells_of areas))
      (λ absent. not_so (is_empty (get_or areas 0 0)) t
      (none.1 (λ a h. is_false _ (λ p. not_so (some_listed (cells_of areas)) absent (decided.1 (a, subst T (sym (member_low areas a h)) p)))))))
      (λ t.
      let r = decided.0 t in
      let h : r.0 < places = omega (arith, member_inside (cells_of areas) r.0 r.1, cells_length areas) in
      so_not (is_empty (get_or areas 0 0)) (λ e. fails (none.0 e r.0 h) (subst T (member_low areas r.0 h) r.1)))

-- exactly one pair has the number
once_by_row : (rows : Rows) (i : ℕ) → get_or rows i 0 < 2 ^ places → is_single (get_or rows i 0) ≡ once (cells_of rows) i
once_by_row rows i fits = same_test _ _ (λ t. (once_decided (cells_of rows) i).1 (there ((single_decided (get_or rows i 0) fits).0 t))) (λ t. (single_decided (get_or rows i 0) fits).1 (back ((once_decided (cells_of rows) i).0 t)))
  where
    there : Single (get_or rows i 0) → Once (cells_of rows) i
    there s =
        record {
          place = s.place;
          there = subst T (sym (pair_bit rows i s.place s.inside)) s.there;
          only = λ b p. let h = pair_area (cells_of rows) i b p in s.only b h (subst T (pair_bit rows i b h) p);
        }

    back : Once (cells_of rows) i → Single (get_or rows i 0)
    back o =
        let h = pair_area (cells_of rows) i o.place o.there in
        record {
          place = o.place;
          inside = h;
          there = subst T (pair_bit rows i o.place h) o.there;
          only = λ k l t. o.only k (subst T (sym (pair_bit rows i k l)) t);
        }

module _ (objects definitions : Rows) (two : length objects ≡ 2) (fit : Fit definitions) where
  pub defined_by_rows : T (all_defined (cells_of objects) (cells_of definitions)) ↔ ((o : ℕ) → o < 64 → T (member (cells_of objects) o) → T (is_single (get_or definitions o 0)))
  unfolding all_defined
  defined_by_rows =
      let e = each_member_lem (cells_of objects) (once (cells_of definitions)) in (
        λ t o h m. subst T (sym (once_by_row definitions o (fit o))) (e.0 t o m),
        λ f. e.1
            (λ o m.
            let h : o < 64 = omega (arith, member_inside (cells_of objects) o m, cells_length objects) in
            subst T (once_by_row definitions o (fit o)) (f o h m)),
      )

-- ---- two relations
module _ (these those : Rows) (long : length these ≡ 64) where
  pub disjoint_by_rows : each_below 64 (apart_at these those) ≡ disjoint (cells_of these) (cells_of those)
  unfolding disjoint
  disjoint_by_rows =
      let e = each_pair_lem (cells_of these) (λ i j. not (pair (cells_of those) i j)) in
      same_test _ _
      (λ t. e.1
      (λ i j p.
      let hj = pair_area (cells_of these) i j p in
      let hi = pair_first (cells_of these) 64 i j (cells_length these ∙ ap (λ (m : ℕ). m * places) long) p in
      so_not (pair (cells_of those) i j)
      (λ q. fails (sym (intersection_bit (get_or these i 0) (get_or those i 0) j hj) ∙ (empty_decided (intersection (get_or these i 0) (get_or those i 0)) (intersection_fits _ _)).0 (each_at (apart_at these those) 64 t i hi) j hj)
      (and_both (bit (get_or these i 0) j) (bit (get_or those i 0) j) (subst T (pair_bit these i j hj) p) (subst T (pair_bit those i j hj) q)))))
      (λ t. each_by (apart_at these those) 64
      (λ i h. (empty_decided (intersection (get_or these i 0) (get_or those i 0)) (intersection_fits _ _)).1
      (λ j hj. intersection_bit (get_or these i 0) (get_or those i 0) j hj
      ∙ is_false _ (λ b. not_so (pair (cells_of those) i j)
      (e.0 t i j (subst T (sym (pair_bit these i j hj)) (and_left (bit (get_or these i 0) j) (bit (get_or those i 0) j) b)))
      (subst T (sym (pair_bit those i j hj)) (and_right (bit (get_or these i 0) j) (bit (get_or those i 0) j) b))))))

-- ---- a record
module _ (s : State) (fits : Fits s) where
  abbrev pub areas : ℕ
  areas = get_or s.areas 0 0

  -- users: what they own is listed, and a listed one owns something
  abbrev pub user_test : ℕ → Bool
  user_test = user_at s.owners (get_or s.users 0 0) areas

  users_by_rows : each_below 32 user_test ≡ (named (cells_of s.owners) (cells_of s.users) (cells_of s.areas) && all_own (cells_of s.users) (cells_of s.owners))
  unfolding user_fits
  users_by_rows = same_test _ _ there back
    where
      in_names : T (named (cells_of s.owners) (cells_of s.users) (cells_of s.areas)) ↔ ((i : ℕ) → i < 32 → T (row_at s.owners s.users s.areas 32 fits.owners.long fits.areas.long i))
      in_names = named_by_rows s.owners s.users s.areas 32 fits.owners.long fits.areas.long

      own : T (all_own (cells_of s.users) (cells_of s.owners)) ↔ ((u : ℕ) → u < 32 → T (bit (get_or s.users 0 0) u) → T (not (is_empty (get_or s.owners u 0))))
      own = own_by_rows s.users s.owners fits.users.long fits.owners.fit

      listed : ℕ → Bool
      listed u = bit (get_or s.users 0 0) u

      name : ℕ → Bool
      name u = row_named (get_or s.owners u 0) (listed u) areas

      owns : ℕ → Bool
      owns u = not (listed u) || not (is_empty (get_or s.owners u 0))

      there : T (each_below 32 user_test) → T (named (cells_of s.owners) (cells_of s.users) (cells_of s.areas) && all_own (cells_of s.users) (cells_of s.owners))
      there t =
          and_both (named (cells_of s.owners) (cells_of s.users) (cells_of s.areas)) _
          (in_names.1 (λ u h. subst (λ (b : Bool). T (row_named (get_or s.owners u 0) b areas)) (sym (member_low s.users u h)) (and_left (name u) (owns u) (each_at user_test 32 t u h))))
          (own.1 (λ u h m. implies (listed u) _ (and_right (name u) (owns u) (each_at user_test 32 t u h)) m))

      back : T (named (cells_of s.owners) (cells_of s.users) (cells_of s.areas) && all_own (cells_of s.users) (cells_of s.owners)) → T (each_below 32 user_test)
      back t =
          let names = and_left (named (cells_of s.owners) (cells_of s.users) (cells_of s.areas)) _ t in
          let owning = and_right (named (cells_of s.owners) (cells_of s.users) (cells_of s.areas)) (all_own (cells_of s.users) (cells_of s.owners)) t in
          each_by user_test 32
          (λ u h. and_both (name u) (owns u) (subst (λ (b : Bool). T (row_named (get_or s.owners u 0) b areas)) (member_low s.users u h) (in_names.0 names u h))
          (implied (listed u) _ (own.0 owning u h)))

  -- areas: what lies in them is listed
  areas_by_rows : each_below 32 (area_at s.structure areas) ≡ named (cells_of s.structure) (cells_of s.areas) (cells_of s.areas)
  areas_by_rows =
      let names = named_by_rows s.structure s.areas s.areas 32 fits.structure.long fits.areas.long in
      same_test _ _
      (λ t. names.1 (λ a h. subst (λ (b : Bool). T (row_named (get_or s.structure a 0) b areas)) (sym (member_low s.areas a h)) (each_at (area_at s.structure areas) 32 t a h)))
      (λ t. each_by (area_at s.structure areas) 32 (λ a h. subst (λ (b : Bool). T (row_named (get_or s.structure a 0) b areas)) (member_low s.areas a h) (names.0 t a h)))

  -- objects: what their pairs name is listed, and a listed one is defined once; first of any of the 64, then as two halves
  abbrev object_test : ℕ → Bool
  object_test o = object_fits (object_in s o) (member (cells_of s.objects) o) areas

  abbrev object_names : Rows → Bool
  object_names rows = named (cells_of rows) (cells_of s.objects) (cells_of s.areas)

  each_object : each_below 64 object_test ≡ (object_names s.definitions && object_names s.imports && object_names s.exports && all_defined (cells_of s.objects) (cells_of s.definitions))
  unfolding object_fits
  each_object = same_test _ _ there back
    where
      of_rows : (rows : Rows) → Sized 64 rows → T (object_names rows) ↔ ((o : ℕ) → o < 64 → T (row_named (get_or rows o 0) (member (cells_of s.objects) o) areas))
      of_rows rows h = named_by_rows rows s.objects s.areas 64 h.long fits.areas.long

      once_each : T (all_defined (cells_of s.objects) (cells_of s.definitions)) ↔ ((o : ℕ) → o < 64 → T (member (cells_of s.objects) o) → T (is_single (get_or s.definitions o 0)))
      once_each = defined_by_rows s.objects s.definitions fits.objects.long fits.definitions.fit

      listed : ℕ → Bool
      listed o = member (cells_of s.objects) o

      name : Rows → ℕ → Bool
      name rows o = row_named (get_or rows o 0) (listed o) areas

      single : ℕ → Bool
      single o = not (listed o) || is_single (get_or s.definitions o 0)

      there : T (each_below 64 object_test) → T (object_names s.definitions && object_names s.imports && object_names s.exports && all_defined (cells_of s.objects) (cells_of s.definitions))
      there t =
          let at : (o : ℕ) → o < 64 → T (object_test o) = each_at object_test 64 t in
          let three : (o : ℕ) → o < 64 → T (name s.definitions o && name s.imports o && name s.exports o) = λ o h. and_left (name s.definitions o && name s.imports o && name s.exports o) (single o) (at o h) in
          let two : (o : ℕ) → o < 64 → T (name s.definitions o && name s.imports o) = λ o h. and_left (name s.definitions o && name s.imports o) (name s.exports o) (three o h) in
          and_both (object_names s.definitions && object_names s.imports && object_names s.exports) _
          (and_both (object_names s.definitions && object_names s.imports) _
          (and_both (object_names s.definitions) _
          ((of_rows s.definitions fits.definitions).1 (λ o h. and_left (name s.definitions o) (name s.imports o) (two o h)))
          ((of_rows s.imports fits.imports).1 (λ o h. and_right (name s.definitions o) (name s.imports o) (two o h))))
          ((of_rows s.exports fits.exports).1 (λ o h. and_right (name s.definitions o && name s.imports o) (name s.exports o) (three o h))))
          (once_each.1 (λ o h m. implies (listed o) _ (and_right (name s.definitions o && name s.imports o && name s.exports o) (single o) (at o h)) m))

      back : T (object_names s.definitions && object_names s.imports && object_names s.exports && all_defined (cells_of s.objects) (cells_of s.definitions)) → T (each_below 64 object_test)
      back t =
          let three = and_left (object_names s.definitions && object_names s.imports && object_names s.exports) _ t in
          let two = and_left (object_names s.definitions && object_names s.imports) (object_names s.exports) three in
          each_by object_test 64
          (λ o h.
          and_both (name s.definitions o && name s.imports o && name s.exports o) (single o)
          (and_both (name s.definitions o && name s.imports o) (name s.exports o)
          (and_both (name s.definitions o) (name s.imports o)
          ((of_rows s.definitions fits.definitions).0 (and_left (object_names s.definitions) (object_names s.imports) two) o h)
          ((of_rows s.imports fits.imports).0 (and_right (object_names s.definitions) (object_names s.imports) two) o h))
          ((of_rows s.exports fits.exports).0 (and_right (object_names s.definitions && object_names s.imports) (object_names s.exports) three) o h))
          (implied (listed o) _ (once_each.0 (and_right (object_names s.definitions && object_names s.imports && object_names s.exports) _ t) o h)))

  abbrev pub half : ℕ → ℕ → ℕ → Bool
  half from row = object_at s from (get_or s.objects row 0) areas

  halves : (each_below 32 (half 0 0) && each_below 32 (half 32 1)) ≡ each_below 64 object_test
  halves = ap₂ ◌&&◌ (same_each low) (same_each high) ∙ sym (each_add object_test 32 32)
    where
      same_each : {f g : ℕ → Bool} → ((k : ℕ) → k < 32 → f k ≡ g k) → each_below 32 f ≡ each_below 32 g
      same_each {f} {g} e = same_test _ _ (λ t. each_by g 32 (λ k h. subst T (e k h) (each_at f 32 t k h))) (λ t. each_by f 32 (λ k h. subst T (sym (e k h)) (each_at g 32 t k h)))

      low : (k : ℕ) → k < 32 → half 0 0 k ≡ object_test k
      low k h =
          let z : 0 + k ≡ k = omega arith in
          ap (λ (m : ℕ). object_fits (object_in s m) (bit (get_or s.objects 0 0) k) areas) z
          ∙ ap (λ (b : Bool). object_fits (object_in s k) b areas) (sym (member_low s.objects k h))

      high : (k : ℕ) → k < 32 → half 32 1 k ≡ object_test (32 + k)
      high k h = ap (λ (b : Bool). object_fits (object_in s (32 + k)) b areas) (sym (member_high s.objects k h))

  -- the same parts in another order
  reordered : (ow de st im ex own owned defined some : Bool)
      → ((ow && own) && st && (de && im && ex && defined) && owned && some) ≡ (((ow && de && st && im && ex) && (own && owned && defined)) && some)
  reordered true true true true true true true true some = refl
  reordered true true true true true true true false some = refl
  reordered true true true true true true false true some = refl
  reordered true true true true true true false false some = refl
  reordered true true true true true false owned defined some = refl
  reordered true true true true false true owned defined some = refl
  reordered true true true true false false owned defined some = refl
  reordered true true true false ex true owned defined some = refl
  reordered true true true false ex false owned defined some = refl
  reordered true true false im ex true owned defined some = refl
  reordered true true false im ex false owned defined some = refl
  reordered true false true im ex true owned defined some = refl
  reordered true false true im ex false owned defined some = refl
  reordered true false false im ex true owned defined some = refl
  reordered true false false im ex false owned defined some = refl
  reordered false de st im ex own owned defined some = refl

  -- the whole test
  pub well_formed_by_rows : (each_below 32 user_test && each_below 32 (area_at s.structure areas) && each_below 32 (half 0 0) && each_below 32 (half 32 1)
      && is_subset areas (word places (has_second (cells_of s.owners))) && not (is_empty areas)) ≡ is_well_formed (site s)
  unfolding site
  well_formed_by_rows =
      ap (λ (b : Bool). b && is_subset areas (word places (has_second (cells_of s.owners))) && not (is_empty areas))
      (and_assoc (each_below 32 user_test && each_below 32 (area_at s.structure areas)) (each_below 32 (half 0 0)) (each_below 32 (half 32 1)))
      ∙ (λ i. users_by_rows i && areas_by_rows i && (halves ∙ each_object) i && owned_by_rows s.areas s.owners fits.areas.long i && some i)
      ∙ reordered (named (cells_of s.owners) (cells_of s.users) (cells_of s.areas)) (object_names s.definitions)
      (named (cells_of s.structure) (cells_of s.areas) (cells_of s.areas)) (object_names s.imports) (object_names s.exports)
      (all_own (cells_of s.users) (cells_of s.owners)) (all_owned (cells_of s.areas) (cells_of s.owners))
      (all_defined (cells_of s.objects) (cells_of s.definitions)) (some_listed (cells_of s.areas))
    where
      some : not (is_empty areas) ≡ some_listed (cells_of s.areas)
      some = some_by_row s.areas s.owners fits.areas.long (fits.areas.fit 0)
