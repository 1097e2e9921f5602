-- Refusal 28 of a state whose lists follow from its pairs: what 28 asks in the paper's words is what the functions test.
-- Assumes nothing.
use Prim.Native.Nat.{ℕ}
use mathlib.Core.Path.{◌≡◌, refl, sym, ap, ap₂, ◌∙◌}
use mathlib.Core.Bool.{Bool, true, false, ◌&&◌, ◌||◌, not}
use mathlib.Core.List.{List}
use lib.Dec.{T}
use Rattle.state.specs.Walk.{some_pair}
use Rattle.state.specs.Site.{area, object, Shaped}
use Rattle.state.specs.Site.{Site}
use Rattle.state.proofs.Bools.{is_false, not_so, same_test}
use Rattle.state.proofs.Laws.{some_pair_lem}
use Rattle.soundness.specs.Tests.{is_consistent, is_acceptable, some_listed, is_well_formed}
use Rattle.soundness.proofs.Laws.{acceptable_decided, some_decided}
use Rattle.label_tables.specs.Labels.{labels_listed}
use Rattle.site_file.specs.Reading.{no_owner, names_unlisted, defined_twice}
use Rattle.site_file.proofs.Held.{Derived, derived_lists, acceptable_by, not_twice}

-- the four tests, as the functions join them and as 28 does
joined : (named twice owned labelled : Bool) → not (named && not twice && owned) || not labelled ≡ (not owned || (not named || not labelled) || twice)
joined true false true true = refl
joined true false true false = refl
joined true false false labelled = refl
joined true true true true = refl
joined true true true false = refl
joined true true false labelled = refl
joined false twice true labelled = refl
joined false twice false labelled = refl

module _ (s : Site) (d : Derived s) (shape : Shaped s) where
  -- it is acceptable where each object is defined once
  acceptable_is : is_acceptable s ≡ not (defined_twice s)
  acceptable_is =
      same_test (is_acceptable s) (not (defined_twice s))
      (λ t. rw (not_twice s ((acceptable_decided s).0 t).objects (λ o a p. (derived_lists s d shape object o).1 (a, p))) tt)
      (λ t. (acceptable_decided s).1 (acceptable_by s d shape (is_false (defined_twice s) (not_so (defined_twice s) t))))

  -- there is an area where there is an owner pair
  some_area_is : some_listed s.areas ≡ some_pair s.owners (λ u a. true)
  some_area_is = same_test (some_listed s.areas) (some_pair s.owners (λ u a. true)) owned listing
    where
      owned : T (some_listed s.areas) → T (some_pair s.owners (λ u a. true))
      owned t =
          let r = (some_decided s.areas).0 t in
          let o = (derived_lists s d shape area r.0).0 r.1 in
          (some_pair_lem s.owners (λ u a. true)).1 (o.0, r.0, o.1, tt)

      listing : T (some_pair s.owners (λ u a. true)) → T (some_listed s.areas)
      listing t = let o = (some_pair_lem s.owners (λ u a. true)).0 t in (some_decided s.areas).1 (o.1, (derived_lists s d shape area o.1).1 (o.0, o.2))

  -- ---- from what the functions tell of the record, and of a label block
  module _ (l : List ℕ) where
    ill_formed : (no_owner s || names_unlisted s l || defined_twice s) ≡ (not (is_well_formed s) || not (labels_listed s.areas l))
    ill_formed =
        sym
        (ap (λ (b : Bool). not b || not (labels_listed s.areas l)) (ap₂ (λ (a b : Bool). is_consistent s && a && b) acceptable_is some_area_is)
        ∙ joined (is_consistent s) (defined_twice s) (some_pair s.owners (λ u a. true)) (labels_listed s.areas l))

    -- the record alone decides 28, or the labels do
    pub by_record : {told : Bool} → told ≡ is_well_formed s → not told ≡ true → (no_owner s || names_unlisted s l || defined_twice s) ≡ true
    by_record e n = ill_formed ∙ ap (λ (b : Bool). b || not (labels_listed s.areas l)) (ap not (sym e) ∙ n)

    pub by_labels : {told listed : Bool} (v : Bool) → told ≡ is_well_formed s → listed ≡ labels_listed s.areas l → not told ≡ false → not listed ≡ v
        → (no_owner s || names_unlisted s l || defined_twice s) ≡ v
    by_labels v e k n m = ill_formed ∙ ap₂ ◌||◌ (ap not (sym e) ∙ n) (ap not (sym k) ∙ m)
