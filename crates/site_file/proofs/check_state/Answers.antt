-- `site_file::check_state` meets its contract: 28 where one of its two tests fails, then 29 where one of its two
-- does.
-- Assumes nothing.
use Prim.Native.Nat.{ℕ}
use mathlib.Core.Path.{◌≡◌, refl, sym, ap, ap₂, subst, ◌∙◌}
use mathlib.Core.Bool.{Bool, true, false, ◌||◌, not}
use mathlib.Core.List.{List}
use Rattle.state.specs.Site.{Site, Shaped}
use Rattle.state.proofs.Checks.{met, passed, none_met}
use Rattle.soundness.specs.Tests.{is_well_formed, is_valid, no_own_import}
use Rattle.label_tables.specs.Labels.{labels_listed}
use Rattle.site_format.specs.Format.{labels, part}
use Rattle.site_file.specs.Reading.{state_in, no_owner, names_unlisted, defined_twice}
use Rattle.site_file.proofs.Held.{Derived, derived, shaped}
use Rattle.site_file.proofs.Formed.{by_record, by_labels}
use Rattle.site_file.proofs.check_state.Goals as goal

-- 28 from what was told of the state that a file holds
module _ (s : Site) (file : List ℕ) (held : s ≡ state_in file) where
  lists : Derived s
  lists = subst Derived (sym held) (derived file)

  shape : Shaped s
  shape = subst Shaped (sym held) (shaped file)

  abbrev condition : Bool
  condition = no_owner s || names_unlisted s (part file labels) || defined_twice s

  ill_formed : {told : Bool} → told ≡ is_well_formed s → not told ≡ true → condition ≡ true
  ill_formed = by_record s lists shape (part file labels)

  -- where the record is well-formed, the labels decide
  labelled : {told listed : Bool} {table : List ℕ} (v : Bool) → told ≡ is_well_formed s → listed ≡ labels_listed s.areas table
      → table ≡ part file labels → told ≡ true → not listed ≡ v → condition ≡ v
  labelled v e k t w = by_labels s lists shape (part file labels) v e (k ∙ ap (labels_listed s.areas) t) (ap not w)

pub returns-then-not-is_well_formed : goal.returns-then-not-is_well_formed
returns-then-not-is_well_formed c =
    sym (met _ _ (ill_formed _ _ c.requires c.is_well_formed.ensures (ap not c.if-not-is_well_formed.true)))

pub returns-then-not-labels_listed : goal.returns-then-not-labels_listed
returns-then-not-labels_listed c =
    let told = c.is_well_formed.ensures in
    let formed = c.if-not-is_well_formed.false in
    let unlisted = ap not c.if-not-labels_listed.true in
    sym (met _ _ (labelled _ _ c.requires true told c.labels_listed.ensures c.part.ensures formed unlisted))

-- 29, from what was told of the state
by_entries : (s : Site) {valid no_own : Bool} (v w : Bool) → valid ≡ is_valid s → no_own ≡ no_own_import s
    → not valid ≡ v → not no_own ≡ w → (not (is_valid s) || not (no_own_import s)) ≡ (v || w)
by_entries s v w e k n m = ap₂ ◌||◌ (sym (ap not e) ∙ n) (sym (ap not k) ∙ m)

-- past 28, validity decides 29, and behind it the imports
pub returns-then-not-is_valid : goal.returns-then-not-is_valid
returns-then-not-is_valid c =
    let told = c.is_well_formed.ensures in
    let formed = c.if-not-is_well_formed.false in
    let listed = ap not c.if-not-labels_listed.false in
    let past = labelled _ _ c.requires false told c.labels_listed.ensures c.part.ensures formed listed in
    let invalid = by_entries _ true _ c.is_valid.ensures.equation refl (ap not c.if-not-is_valid.true) refl in
    sym (passed _ _ past ∙ met _ _ invalid)

pub returns-then-not-has_no_own_import : goal.returns-then-not-has_no_own_import
returns-then-not-has_no_own_import c =
    let told = c.is_well_formed.ensures in
    let formed = c.if-not-is_well_formed.false in
    let listed = ap not c.if-not-labels_listed.false in
    let past = labelled _ _ c.requires false told c.labels_listed.ensures c.part.ensures formed listed in
    let valid = c.is_valid.ensures.equation in
    let no_own = c.has_no_own_import.ensures.equation in
    let second = ap not c.if-not-has_no_own_import.true in
    let own = by_entries _ false true valid no_own (ap not c.if-not-is_valid.false) second in
    sym (passed _ _ past ∙ met _ _ own)

pub returns : goal.returns
returns c =
    let told = c.is_well_formed.ensures in
    let formed = c.if-not-is_well_formed.false in
    let listed = ap not c.if-not-labels_listed.false in
    let past = labelled _ _ c.requires false told c.labels_listed.ensures c.part.ensures formed listed in
    let valid = c.is_valid.ensures.equation in
    let no_own = c.has_no_own_import.ensures.equation in
    let second = ap not c.if-not-has_no_own_import.false in
    let none = by_entries _ false false valid no_own (ap not c.if-not-is_valid.false) second in
    sym (passed _ _ past ∙ passed _ _ none ∙ none_met)
