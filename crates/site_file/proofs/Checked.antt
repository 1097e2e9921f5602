-- A file is accepted exactly when each check is passed: what the refusals say together.
--     checked, accepted            from no refusal, and to no refusal
--     state_sound, sized, lies     what follows of the state and of the tables
-- Assumes nothing.
use Prim.Native.Nat.{ℕ, ◌≤◌}
use mathlib.Core.Path.{◌≡◌, refl, ap, ap₂, ◌∙◌}
use mathlib.Core.Bool.{Bool, true, false, ◌||◌, not, cond}
use mathlib.Core.List.{List, ◌++◌}
use borrow.Author.Tests.{le-ltb, eq-eqb}
use lib.Dec.{T, eqb, ltb, eqb→eq, nltb→le}
use lib.ListN.{length}
use Rattle.state.proofs.Bools.{or_right, is_true, fails, so_not, so, neither}
use Rattle.state.proofs.Checks.{met, passed, none_met, none_met_at, first_of_two}
use Rattle.state.specs.Checks.{first_met, met_at}
use Rattle.soundness.specs.Sound.{Sound}
use Rattle.soundness.specs.Tests.{is_consistent, is_valid, no_own_import}
use Rattle.soundness.proofs.Laws.{consistent_decided, no_own_import_decided}
use Rattle.state.specs.Site.{Site, definition}
use Rattle.label_tables.specs.Labels.{labels_listed}
use Rattle.site_format.specs.Format.{header_size, Content, labels, layout_of, tables, field, count_in, size_in, part, content_fits, content_ascends}
use Rattle.site_format.proofs.Tables.{test_of, by_test}
use Rattle.site_header.proofs.Laws.{Lies, part_size, part_lies}
use Rattle.site_header.specs.Header.{counts_fit, placed_from, header_checks}
use Rattle.site_file.specs.Claims
use Rattle.site_file.specs.Reading.{tables_fit, tables_ascend, state_in, no_owner, names_unlisted, defined_twice, table_checks, state_checks, file_checks, file_refusal, read_of}
use Rattle.site_file.proofs.Held.{derived, shaped, sound_by, some_owner, not_twice}

-- ---- what the checks say
pub record Checked (file : List ℕ) : Type 0 where
  pub header_long : 28 ≤ length file
  pub version_known : field file 0 ≡ 1
  pub length_stated : field file 2 ≡ length file
  pub each_count_fits : (c : Content) → count_in file c ≤ (layout_of c).most
  pub placed : T (placed_from file tables header_size)
  pub is_in_range : (c : Content) → T (content_fits c (part file c))
  pub ascends : (c : Content) → T (content_ascends c (part file c))
  pub owned : no_owner (state_in file) ≡ false
  pub named : T (is_consistent (state_in file))
  pub labelled : T (labels_listed (state_in file).areas (part file labels))
  pub defined_once : defined_twice (state_in file) ≡ false
  pub valid : T (is_valid (state_in file))
  pub has_no_own_import : T (no_own_import (state_in file))

-- 28 is not met: none of its parts is
abbrev Passed28 : (none unnamed unlisted twice : Bool) → Type 0
Passed28 none unnamed unlisted twice = (none ≡ false) × (unnamed ≡ false) × (unlisted ≡ false) × (twice ≡ false)

parts : (none unnamed unlisted twice : Bool) → (none || (unnamed || unlisted) || twice) ≡ false → Passed28 none unnamed unlisted twice
parts none unnamed unlisted twice e =
    let a = neither (none || (unnamed || unlisted)) twice e in
    let b = neither none (unnamed || unlisted) a.0 in
    let c = neither unnamed unlisted b.1 in
    (b.0, c.0, c.1, a.1)

joined : (none unnamed unlisted twice : Bool) → Passed28 none unnamed unlisted twice → (none || (unnamed || unlisted) || twice) ≡ false
joined none unnamed unlisted twice s = rw (s.0, s.1, s.2, s.3) refl

hold : (a : Bool) → T a → not a ≡ false
hold a t = ap not (is_true a t)

not_above : (m n : ℕ) → n ≤ m → T (not (ltb m n))
not_above m n h = rw (le-ltb m n h) tt

pub accepted_meets_none : Claims.AcceptedMeetsNone
unfolding file_refusal
accepted_meets_none file e n = none_met_at (file_checks file) tt e n

pub checked : (file : List ℕ) → file_refusal file ≡ 0 → Checked file
checked file e =
    record {
      header_long = nltb→le (length file) 28 (so_not (ltb (length file) 28) (fails (p 21)));
      version_known = eqb→eq (field file 0) 1 (so (eqb (field file 0) 1) (p 22));
      length_stated = eqb→eq (field file 2) (length file) (so (eqb (field file 2) (length file)) (p 23));
      each_count_fits = λ c. nltb→le (layout_of c).most (count_in file c) (test_of (λ x. not (ltb (layout_of x).most (count_in file x))) (so (counts_fit file) (p 24)) c);
      placed = so (placed_from file tables header_size) (p 25);
      is_in_range = test_of (λ x. content_fits x (part file x)) (so (tables_fit file) (p 26));
      ascends = test_of (λ x. content_ascends x (part file x)) (so (tables_ascend file) (p 27));
      owned = q.0;
      named = so (is_consistent (state_in file)) q.1;
      labelled = so (labels_listed (state_in file).areas (part file labels)) q.2;
      defined_once = q.3;
      valid = so (is_valid (state_in file)) r.0;
      has_no_own_import = so (no_own_import (state_in file)) r.1;
    }
  where
    p : (n : ℕ) → met_at n (file_checks file) ≡ false
    p = accepted_meets_none file e

    q : Passed28 (no_owner (state_in file)) (not (is_consistent (state_in file))) (not (labels_listed (state_in file).areas (part file labels))) (defined_twice (state_in file))
    q = parts (no_owner (state_in file)) (not (is_consistent (state_in file))) (not (labels_listed (state_in file).areas (part file labels))) (defined_twice (state_in file)) (p 28)

    r : (not (is_valid (state_in file)) ≡ false) × (not (no_own_import (state_in file)) ≡ false)
    r = neither (not (is_valid (state_in file))) (not (no_own_import (state_in file))) (p 29)

pub accepted : (file : List ℕ) → Checked file → file_refusal file ≡ 0
unfolding file_refusal
accepted file k =
    passed _ _ (le-ltb _ _ k.header_long)
    ∙ passed _ _ (ap not (eq-eqb _ _ k.version_known))
    ∙ passed _ _ (ap not (eq-eqb _ _ k.length_stated))
    ∙ passed _ _ (hold (counts_fit file) (by_test (λ x. not (ltb (layout_of x).most (count_in file x))) tables (λ c. not_above (layout_of c).most (count_in file c) (k.each_count_fits c))))
    ∙ passed _ _ (hold (placed_from file tables header_size) k.placed)
    ∙ passed _ _ (hold (tables_fit file) (by_test (λ x. content_fits x (part file x)) tables k.is_in_range))
    ∙ passed _ _ (hold (tables_ascend file) (by_test (λ x. content_ascends x (part file x)) tables k.ascends))
    ∙ passed _ _ (joined (no_owner (state_in file)) (not (is_consistent (state_in file))) (not (labels_listed (state_in file).areas (part file labels))) (defined_twice (state_in file)) (k.owned, hold (is_consistent (state_in file)) k.named, hold (labels_listed (state_in file).areas (part file labels)) k.labelled, k.defined_once))
    ∙ passed _ _ (ap₂ ◌||◌ (hold (is_valid (state_in file)) k.valid) (hold (no_own_import (state_in file)) k.has_no_own_import))
    ∙ none_met

-- where 21 to 27 are not met, the state and the labels decide
by_state : (file : List ℕ) → first_met (header_checks file ++ table_checks file) ≡ 0 → file_refusal file ≡ first_met (state_checks (state_in file) (part file labels))
unfolding file_refusal
by_state file e =
    first_of_two (header_checks file ++ table_checks file) (state_checks (state_in file) (part file labels)) tt
    ∙ ap (λ (n : ℕ). cond (eqb n 0) (first_met (state_checks (state_in file) (part file labels))) n) e

-- an import by the area that defines the object, with nothing wrong before it
pub own_import_is_29 : Claims.OwnImportIs29
own_import_is_29 file k o a p d = by_state file k.no_refusal ∙ passed _ _ not_28 ∙ met _ _ is_29
  where
    s : Site
    s = state_in file

    l : List ℕ
    l = part file labels

    not_28 : (no_owner s || names_unlisted s l || defined_twice s) ≡ false
    not_28 =
        joined (no_owner s) (not (is_consistent s)) (not (labels_listed s.areas l)) (defined_twice s) (
          some_owner s k.acceptable k.some_area,
          hold (is_consistent s) ((consistent_decided s).1 k.consistent),
          hold (labels_listed s.areas l) k.labelled,
          not_twice s k.acceptable.objects (λ o a p. (k.consistent definition o a p).first),
        )

    is_29 : (not (is_valid s) || not (no_own_import s)) ≡ true
    is_29 =
        is_true (not (is_valid s) || not (no_own_import s))
        (or_right (not (is_valid s)) (not (no_own_import s)) (so_not (no_own_import s) (λ t. (no_own_import_decided s).0 t o a p d)))

-- The state of a file that passes each check is sound; each of its tables has the bytes that its count says, and lies
-- behind the header and within the file.
module _ (file : List ℕ) (k : Checked file) where
  pub state_sound : Sound (state_in file)
  state_sound = sound_by (state_in file) (derived file) (shaped file) k.owned k.named k.defined_once k.valid k.has_no_own_import

  pub sized : (c : Content) → length (part file c) ≡ size_in file c
  sized = part_size file k.placed

  pub lies : (c : Content) → Lies file c
  lies = part_lies file k.placed

-- the state of a file that is accepted
pub state_read : (file : List ℕ) → file_refusal file ≡ 0 → (read_of file).state ≡ state_in file
unfolding read_of
state_read file e = rw e refl
