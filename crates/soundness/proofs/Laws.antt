-- The claims of specs/Claims.antt and the laws of specs/Laws.antt, each proved under its name.
-- Assumes nothing.
use Prim.Native.Nat.{ℕ}
use mathlib.Core.Path.{◌≡◌, sym, subst}
use mathlib.Core.Logic.{◌↔◌}
use mathlib.Core.Bool.{Bool, true, ◌&&◌, not}
use native.Mathlib.Omega.{arith}
use lib.Dec.{T, eqb}
use Rattle.state.specs.Walk.{each_pair, has_first, has_second}
use Rattle.state.specs.Site.{user, area, Relation, owner, definition, structure, import, export, members, cells, first_kind, listed, related, owns, defines, empty, founding}
use Rattle.state.specs.Site.{Site}
use Rattle.state.proofs.Bools.{and_both, and_left, and_right, is_false, fails, not_so, so_not}
use Rattle.state.proofs.Laws.{some_member_lem, each_member_lem, each_pair_lem, has_first_lem, has_second_lem, founding_listed, founding_owner, founding_no_pair, founding_shaped, empty_related, empty_shaped}
use Rattle.access.specs.Lending.{lending}
use Rattle.access.specs.Answer.{access}
use Rattle.soundness.specs.Sound.{Named, Consistent}
use Rattle.soundness.specs.Tests.{named, is_consistent, all_own, all_owned, once, all_defined, is_acceptable, some_listed}
use Rattle.soundness.specs.Tests.{is_well_formed, is_valid, disjoint, no_own_import, is_sound}
use Rattle.soundness.specs.Claims
use Rattle.soundness.specs.Laws
use Rattle.soundness.proofs.Tests.{named_decided, once_decided}
use Rattle.soundness.proofs.Names.{sound_lists, same_by_names}

-- ---- valid
pub valid_decided : Claims.ValidDecided
unfolding is_valid
valid_decided s =
    let fits : ℕ → ℕ → Bool = λ o a. access (lending s o) a in
    let im = each_pair_lem s.imports fits in
    let ex = each_pair_lem s.exports fits in
    let a = each_pair s.imports fits in
    let b = each_pair s.exports fits in
    (λ t. record { imported = im.0 (and_left a b t); exported = ex.0 (and_right a b t) }, λ v. and_both a b (im.1 v.imported) (ex.1 v.exported))

-- ---- no own import
pub no_own_import_decided : Claims.NoOwnImportDecided
unfolding disjoint
no_own_import_decided s =
    let e = each_pair_lem s.imports (λ o a. not (defines s o a)) in
    (λ t o a p. not_so (defines s o a) (e.0 t o a p), λ f. e.1 (λ o a p. so_not (defines s o a) (f o a p)))

-- ---- consistent
-- what the pairs of one relation name is listed
named_in : Site → Relation → Bool
named_in s r = named (cells s r) (members s (first_kind r)) s.areas

relation_decided : (s : Site) (r : Relation) → T (named_in s r) ↔ ((i j : ℕ) → T (related s r i j) → Named s r i j)
unfolding named_in
relation_decided s r =
    let e = named_decided (cells s r) (members s (first_kind r)) s.areas in
    (λ t i j p. let n = e.0 t i j p in record { first = n.0; second = n.1 }, λ f. e.1 (λ i j p. let n = f i j p in (n.first, n.second)))

-- one test for each relation
each_relation : (f : Relation → Bool) → T (f owner && f definition && f structure && f import && f export) ↔ ((r : Relation) → T (f r))
each_relation f = (there, λ e. and_both four (f export) (and_both three (f import) (and_both two (f structure) (and_both (f owner) (f definition) (e owner) (e definition)) (e structure)) (e import)) (e export))
  where
    two : Bool
    two = f owner && f definition

    three : Bool
    three = two && f structure

    four : Bool
    four = three && f import

    there : T (four && f export) → (r : Relation) → T (f r)
    there t owner = and_left (f owner) (f definition) (and_left two (f structure) (and_left three (f import) (and_left four (f export) t)))
    there t definition = and_right (f owner) (f definition) (and_left two (f structure) (and_left three (f import) (and_left four (f export) t)))
    there t structure = and_right two (f structure) (and_left three (f import) (and_left four (f export) t))
    there t import = and_right three (f import) (and_left four (f export) t)
    there t export = and_right four (f export) t

pub consistent_decided : Claims.ConsistentDecided
unfolding named_in
consistent_decided s =
    let e = each_relation (named_in s) in
    (λ t r. (relation_decided s r).0 (e.0 t r), λ c. e.1 (λ r. (relation_decided s r).1 (c r)))

-- ---- acceptable
pub defined_decided : Claims.DefinedDecided
unfolding all_defined
defined_decided s =
    let e = each_member_lem s.objects (once s.definitions) in (
      λ t o h. let r = (once_decided s.definitions o).0 (e.0 t o h) in record { place = r.place; defined = r.there; only = r.only },
      λ f. e.1 (λ i h. let d = f i h in (once_decided s.definitions i).1 (record { place = d.place; there = d.defined; only = d.only })),
    )

pub acceptable_decided : Claims.AcceptableDecided
unfolding all_own all_owned
acceptable_decided s = (
  λ t. record {
    users = λ u h. (has_first_lem s.owners u).0 (us.0 (and_left own owned (and_left (own && owned) defined t)) u h);
    areas = λ a h. (has_second_lem s.owners a).0 (ar.0 (and_right own owned (and_left (own && owned) defined t)) a h);
    objects = (defined_decided s).0 (and_right (own && owned) defined t);
  },
  λ a. and_both (own && owned) defined
      (and_both own owned (us.1 (λ i h. (has_first_lem s.owners i).1 (a.users i h))) (ar.1 (λ i h. (has_second_lem s.owners i).1 (a.areas i h))))
      ((defined_decided s).1 a.objects),
)
  where
    own : Bool
    own = all_own s.users s.owners

    owned : Bool
    owned = all_owned s.areas s.owners

    defined : Bool
    defined = all_defined s.objects s.definitions

    us : T own ↔ ((i : ℕ) → T (listed s user i) → T (has_first s.owners i))
    us = each_member_lem s.users (has_first s.owners)

    ar : T owned ↔ ((i : ℕ) → T (listed s area i) → T (has_second s.owners i))
    ar = each_member_lem s.areas (has_second s.owners)

-- ---- some area
pub some_decided : Laws.SomeDecided
unfolding some_listed
some_decided set =
    let e = some_member_lem set (λ i. true) in
    (λ t. let r = e.0 t in (r.0, r.1), λ r. e.1 (r.0, r.1, tt))

-- ---- sound
pub sound_decided : Claims.SoundDecided
unfolding is_sound
sound_decided s shaped = (
  λ t.
      let four = and_left abcd e t in
      let three = and_left abc d four in
      let two = and_left ab c three in
      record {
        shaped = shaped;
        consistent = (consistent_decided s).0 (and_left a b two);
        acceptable = (acceptable_decided s).0 (and_right a b two);
        some_area = (some_decided s.areas).0 (and_right ab c three);
        valid = (valid_decided s).0 (and_right abc d four);
        has_no_own_import = (no_own_import_decided s).0 (and_right abcd e t);
      },
  λ q. and_both abcd e
      (and_both abc d
      (and_both ab c (and_both a b ((consistent_decided s).1 q.consistent) ((acceptable_decided s).1 q.acceptable)) ((some_decided s.areas).1 q.some_area))
      ((valid_decided s).1 q.valid))
      ((no_own_import_decided s).1 q.has_no_own_import),
)
  where
    a : Bool
    a = is_consistent s

    b : Bool
    b = is_acceptable s

    c : Bool
    c = some_listed s.areas

    d : Bool
    d = is_valid s

    e : Bool
    e = no_own_import s

    ab : Bool
    ab = a && b

    abc : Bool
    abc = ab && c

    abcd : Bool
    abcd = abc && d

-- ---- who imports does not define
pub own_import_unsound : Claims.OwnImportUnsound
unfolding is_sound
own_import_unsound s o a p d =
    is_false (is_sound s) (λ t. (no_own_import_decided s).0 (and_right (is_well_formed s && is_valid s) (no_own_import s) t) o a p d)

pub lender_is_another : Claims.LenderIsAnother
lender_is_another s h o a p =
    let d = h.acceptable.objects o (h.consistent import o a p).first in
    (d.place, d.defined, λ e. h.has_no_own_import o a p (rw e at d.defined))

-- ---- the founding state
-- two names of relations are not the same: `cc` makes 0 ≡ 1 of an equation between them
not_the_same : ◌≡◌ {A = ℕ} 0 1 → ⊥
not_the_same e = omega arith

not_owner : (r : Relation) → (r ≡ owner → ⊥) → (i j : ℕ) → T (related founding r i j) → ⊥
not_owner r ne i j t = fails (founding_no_pair r i j ne) t

founding_names : Consistent founding
founding_names owner i j t =
    let b = subst T (founding_owner i j) t in
    record {
      first = subst T (sym (founding_listed i).0) (and_left (eqb i 0) (eqb j 0) b);
      second = subst T (sym (founding_listed j).1) (and_right (eqb i 0) (eqb j 0) b);
    }
founding_names definition i j t = absurd (not_owner definition (λ e. not_the_same (cc)) i j t)
founding_names structure i j t = absurd (not_owner structure (λ e. not_the_same (cc)) i j t)
founding_names import i j t = absurd (not_owner import (λ e. not_the_same (cc)) i j t)
founding_names export i j t = absurd (not_owner export (λ e. not_the_same (cc)) i j t)

-- "user 0 owns area 0"
founding_owns : (u a : ℕ) → T (eqb u 0) → T (eqb a 0) → T (owns founding u a)
founding_owns u a hu ha = subst T (sym (founding_owner u a)) (and_both (eqb u 0) (eqb a 0) hu ha)

pub founding_sound : Claims.FoundingSound
founding_sound =
    record {
      shaped = founding_shaped;
      consistent = founding_names;
      acceptable = record {
        users = λ u t. (0, founding_owns u 0 (subst T (founding_listed u).0 t) tt);
        areas = λ a t. (0, founding_owns 0 a tt (subst T (founding_listed a).1 t));
        objects = λ o t. absurd (fails (founding_listed o).2 t);
      };
      some_area = (0, subst T (sym (founding_listed 0).1) tt);
      valid = record {
        imported = λ o a t. absurd (not_owner import (λ e. not_the_same (cc)) o a t);
        exported = λ o a t. absurd (not_owner export (λ e. not_the_same (cc)) o a t);
      };
      has_no_own_import = λ o a t d. not_owner import (λ e. not_the_same (cc)) o a t;
    }

-- an area would have an owner
pub empty_unsound : Laws.EmptyUnsound
empty_unsound = is_false (is_sound empty) none
  where
    none : T (is_sound empty) → ⊥
    none t =
        let sound = (sound_decided empty empty_shaped).0 t in
        let found = sound.some_area in
        let owner-pair = sound.acceptable.areas found.0 found.1 in
        fails (empty_related owner owner-pair.0 found.0) owner-pair.1

-- ---- a sound record is that of its relations
pub record_of_relations : Claims.RecordOfRelations
record_of_relations s t h k e = same_by_names s t h.shaped k.shaped (sound_lists s h) (sound_lists t k) (λ r i j hi hj. e r i j)
