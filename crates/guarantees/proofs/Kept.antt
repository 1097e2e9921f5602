-- An instruction that is accepted in a sound state gives a sound state.
--     Accepted                 what it means that no check is met
--     accepted_sound           the claim, one clause a row
-- Assumes nothing.
use Prim.Native.Nat.{ℕ, ◌<◌}
use mathlib.Core.Path.{◌≡◌, refl, sym, ap, subst, ◌∙◌}
use mathlib.Core.Logic.{◌⊎◌, inl, inr, ⊎_elim}
use mathlib.Core.Bool.{Bool, true, false, ◌&&◌, ◌||◌, not}
use mathlib.Core.List.{List, ◌∷◌, ◌++◌}
use native.Mathlib.Decide.{ℕ_discrete}
use lib.Dec.{T, eqb, ltb}
use borrow.Author.Tests.{eqb-true, eq-eqb, ltb-true}
use Rattle.state.specs.Site.{Kind, user, area, object, limit, listed, with_listed, Relation, owner, definition, structure, import, export, first_kind, related, with_pair, owns, defines, imports, Shaped}
use Rattle.state.specs.Walk.{some_member, some_pair, has_first, has_second}
use Rattle.state.specs.Site.{Site}
use Rattle.state.proofs.Bools.{is_true, holds, fails, and_both, and_left, and_right, not_so, so_not, so, neither, fails_both}
use Rattle.state.proofs.Laws.{listed_same, listed_other, listed_else, list_shaped, unlist_adds_none, unlisted_gone, related_same, related_other, related_else, relate_shaped, add_keeps_pairs, remove_adds_none, removed_gone, others_stay, some_member_lem, some_pair_lem, has_first_lem, has_second_lem, listed_inside}
use Rattle.access.specs.Lending.{lending}
use Rattle.access.specs.Answer.{access}
use Rattle.access.proofs.Laws.{access_is_defined}
use Rattle.soundness.specs.Sound.{Named, DefinedOnce, Valid, Sound}
use Rattle.soundness.specs.Tests.{is_valid, is_sound}
use Rattle.soundness.proofs.Laws.{sound_decided, valid_decided}
use Rattle.instructions.specs.Instructions.{Bytes}
use Rattle.instructions.specs.Decode.{Decoded, fits, misfits}
use Rattle.instructions.specs.declared.Target.TheVariants.{TheArea}
use Rattle.successors.specs.Successor.{without_owner, changed}
use Rattle.state.specs.Checks.{Check, ◌when◌, first_met, met_at}
use Rattle.state.proofs.Checks.{passed}
use Rattle.readings.specs.Readings.{seen_of}
use Rattle.refusals.specs.Refusals.{sole_owner, only_area, other_owner, in_use, early_checks, late_checks, checks_of}
use Rattle.instructions.specs.declared.Rule.{Rule}
use Rattle.guarantees.proofs.Rows.{Row, lists_area, unlists_area, adds_owner, removes_owner, adds_structure, removes_structure}
use Rattle.guarantees.proofs.Rows.{adds_definition, removes_definition, adds_import, removes_import, adds_export, removes_export}
use Rattle.guarantees.proofs.Parts.{different, different_kind, consistent_add, consistent_remove, consistent_list, Unnamed, consistent_unlist, consistent_without, once_same, acceptable_pair, acceptable_more, users_without, areas_without, valid_same, valid_add, own_add, own_remove}

-- ---- truth values of a check that is not met
pub unmet : (p : Bool) → T p → not p ≡ false
unmet p t = ap not (is_true p t)

pub both_unmet : (p q : Bool) → T p → T q → not (p && q) ≡ false
both_unmet p q s t = unmet (p && q) (and_both p q s t)

pub both_so : (p q : Bool) → not (p && q) ≡ false → T p × T q
both_so p q e = let t = so (p && q) e in (and_left p q t, and_right p q t)

none_of_six : (p q r t v w : Bool) → p || q || r || t || v || w ≡ false
    → (p ≡ false) × (q ≡ false) × (r ≡ false) × (t ≡ false) × (v ≡ false) × (w ≡ false)
none_of_six p q r t v w e =
    let e5 = neither (p || q || r || t || v) w e in
    let e4 = neither (p || q || r || t) v e5.0 in
    let e3 = neither (p || q || r) t e4.0 in
    let e2 = neither (p || q) r e3.0 in
    let e1 = neither p q e2.0 in
    (e1.0, e1.1, e2.1, e3.1, e4.1, e5.1)

-- the table of refusals with what the bytes fit as an argument: `refusals s bytes` is
-- `table_of s bytes (decode_of bytes)`
abbrev pub table_of : Site → Bytes → Decoded → List Check
table_of s bytes d = (12 when not (is_sound s)) ∷ (misfits d ++ checks_of s bytes d)

-- the same for bytes that fit an instruction with this row
abbrev pub table : Site → Rule → (u a b : ℕ) → List Check
table s r u a b =
    (12 when not (is_sound s)) ∷ (1 when false) ∷ (2 when false) ∷ (early_checks (seen_of s u a b) r ++ late_checks s r u a b)

-- its number in a sound state: from 3 on
pub from_3 : (s : Site) (r : Rule) (u a b : ℕ) → Sound s
    → first_met (table s r u a b) ≡ first_met (early_checks (seen_of s u a b) r ++ late_checks s r u a b)
from_3 s r u a b h = passed (12 when _) _ (unmet (is_sound s) ((sound_decided s h.shaped).1 h)) ∙ passed (1 when _) _ refl ∙ passed (2 when _) _ refl

-- the numbers are in range, and no condition is met, by its number
pub record Accepted (s : Site) (r : Rule) (u a b : ℕ) : Type 0 where
  pub is_in_range : T (ltb u (limit user) && ltb a (limit area) && fits r.target b)
  pub passes : (n : ℕ) → met_at n (table s r u a b) ≡ false

pub below : (n m : ℕ) → T (ltb n m) → n < m
below n m t = ltb-true n m (is_true (ltb n m) t)

module _ {s : Site} {r : Rule} {u a b : ℕ} (y : Accepted s r u a b) where
  both_below : T (ltb u (limit user) && ltb a (limit area))
  both_below = and_left (ltb u (limit user) && ltb a (limit area)) (fits r.target b) y.is_in_range

  pub user_below : u < limit user
  user_below = below u (limit user) (and_left (ltb u (limit user)) (ltb a (limit area)) both_below)

  pub area_below : a < limit area
  area_below = below a (limit area) (and_right (ltb u (limit user)) (ltb a (limit area)) both_below)

  pub b_fits : T (fits r.target b)
  b_fits = and_right (ltb u (limit user) && ltb a (limit area)) (fits r.target b) y.is_in_range

module _ (s : Site) (h : Sound s) where
  -- a number that is now listed is the new one, or was listed
  now_listed : (k : Kind) (i n : ℕ) → T (listed (with_listed s k i true) k n) → (n ≡ i) ⊎ T (listed s k n)
  now_listed k i n t = go (listed_else s k k i n true)
    where
      go : ((k ≡ k) × (n ≡ i)) ⊎ (listed (with_listed s k i true) k n ≡ listed s k n) → (n ≡ i) ⊎ T (listed s k n)
      go (inl e) = inl e.1
      go (inr e) = inr (subst T e t)

  -- codes 1 and 3: a new owner pair, whose user or area is listed with it
  abbrev owner_more : Kind → (i u a : ℕ) → Site
  owner_more k i u a = with_pair (with_listed s k i true) owner u a true

  owner_add : (k : Kind) (i u a : ℕ) → T (listed (with_listed s k i true) user u) → T (listed (with_listed s k i true) area a)
      → ((v : ℕ) → T (listed (with_listed s k i true) user v) → (v ≡ u) ⊎ T (listed s user v))
      → ((c : ℕ) → T (listed (with_listed s k i true) area c) → (c ≡ a) ⊎ T (listed s area c))
      → ((o : ℕ) → T (listed (owner_more k i u a) object o) → T (listed s object o)) → Sound (owner_more k i u a)
  owner_add k i u a hu ha new-user new-area old =
      record {
        shaped = relate_shaped t owner u a true sh;
        consistent = consistent_add t owner u a (consistent_list s k i h.consistent) (record { first = hu; second = ha });
        acceptable =
            acceptable_more s (owner_more k i u a) u a h.acceptable
            (holds (related_same t owner u a true sh (listed_inside t user u sh hu) (listed_inside t area a sh ha)))
            (λ v c p. add_keeps_pairs t owner owner u a v c p) new-user new-area
            (λ o q. once_same s (owner_more k i u a) o (λ c. refl) (h.acceptable.objects o (old o q)));
        some_area = (a, ha);
        valid = valid_same s (owner_more k i u a) (λ o. refl) h.valid;
        has_no_own_import = h.has_no_own_import;
      }
    where
      t : Site
      t = with_listed s k i true

      sh : Shaped t
      sh = list_shaped s k i true h.shaped

  -- codes 2 and 4: a lost owner pair
  shaped_without : (u a : ℕ) → Shaped (without_owner s u a)
  shaped_without u a = list_shaped (with_pair s owner u a false) user u _ (relate_shaped s owner u a false h.shaped)

  -- code 4 leaves another owner
  other_owner_lem : (u a : ℕ) → sole_owner s u a ≡ false → (v : ℕ) × T (owns (without_owner s u a) v a)
  other_owner_lem u a e =
      let r = (some_pair_lem s.owners (λ v c. not (not (eqb c a) || eqb v u))).0 (so (some_pair s.owners (λ v c. not (not (eqb c a) || eqb v u))) e) in
      let f = fails_both (eqb r.1 a) (eqb r.0 u) r.3 in
      let at : r.1 ≡ a = eqb-true r.1 a (is_true (eqb r.1 a) f.0) in
      (r.0, others_stay s owner owner u a r.0 a false (λ t q n. f.1 (holds (eq-eqb r.0 u q))) (rw at at r.2))

  owner_remove : (u a : ℕ) → sole_owner s u a ≡ false → Sound (without_owner s u a)
  owner_remove u a e =
      record {
        shaped = shaped_without u a;
        consistent = consistent_without s u a h.consistent;
        acceptable =
            record {
              users = users_without s u a h.shaped h.consistent h.acceptable;
              areas = λ c t. go c t (ℕ_discrete c a);
              objects = λ o t. once_same s (without_owner s u a) o (λ c. refl) (h.acceptable.objects o t);
            };
        some_area = h.some_area;
        valid = valid_same s (without_owner s u a) (λ o. refl) h.valid;
        has_no_own_import = h.has_no_own_import;
      }
    where
      go : (c : ℕ) → T (listed s area c) → Dec (c ≡ a) → (v : ℕ) × T (owns (without_owner s u a) v c)
      go c t (yes q) = rw q (other_owner_lem u a e)
      go c t (no ne) = areas_without s u a h.shaped h.consistent h.acceptable c ne t

  -- code 2: the area that is unlisted is named by no pair
  abbrev area_less : (u a : ℕ) → Site
  area_less u a = with_listed (without_owner s u a) area a false

  module _ (u a : ℕ) (e : in_use s TheArea u a ≡ false) where
    -- in the order of refusal 9
    unused : (other_owner s u a ≡ false) × (has_second s.definitions a ≡ false) × (has_first s.structure a ≡ false) × (has_second s.structure a ≡ false)
        × (has_second s.imports a ≡ false) × (has_second s.exports a ≡ false)
    unused =
        none_of_six (other_owner s u a) (has_second s.definitions a) (has_first s.structure a) (has_second s.structure a) (has_second s.imports a)
        (has_second s.exports a) e

    no_owner : (v : ℕ) → T (owns (without_owner s u a) v a) → ⊥
    no_owner v t = go (ℕ_discrete v u)
      where
        go : Dec (v ≡ u) → ⊥
        go (yes q) = removed_gone s owner u a h.shaped (rw q at t)
        go (no ne) =
            fails unused.0
            ((some_pair_lem s.owners (λ w c. eqb c a && not (eqb w u))).1
            (v, a, remove_adds_none s owner owner u a v a t, and_both (eqb a a) (not (eqb v u)) (holds (eq-eqb a a refl)) (so_not (eqb v u) (λ q. ne (eqb-true v u (is_true (eqb v u) q))))))

    first_named : (t : Relation) (n : ℕ) → first_kind t ≡ area → T (related (without_owner s u a) t a n) → ⊥
    first_named owner n k p = different_kind user area tt k
    first_named definition n k p = different_kind object area tt k
    first_named structure n k p = fails unused.2 ((has_first_lem s.structure a).1 (n, p))
    first_named import n k p = different_kind object area tt k
    first_named export n k p = different_kind object area tt k

    second_named : (t : Relation) (m : ℕ) → T (related (without_owner s u a) t m a) → ⊥
    second_named owner m p = no_owner m p
    second_named definition m p = fails unused.1 ((has_second_lem s.definitions a).1 (m, p))
    second_named structure m p = fails unused.3 ((has_second_lem s.structure a).1 (m, p))
    second_named import m p = fails unused.4 ((has_second_lem s.imports a).1 (m, p))
    second_named export m p = fails unused.5 ((has_second_lem s.exports a).1 (m, p))

    area_unnamed : Unnamed (without_owner s u a) area a
    area_unnamed = record { not_first = first_named; not_second = λ t m k p. second_named t m p }

  -- and it is not the only one
  other_area : (u a : ℕ) → only_area s a ≡ false → (c : ℕ) × T (listed (area_less u a) area c)
  other_area u a e =
      let r = (some_member_lem s.areas (λ c. not (eqb c a))).0 (so (some_member s.areas (λ c. not (eqb c a))) e) in
      let ne : r.0 ≡ a → ⊥ = λ q. not_so (eqb r.0 a) r.2 (holds (eq-eqb r.0 a q)) in
      (r.0, subst T (sym (listed_other (without_owner s u a) area a r.0 false ne)) r.1)

  area_remove : (u a : ℕ) → only_area s a ≡ false → in_use s TheArea u a ≡ false → Sound (area_less u a)
  area_remove u a more e =
      record {
        shaped = list_shaped (without_owner s u a) area a false (shaped_without u a);
        consistent = consistent_unlist (without_owner s u a) area a false (consistent_without s u a h.consistent) (area_unnamed u a e);
        acceptable =
            record {
              users = users_without s u a h.shaped h.consistent h.acceptable;
              areas = λ c t. go c t (ℕ_discrete c a);
              objects = λ o t. once_same s (area_less u a) o (λ c. refl) (h.acceptable.objects o t);
            };
        some_area = other_area u a more;
        valid = valid_same s (area_less u a) (λ o. refl) h.valid;
        has_no_own_import = h.has_no_own_import;
      }
    where
      go : (c : ℕ) → T (listed (area_less u a) area c) → Dec (c ≡ a) → (v : ℕ) × T (owns (area_less u a) v c)
      go c t (yes q) = absurd (unlisted_gone (without_owner s u a) area a (shaped_without u a) (rw q at t))
      go c t (no ne) =
          areas_without s u a h.shaped h.consistent h.acceptable c ne (unlist_adds_none (without_owner s u a) area area a c t)

  -- code 7: a new object, defined in one area
  abbrev object_more : (a b : ℕ) → Site
  object_more a b = with_pair (with_listed s object b true) definition b a true

  object_add : (a b : ℕ) → b < limit object → T (listed s area a) → listed s object b ≡ false → Sound (object_more a b)
  object_add a b hb ha new =
      record {
        shaped = relate_shaped t definition b a true sh;
        consistent = consistent_add t definition b a (consistent_list s object b h.consistent) (record { first = here; second = ha });
        acceptable = record { users = h.acceptable.users; areas = h.acceptable.areas; objects = λ o q. once o q (ℕ_discrete o b) };
        some_area = h.some_area;
        valid = valid_add t definition b a (λ e. absurd (no_entry e)) (valid_same s t (λ o. refl) h.valid);
        has_no_own_import = own_add t definition b a (λ e. absurd (no_entry (inl e))) (λ e p. not_imported p) h.has_no_own_import;
      }
    where
      t : Site
      t = with_listed s object b true

      sh : Shaped t
      sh = list_shaped s object b true h.shaped

      here : T (listed t object b)
      here = holds (listed_same s object b true h.shaped hb)

      no_entry : (import ≡ definition) ⊎ (export ≡ definition) → ⊥
      no_entry (inl e) = different import definition tt e
      no_entry (inr e) = different export definition tt e

      -- an import would have named the object
      not_imported : T (imports s b a) → ⊥
      not_imported p = fails new (h.consistent import b a p).first

      only : (c : ℕ) → T (defines (object_more a b) b c) → ((definition ≡ definition) × (b ≡ b) × (c ≡ a)) ⊎ (defines (object_more a b) b c ≡ defines s b c) → c ≡ a
      only c p (inl e) = e.2
      only c p (inr e) = absurd (fails new (h.consistent definition b c (subst T e p)).first)

      before : (o : ℕ) → (o ≡ b → ⊥) → (o ≡ b) ⊎ T (listed s object o) → T (listed s object o)
      before o ne (inl e) = absurd (ne e)
      before o ne (inr q) = q

      once : (o : ℕ) → T (listed t object o) → Dec (o ≡ b) → DefinedOnce (object_more a b) o
      once o q (yes e) =
          rw e
          (record {
            place = a;
            defined = holds (related_same t definition b a true sh hb (listed_inside s area a h.shaped ha));
            only = λ c p. only c p (related_else t definition definition b a b c true);
          })
      once o q (no ne) =
          once_same s (object_more a b) o (λ c. related_other t definition b a o c true (λ e q. ne e))
          (h.acceptable.objects o (before o ne (now_listed object b o q)))

  -- code 8: an object is no longer defined, and no entry of it is left
  abbrev object_less : (a b : ℕ) → Site
  object_less a b = with_pair (with_listed s object b false) definition b a false

  object_remove : (a b : ℕ) → T (defines s b a) → Valid (object_less a b) → Sound (object_less a b)
  object_remove a b p v =
      record {
        shaped = list_shaped t object b false sh;
        consistent =
            consistent_unlist t object b false (consistent_remove s definition b a h.consistent)
            (record { not_first = named; not_second = λ r m k q. different_kind area object tt k });
        acceptable = record { users = h.acceptable.users; areas = h.acceptable.areas; objects = λ o q. once o q (ℕ_discrete o b) };
        some_area = h.some_area;
        valid = v;
        has_no_own_import = own_remove s definition b a h.has_no_own_import;
      }
    where
      t : Site
      t = with_pair s definition b a false

      sh : Shaped t
      sh = relate_shaped s definition b a false h.shaped

      d : DefinedOnce s b
      d = h.acceptable.objects b (h.consistent definition b a p).first

      undefined : (c : ℕ) → T (defines t b c) → ⊥
      undefined c q =
          let here : c ≡ a = d.only c (remove_adds_none s definition definition b a b c q) ∙ sym (d.only a p) in
          removed_gone s definition b a h.shaped (rw here at q)

      unreached : (c : ℕ) → T (access (lending t b) c) → ⊥
      unreached c q = let w = access_is_defined (lending t b) c q in undefined w.0 w.2

      named : (r : Relation) (n : ℕ) → first_kind r ≡ object → T (related t r b n) → ⊥
      named owner n k q = different_kind user object tt k
      named definition n k q = undefined n q
      named structure n k q = different_kind area object tt k
      named import n k q = unreached n (v.imported b n q)
      named export n k q = unreached n (v.exported b n q)

      once : (o : ℕ) → T (listed (object_less a b) object o) → Dec (o ≡ b) → DefinedOnce (object_less a b) o
      once o q (yes e) = absurd (unlisted_gone s object b h.shaped (rw e at q))
      once o q (no ne) =
          once_same s (object_less a b) o (λ c. related_other s definition b a o c false (λ e q. ne e))
          (h.acceptable.objects o (unlist_adds_none s object object b o q))

  -- codes 5, 9, 11, and 6, 10, 12: a pair that is neither an owner nor a definition pair
  module _ (r : Relation) (no_owner : owner ≡ r → ⊥) (no-definition : definition ≡ r → ⊥) (i j : ℕ) where
    some_area_pair : (v : Bool) → (c : ℕ) × T (listed (with_pair s r i j v) area c)
    some_area_pair v = (h.some_area.0, h.some_area.1)

    pair_add : Named s r i j → ((import ≡ r) ⊎ (export ≡ r) → T (access (lending (with_pair s r i j true) i) j)) → (import ≡ r → T (defines s i j) → ⊥)
        → Sound (with_pair s r i j true)
    pair_add names entry not_own =
        record {
          shaped = relate_shaped s r i j true h.shaped;
          consistent = consistent_add s r i j h.consistent names;
          acceptable = acceptable_pair s r i j true no_owner no-definition h.acceptable;
          some_area = some_area_pair true;
          valid = valid_add s r i j entry h.valid;
          has_no_own_import = own_add s r i j not_own (λ e. absurd (no-definition e)) h.has_no_own_import;
        }

    pair_remove : Valid (with_pair s r i j false) → Sound (with_pair s r i j false)
    pair_remove v =
        record {
          shaped = relate_shaped s r i j false h.shaped;
          consistent = consistent_remove s r i j h.consistent;
          acceptable = acceptable_pair s r i j false no_owner no-definition h.acceptable;
          some_area = some_area_pair false;
          valid = v;
          has_no_own_import = own_remove s r i j h.has_no_own_import;
        }

  -- codes 9 and 11: an entry of object b, whose area a has access and, to import it, does not define it
  entry_add : (r : Relation) → (owner ≡ r → ⊥) → (definition ≡ r → ⊥) → first_kind r ≡ object → (a b : ℕ)
      → not (listed s area a && listed s object b) ≡ false → not (access (lending (with_pair s r b a true) b) a) ≡ false
      → (import ≡ r → T (defines s b a) → ⊥) → Sound (with_pair s r b a true)
  entry_add r no_owner no-definition kind a b names reaches not_own =
      let n = both_so (listed s area a) (listed s object b) names in
      pair_add r no_owner no-definition b a (record { first = subst (λ (k : Kind). T (listed s k b)) (sym kind) n.1; second = n.0 })
      (λ e. so (access (lending (with_pair s r b a true) b) a) reaches) not_own

  -- codes 6, 10 and 12: a pair whose loss leaves the state valid
  valid_cut : (r : Relation) → (owner ≡ r → ⊥) → (definition ≡ r → ⊥) → (i j : ℕ) → not (is_valid (with_pair s r i j false)) ≡ false → Sound (with_pair s r i j false)
  valid_cut r no_owner no-definition i j valid =
      pair_remove r no_owner no-definition i j ((valid_decided (with_pair s r i j false)).0 (so (is_valid (with_pair s r i j false)) valid))

  -- ---- the twelve
  pub accepted_sound : {r : Rule} → Row r → (u a b : ℕ) → Accepted s r u a b → Sound (changed s r.target r.adds u a b)
  accepted_sound lists_area u a b y =
      let ha = holds (listed_same s area a true h.shaped (area_below y)) in
      owner_add area a u a (so (listed s user u) (y.passes 3)) ha (λ v t. inr t) (λ c t. now_listed area a c t) (λ o t. t)
  accepted_sound unlists_area u a b y = area_remove u a (y.passes 8) (y.passes 9)
  accepted_sound adds_owner u a b y =
      let hb = holds (listed_same s user b true h.shaped (below b (limit user) (b_fits y))) in
      owner_add user b b a hb (so (listed s area a) (y.passes 4)) (λ v t. now_listed user b v t) (λ c t. inr t) (λ o t. t)
  accepted_sound removes_owner u a b y = owner_remove b a (y.passes 8)
  accepted_sound adds_structure u a b y =
      let n = both_so (listed s area a) (listed s area b) (y.passes 4) in
      pair_add structure (different owner structure tt) (different definition structure tt) a b (record { first = n.0; second = n.1 })
      (λ e. ⊎_elim (λ q. absurd (different import structure tt q)) (λ q. absurd (different export structure tt q)) e)
      (λ e. absurd (different import structure tt e))
  accepted_sound removes_structure u a b y = valid_cut structure (different owner structure tt) (different definition structure tt) a b (y.passes 11)
  accepted_sound adds_definition u a b y =
      object_add a b (below b (limit object) (b_fits y)) (so (listed s area a) (y.passes 4)) (y.passes 6)
  accepted_sound removes_definition u a b y =
      object_remove a b (so (defines s b a) (y.passes 7)) ((valid_decided (object_less a b)).0 (so (is_valid (object_less a b)) (y.passes 11)))
  accepted_sound adds_import u a b y = entry_add import (different owner import tt) (different definition import tt) refl a b (y.passes 4) (y.passes 10)
      (λ e. fails (y.passes 15))
  accepted_sound removes_import u a b y = valid_cut import (different owner import tt) (different definition import tt) b a (y.passes 11)
  accepted_sound adds_export u a b y = entry_add export (different owner export tt) (different definition export tt) refl a b (y.passes 4) (y.passes 10)
      (λ e. absurd (different import export tt e))
  accepted_sound removes_export u a b y = valid_cut export (different owner export tt) (different definition export tt) b a (y.passes 11)
