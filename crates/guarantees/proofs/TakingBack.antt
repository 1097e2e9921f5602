-- Taking back. The state that the matching remove would give is the earlier one (`back`), so the checks 8 to 11, which
-- are of the state that a remove would give, are of the earlier state, which is sound. What the checks 3 to 7 ask is
-- there: what the add has written, and what the add's own checks have found.
-- Assumes nothing.
use Prim.Native.Nat.{ℕ, suc, ◌<◌}
use mathlib.Core.Path.{◌≡◌, refl, sym, ap, subst, ◌∙◌}
use mathlib.Core.Logic.{◌⊎◌, inl, inr}
use mathlib.Core.Bool.{Bool, true, false, ◌&&◌, ◌||◌, not}
use mathlib.Core.List.{List, [], ◌∷◌}
use lib.Dec.{T, eqb, ltb}
use borrow.Author.Tests.{eqb-true}
use Rattle.std.proofs.Common.{Some, Ok}
use Rattle.state.specs.Site.{Site, Kind, user, area, object, limit, listed, with_listed, members, Shaped}
use Rattle.state.specs.Site.{Relation, owner, definition, structure, import, export}
use Rattle.state.specs.Site.{first_kind, cells, related, with_pair, owns}
use Rattle.state.specs.Checks.{◌when◌, first_met}
use Rattle.state.specs.Walk.{has_first, has_second}
use Rattle.state.proofs.Bools.{is_true, is_false, holds, fails, so, or_left, or_cases, implies}
use Rattle.state.proofs.Bools.{same_test}
use Rattle.state.proofs.Checks.{passed, none_met}
use Rattle.state.proofs.Laws.{listed_same, list_shaped, list_keeps_listed, list_back, list_as_is}
use Rattle.state.proofs.Laws.{related_same, relate_back, add_keeps_pairs, has_first_lem, has_second_lem}
use Rattle.soundness.specs.Sound.{Sound}
use Rattle.soundness.specs.Tests.{some_listed, is_valid}
use Rattle.soundness.proofs.Names.{sound_lists}
use Rattle.soundness.proofs.Laws.{some_decided, valid_decided}
use Rattle.readings.specs.Readings.{seen_of, names_area}
use Rattle.instructions.specs.Instructions.{Bytes, rule, removing, instruction_of}
use Rattle.instructions.specs.declared.Instruction.{Instruction}
use Rattle.instructions.specs.declared.Instruction.TheVariants.{ListArea, UnlistArea, AddOwner, RemoveOwner}
use Rattle.instructions.specs.declared.Instruction.TheVariants.{AddStructure, RemoveStructure, Define}
use Rattle.instructions.specs.declared.Instruction.TheVariants.{RemoveDefinition, AddImport, RemoveImport}
use Rattle.instructions.specs.declared.Instruction.TheVariants.{AddExport, RemoveExport}
use Rattle.instructions.specs.declared.Target.TheVariants.{TheArea, Owner, Definition, Structure, Import, Export}
use Rattle.instructions.specs.declared.Lookup.TheVariants.{OnlyA, Both}
use Rattle.instructions.specs.declared.MustOwn.TheVariants.{OwnsA, OwnsToCut}
use Rattle.instructions.specs.Decode.{fits, decode_of}
use Rattle.instructions.proofs.Laws.{fits_exactly}
use Rattle.instructions.specs.declared.Rule.{Rule}
use Rattle.instructions.specs.declared.Target.{Target}
use Rattle.instructions.specs.declared.Lookup.{Lookup}
use Rattle.instructions.specs.declared.MustOwn.{MustOwn}
use Rattle.successors.specs.Successor.{keeps_listed, unlist_idle, changed}
use Rattle.refusals.specs.Refusals.{missing, entitled, absent}
use Rattle.refusals.specs.Parts.{none_left, still_named, cuts_access, result_checks}
use Rattle.refusals.proofs.Late.{valid_cuts_none, late_by_result}
use Rattle.machine.specs.Step.{step_of}
use Rattle.guarantees.specs.TakingBack
use Rattle.guarantees.specs.TakingBack.{matching_remove, TakenBack, Opposite, unlist_area, remove_owner, remove_structure}
use Rattle.guarantees.specs.TakingBack.{remove_definition, remove_import, remove_export}
use Rattle.guarantees.proofs.Kept.{unmet, both_unmet, both_so, table, from_3, Accepted}
use Rattle.guarantees.proofs.Kept.{below, user_below, area_below, b_fits}
use Rattle.guarantees.proofs.Rows.{by_code}
use Rattle.guarantees.proofs.Demand3.{obeyed_as, by_table, step_sound}

-- ---- what is added and removed again
number_back : (s : Site) (k : Kind) (i : ℕ) → listed s k i ≡ false → with_listed (with_listed s k i true) k i false ≡ s
number_back s k i new = ap (with_listed (with_listed s k i true) k i) (sym new) ∙ list_back s k i true

pair_back : (s : Site) (r : Relation) (i j : ℕ) → related s r i j ≡ false → with_pair (with_pair s r i j true) r i j false ≡ s
pair_back s r i j new = ap (with_pair (with_pair s r i j true) r i j) (sym new) ∙ relate_back s r i j true

-- a new pair is there
pair_there : (s : Site) (r : Relation) (i j : ℕ) → Shaped s → i < limit (first_kind r) → j < limit area
    → not (related (with_pair s r i j true) r i j) ≡ false
pair_there s r i j shaped hi hj = ap not (related_same s r i j true shaped hi hj)

-- a listed user stays listed where he owns an area
stays : (t : Site) (u : ℕ) (v : Bool) → T (listed t user u) → has_first (cells t owner) u ≡ v → keeps_listed t u ≡ v
stays t u v here owning = ap (λ (w : Bool). w && has_first (cells t owner) u) (is_true (listed t user u) here) ∙ owning

-- ---- the remove
-- What the checks of the remove y ask, by their numbers: 3 to 7 of state t, which the add has given; 8 and 9 of
-- state s. And the state that the remove gives is s.
record Removable (s t : Site) (x : Target) (l : Lookup) (m : MustOwn) (y : Bytes) : Type 0 where
  unmet_3 : not (listed t user y.activator) ≡ false
  unmet_4 : missing (seen_of t y.activator y.a y.b) x l ≡ false
  unmet_5 : not (entitled (seen_of t y.activator y.a y.b) m) ≡ false
  unmet_7 : absent (seen_of t y.activator y.a y.b) x ≡ false
  unmet_8 : none_left s x y.a ≡ false
  unmet_9 : still_named s x y.a ≡ false
  back : changed t x false y.activator y.a y.b ≡ s

module _ (s t : Site) (h : Sound s) (k : Sound t) (x : Target) (l : Lookup) (m : MustOwn) (y : Bytes)
    (c : Removable s t x l m y) where
  -- s is valid
  unmet_11 : cuts_access s x y.b ≡ false
  unmet_11 = valid_cuts_none s x y.b (is_true (is_valid s) ((valid_decided s).1 h.valid))

  remove_passed : first_met (table t (removing x l m) y.activator y.a y.b) ≡ 0
  remove_passed =
      from_3 t (removing x l m) y.activator y.a y.b k
      ∙ passed (3 when _) _ c.unmet_3
      ∙ passed (4 when _) _ c.unmet_4
      ∙ passed (5 when _) _ c.unmet_5
      ∙ passed (6 when _) _ refl
      ∙ passed (7 when _) _ c.unmet_7
      ∙ passed (15 when _) _ refl
      ∙ ap first_met (late_by_result t k (removing x l m) y.activator y.a y.b)
      ∙ ap (λ (r : Site). first_met (result_checks r x false y.a y.b)) c.back
      ∙ passed (8 when _) _ c.unmet_8
      ∙ passed (9 when _) _ c.unmet_9
      ∙ passed (10 when _) _ refl
      ∙ passed (11 when _) _ unmet_11
      ∙ none_met

-- ---- what a sound state says
module _ (s : Site) (h : Sound s) where
  -- a user is listed exactly where he owns an area
  owner_listed : (v : ℕ) → has_first (cells s owner) v ≡ listed s user v
  owner_listed v =
      same_test (has_first (cells s owner) v) (listed s user v)
      (λ t. (sound_lists s h user v).1 ((has_first_lem (cells s owner) v).0 t))
      (λ t. (has_first_lem (cells s owner) v).1 ((sound_lists s h user v).0 t))

  -- a number that is not listed stands in no pair
  not_first : (r : Relation) (i j : ℕ) → listed s (first_kind r) i ≡ false → related s r i j ≡ false
  not_first r i j new = is_false (related s r i j) (λ p. fails new (h.consistent r i j p).first)

  not_second : (r : Relation) (i j : ℕ) → listed s area j ≡ false → related s r i j ≡ false
  not_second r i j new = is_false (related s r i j) (λ p. fails new (h.consistent r i j p).second)

  unnamed : (a : ℕ) → listed s area a ≡ false → names_area s a ≡ false
  unnamed a new = rw (outer owner, outer definition, inner, outer structure, outer import, outer export) refl
    where
      outer : (r : Relation) → has_second (cells s r) a ≡ false
      outer r =
          is_false (has_second (cells s r) a)
          (λ t. let o = (has_second_lem (cells s r) a).0 t in fails (not_second r o.0 a new) o.1)

      inner : has_first (cells s structure) a ≡ false
      inner =
          is_false (has_first (cells s structure) a)
          (λ t. let o = (has_first_lem (cells s structure) a).0 t in fails (not_first structure a o.0 new) o.1)

-- ---- what the adds leave to their removes
-- The add is x, in state s, with numbers u, a and b; its remove is y.
module _ (s : Site) (h : Sound s) (x : Bytes) (remove : ℕ) where
  abbrev u : ℕ
  u = x.activator

  abbrev a : ℕ
  a = x.a

  abbrev b : ℕ
  b = x.b

  abbrev y : Bytes
  y = matching_remove remove x

  area_removable : Accepted s (rule ListArea) u a b → Removable s (changed s TheArea true u a b) TheArea OnlyA OwnsA y
  area_removable c =
      record {
        unmet_3 = c.passes 3;
        unmet_4 = ap not (listed_same s area a true h.shaped (area_below c));
        unmet_5 = pair_there t owner u a (list_shaped s area a true h.shaped) (user_below c) (area_below c);
        unmet_7 = refl;
        unmet_8 = unmet (some_listed (members s area)) ((some_decided (members s area)).1 h.some_area);
        unmet_9 = unnamed s h a (c.passes 6);
        back =
            ap (λ (z : Site). with_listed (unlist_idle z u) area a false)
            (pair_back t owner u a (not_second s h owner u a (c.passes 6)))
            ∙ ap (λ (z : Site). with_listed z area a false) idle
            ∙ number_back s area a (c.passes 6);
      }
    where
      t : Site
      t = with_listed s area a true

      -- the activator stays listed: he owns another area
      idle : unlist_idle t u ≡ t
      idle =
          ap (with_listed t user u) (stays t u (listed s user u) (so (listed s user u) (c.passes 3)) (owner_listed s h u))
          ∙ list_as_is t user u

  owner_removable : Accepted s (rule AddOwner) u a b → Removable s (changed s Owner true u a b) Owner Both OwnsA y
  owner_removable c =
      record {
        unmet_3 = unmet (listed t user u) (list_keeps_listed s user user b u (so (listed s user u) (c.passes 3)));
        unmet_4 = both_unmet (listed s area a) (listed t user b) (so (listed s area a) (c.passes 4)) (holds here);
        unmet_5 = unmet (owns (with_pair t owner b a true) u a) (add_keeps_pairs t owner owner b a u a owned);
        unmet_7 = pair_there t owner b a (list_shaped s user b true h.shaped) inside (area_below c);
        unmet_8 = unmet (has_second (cells s owner) a) ((has_second_lem (cells s owner) a).1 (u, owned));
        unmet_9 = refl;
        back = ap (λ (z : Site). unlist_idle z b) (pair_back t owner b a (c.passes 6)) ∙ idle;
      }
    where
      t : Site
      t = with_listed s user b true

      inside : b < limit user
      inside = below b (limit user) (b_fits c)

      here : listed t user b ≡ true
      here = listed_same s user b true h.shaped inside

      owned : T (owns s u a)
      owned = so (owns s u a) (c.passes 5)

      -- user b is listed as he was: he owns the areas that he owned
      idle : unlist_idle t b ≡ s
      idle =
          ap (with_listed t user b) (stays t b (listed s user b) (holds here) (owner_listed s h b))
          ∙ list_back s user b true

  structure_removable : Accepted s (rule AddStructure) u a b
      → Removable s (changed s Structure true u a b) Structure Both OwnsToCut y
  structure_removable c =
      record {
        unmet_3 = c.passes 3;
        unmet_4 = c.passes 4;
        unmet_5 = unmet (owns s u a || owns s u b) (or_left (owns s u a) (owns s u b) owned);
        unmet_7 = pair_there s structure a b h.shaped (area_below c) (below b (limit area) (b_fits c));
        unmet_8 = refl;
        unmet_9 = refl;
        back = pair_back s structure a b (c.passes 6);
      }
    where
      owned : T (owns s u a)
      owned = (both_so (owns s u a) (owns s u b) (c.passes 5)).0

  definition_removable : Accepted s (rule Define) u a b
      → Removable s (changed s Definition true u a b) Definition Both OwnsA y
  definition_removable c =
      record {
        unmet_3 = c.passes 3;
        unmet_4 = both_unmet (listed s area a) (listed t object b) (so (listed s area a) (c.passes 4)) (holds here);
        unmet_5 = c.passes 5;
        unmet_7 = pair_there t definition b a (list_shaped s object b true h.shaped) inside (area_below c);
        unmet_8 = refl;
        unmet_9 = refl;
        back =
            ap (λ (z : Site). with_listed z object b false)
            (pair_back t definition b a (not_first s h definition b a (c.passes 6)))
            ∙ number_back s object b (c.passes 6);
      }
    where
      t : Site
      t = with_listed s object b true

      inside : b < limit object
      inside = below b (limit object) (b_fits c)

      here : listed t object b ≡ true
      here = listed_same s object b true h.shaped inside

  import_removable : Accepted s (rule AddImport) u a b → Removable s (changed s Import true u a b) Import Both OwnsA y
  import_removable c =
      record {
        unmet_3 = c.passes 3;
        unmet_4 = c.passes 4;
        unmet_5 = c.passes 5;
        unmet_7 = pair_there s import b a h.shaped (below b (limit object) (b_fits c)) (area_below c);
        unmet_8 = refl;
        unmet_9 = refl;
        back = pair_back s import b a (c.passes 6);
      }

  export_removable : Accepted s (rule AddExport) u a b → Removable s (changed s Export true u a b) Export Both OwnsA y
  export_removable c =
      record {
        unmet_3 = c.passes 3;
        unmet_4 = c.passes 4;
        unmet_5 = c.passes 5;
        unmet_7 = pair_there s export b a h.shaped (below b (limit object) (b_fits c)) (area_below c);
        unmet_8 = refl;
        unmet_9 = refl;
        back = pair_back s export b a (c.passes 6);
      }

  -- ---- the two steps
  -- the codes pick k, which adds, and l, which removes the same
  undone : (k l : Instruction) → instruction_of x.code ≡ Some k → instruction_of remove ≡ Some l
      → (rule k).adds ≡ true → rule l ≡ removing (rule k).target (rule l).lookup (rule l).ownership
      → (Accepted s (rule k) u a b
      → Removable s (changed s (rule k).target true u a b) (rule k).target (rule l).lookup (rule l).ownership y)
      → (step_of s x).refusal ≡ 0 → TakenBack s x y
  undone k l picks takes adds removes leaves e =
      record {
        accepted = ap (λ (z : Site). (step_of z y).refusal) next ∙ number;
        earlier =
            ap (λ (z : Site). (step_of z y).state) next
            ∙ (obeyed_as t y l takes number).1
            ∙ ap (λ (r : Rule). changed t r.target r.adds y.activator y.a y.b) removes
            ∙ removable.back;
      }
    where
      t : Site
      t = changed s (rule k).target true u a b

      obeyed : Accepted s (rule k) u a b × ((step_of s x).state ≡ changed s (rule k).target (rule k).adds u a b)
      obeyed = obeyed_as s x k picks e

      next : (step_of s x).state ≡ t
      next = obeyed.1 ∙ ap (λ (v : Bool). changed s (rule k).target v u a b) adds

      removable : Removable s t (rule k).target (rule l).lookup (rule l).ownership y
      removable = leaves obeyed.0

      fitting : decode_of y ≡ Ok l
      fitting =
          let same = ap (λ (r : Rule). ltb u (limit user) && ltb a (limit area) && fits r.target b) (sym removes) in
          (fits_exactly y l).1 (record { picked = takes; is_in_range = subst T same obeyed.0.is_in_range })

      number : (step_of t y).refusal ≡ 0
      number =
          by_table t y (Ok l) fitting
          ∙ ap (λ (r : Rule). first_met (table t r y.activator y.a y.b)) removes
          ∙ remove_passed s t h (subst Sound next (step_sound s x h)) (rule k).target (rule l).lookup
          (rule l).ownership y removable

taken_back : (s : Site) → Sound s → (x : Bytes) {code remove : ℕ} → Opposite code remove → x.code ≡ code
    → (step_of s x).refusal ≡ 0 → TakenBack s x (matching_remove remove x)
taken_back s h x unlist_area e =
    undone s h x _ ListArea UnlistArea (ap instruction_of e) refl refl refl (area_removable s h x _)
taken_back s h x remove_owner e =
    undone s h x _ AddOwner RemoveOwner (ap instruction_of e) refl refl refl (owner_removable s h x _)
taken_back s h x remove_structure e =
    undone s h x _ AddStructure RemoveStructure (ap instruction_of e) refl refl refl (structure_removable s h x _)
taken_back s h x remove_definition e =
    undone s h x _ Define RemoveDefinition (ap instruction_of e) refl refl refl (definition_removable s h x _)
taken_back s h x remove_import e =
    undone s h x _ AddImport RemoveImport (ap instruction_of e) refl refl refl (import_removable s h x _)
taken_back s h x remove_export e =
    undone s h x _ AddExport RemoveExport (ap instruction_of e) refl refl refl (export_removable s h x _)

pub taking_back : TakingBack.TakingBack
taking_back s h x remove opposite e = taken_back s h x opposite refl e

-- ---- every add
-- the adds, each with its remove
abbrev Match : Type 0
Match = (add : ℕ) × Opposite add (suc add)

abbrev matches : List Match
matches =
    (1, unlist_area)
    ∷ (3, remove_owner)
    ∷ (5, remove_structure)
    ∷ (7, remove_definition)
    ∷ (9, remove_import)
    ∷ (11, remove_export)
    ∷ []

abbrev matched : List Match → ℕ → Bool
matched [] code = false
matched (o ∷ rest) code = eqb code o.0 || matched rest code

find : (l : List Match) (code : ℕ) → T (matched l code) → Opposite code (suc code)
find [] code t = absurd t
find (o ∷ rest) code t = go (find rest code) (or_cases (eqb code o.0) (matched rest code) t)
  where
    go : (T (matched rest code) → Opposite code (suc code)) → T (eqb code o.0) ⊎ T (matched rest code)
        → Opposite code (suc code)
    go later (inl e) =
        let same = eqb-true code o.0 (is_true (eqb code o.0) e) in
        subst (λ (k : ℕ). Opposite k (suc k)) (sym same) o.1
    go later (inr q) = later q

pub every_add : TakingBack.EveryAdd
every_add add x picks adds =
    find matches add
    (implies (rule x).adds (matched matches add)
    (by_code (λ k y. not (rule y).adds || matched matches k) tt add x picks) (holds adds))
