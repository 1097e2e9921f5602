-- The checks 8 to 11 of an instruction, read off the state that it would give: no area or owner is left, some pair
-- still names the area.
-- Assumes nothing.
use Prim.Native.Nat.{ℕ, ◌<◌}
use mathlib.Core.Path.{◌≡◌, refl, sym, ap, subst}
use mathlib.Core.Logic.{◌⊎◌, inl, inr, ◌↔◌}
use mathlib.Core.Bool.{Bool, true, false, ◌&&◌, ◌||◌, not}
use mathlib.Core.List.{List, [], ◌∷◌, ◌++◌}
use lib.Dec.{T, eqb}
use native.Mathlib.Decide.{ℕ_discrete}
use borrow.Author.Tests.{eqb-true, eq-eqb}
use Rattle.state.specs.Site.{user, area, object, limit, Relation, owner, definition, import, export, first_kind}
use Rattle.state.specs.Site.{listed, with_listed, with_pair, owns, imports, exports, Shaped}
use Rattle.state.specs.Walk.{some_member, some_pair, has_first, has_second}
use Rattle.state.specs.Site.{Site}
use Rattle.state.proofs.Bools.{is_true, holds, or_left, or_right, or_cases, and_both, and_left, and_right, not_so, so_not, same_test, implied, implies, fails_both}
use Rattle.state.proofs.Below.{each_at, each_by}
use Rattle.state.proofs.Laws.{listed_other, unlist_adds_none, unlisted_gone, list_shaped, relate_shaped, remove_adds_none, removed_gone, others_stay, some_member_lem, some_pair_lem, has_second_lem, pair_area}
use Rattle.access.specs.Lending.{Lending, lending}
use Rattle.access.specs.Answer.{access}
use Rattle.access.proofs.Laws.{other_pairs}
use Rattle.soundness.specs.Sound.{Valid, Sound}
use Rattle.soundness.specs.Tests.{some_listed, is_valid}
use Rattle.soundness.proofs.Laws.{some_decided, valid_decided}
use Rattle.validity.specs.Parts.{valid_for}
use Rattle.successors.specs.Successor.{without_owner, changed}
use Rattle.state.specs.Checks.{Check, ◌when◌}
use Rattle.readings.specs.Readings.{seen_of}
use Rattle.refusals.specs.Refusals.{sole_owner, only_area, other_owner, early_checks, late_checks, instruction_checks}
use Rattle.refusals.specs.Claims
use Rattle.refusals.specs.Parts.{cuts_access, result_checks, found_checks}
use Rattle.instructions.specs.Instructions.{rule}
use Rattle.instructions.specs.declared.Instruction.{Instruction}
use Rattle.instructions.specs.declared.Rule.{Rule}
use Rattle.instructions.specs.declared.Lookup.TheVariants.{NoLookup}
use Rattle.instructions.specs.declared.MustOwn.TheVariants.{OwnsNothing}
use Rattle.instructions.specs.declared.Target.{Target}
use Rattle.instructions.specs.declared.Target.TheVariants.{TheArea, Owner, Definition, Structure, Import, Export}

-- a row with this target, of an add (true) or a remove; what else it says is not read by the checks 8 to 11
adding_or_not : Target → Bool → Rule
adding_or_not k v = record { adds = v; target = k; lookup = NoLookup; ownership = OwnsNothing }

-- ---- validity of one object
-- where all pairs have access, those of an object do
valid_for_lem : (t : Site) (o : ℕ) → is_valid t ≡ true → valid_for t o ≡ true
unfolding valid_for
valid_for_lem t o e =
    let v = (valid_decided t).0 (holds e) in
    is_true (valid_for t o) (each_by _ (limit area) (λ a h. implied (imports t o a || exports t o a) (access (lending t o) a) (λ p. at v a (or_cases (imports t o a) (exports t o a) p))))
  where
    at : Valid t → (a : ℕ) → T (imports t o a) ⊎ T (exports t o a) → T (access (lending t o) a)
    at v a (inl p) = v.imported o a p
    at v a (inr p) = v.exported o a p

-- so no remove that leads to a valid state cuts access
pub valid_cuts_none : (t : Site) (k : Target) (b : ℕ) → is_valid t ≡ true → cuts_access t k b ≡ false
valid_cuts_none t TheArea b e = refl
valid_cuts_none t Owner b e = refl
valid_cuts_none t Definition b e = ap not (valid_for_lem t b e)
valid_cuts_none t Structure b e = ap not e
valid_cuts_none t Import b e = ap not (valid_for_lem t b e)
valid_cuts_none t Export b e = ap not (valid_for_lem t b e)

-- a state that has the pairs of a valid one but for those of object b, or fewer, and in which the access of others is as it was
module _ (s t : Site) (valid : Valid s) (b : ℕ)
    (imported : (o a : ℕ) → T (imports t o a) → T (imports s o a)) (exported : (o a : ℕ) → T (exports t o a) → T (exports s o a))
    (others : (o : ℕ) → (o ≡ b → ⊥) → lending t o ≡ lending s o) where
  by_object : is_valid t ≡ valid_for t b
  unfolding valid_for
  by_object = same_test (is_valid t) (valid_for t b) (λ p. holds (valid_for_lem t b (is_true (is_valid t) p))) (λ p. (valid_decided t).1 (record { imported = λ o a q. entry o a (ℕ_discrete o b) p (or_left (imports t o a) (exports t o a) q) (λ n. valid.imported o a (imported o a q)); exported = λ o a q. entry o a (ℕ_discrete o b) p (or_right (imports t o a) (exports t o a) q) (λ n. valid.exported o a (exported o a q)) }))
    where
      inside : (o a : ℕ) → T (imports t o a || exports t o a) → a < limit area
      inside o a q = go (or_cases (imports t o a) (exports t o a) q)
        where
          go : T (imports t o a) ⊎ T (exports t o a) → a < limit area
          go (inl p) = pair_area t.imports o a p
          go (inr p) = pair_area t.exports o a p

      entry : (o a : ℕ) → Dec (o ≡ b) → T (valid_for t b) → T (imports t o a || exports t o a) → (Unit {0} → T (access (lending s o) a)) → T (access (lending t o) a)
      entry o a (yes e) p q before =
          implies (imports t o a || exports t o a) (access (lending t o) a) (rw (sym e) at (each_at (λ x. not (imports t b x || exports t b x) || access (lending t b) x) (limit area) p a (inside o a q))) q
      entry o a (no e) p q before = subst (λ (l : Lending). T (access l a)) (sym (others o e)) (before tt)

module _ (s : Site) (sound : Sound s) where
  shaped : Shaped s
  shaped = sound.shaped

  -- a removed definition, import or export bears the access of its object alone
  object_cut : (r : Relation) (a b : ℕ) → first_kind r ≡ object → is_valid (with_pair s r b a false) ≡ valid_for (with_pair s r b a false) b
  object_cut r a b e =
      by_object s (with_pair s r b a false) sound.valid b (λ o x. remove_adds_none s r import b a o x) (λ o x. remove_adds_none s r export b a o x)
      (λ o n. other_pairs s r b a false o (inr (e, n)))

  definition_cut : (a b : ℕ) → is_valid (with_pair (with_listed s object b false) definition b a false) ≡ valid_for (with_pair (with_listed s object b false) definition b a false) b
  definition_cut a b =
      by_object s (with_pair (with_listed s object b false) definition b a false) sound.valid b (λ o x p. p) (λ o x p. p)
      (λ o n. other_pairs (with_listed s object b false) definition b a false o (inr (refl, n)))

  -- some other user owns area a: without user u's pair it still has an owner
  others_left : (u a : ℕ) (test : ℕ → ℕ → Bool) → ((v c : ℕ) → T (test v c) ↔ ((c ≡ a) × (v ≡ u → ⊥)))
      → some_pair s.owners test ≡ has_second (with_pair s owner u a false).owners a
  others_left u a test means = same_test (some_pair s.owners test) (has_second (with_pair s owner u a false).owners a) there back
    where
      there : T (some_pair s.owners test) → T (has_second (with_pair s owner u a false).owners a)
      there t =
          let r = (some_pair_lem s.owners test).0 t in
          let m = (means r.0 r.1).0 r.3 in
          (has_second_lem (with_pair s owner u a false).owners a).1 (r.0, others_stay s owner owner u a r.0 a false (λ k q n. m.1 q) (rw m.0 at r.2))

      other : (v : ℕ) → T (owns (with_pair s owner u a false) v a) → v ≡ u → ⊥
      other v t e = removed_gone s owner u a shaped (rw e at t)

      back : T (has_second (with_pair s owner u a false).owners a) → T (some_pair s.owners test)
      back t =
          let r = (has_second_lem (with_pair s owner u a false).owners a).0 t in
          (some_pair_lem s.owners test).1 (r.0, a, remove_adds_none s owner owner u a r.0 a r.1, (means r.0 a).1 (refl, other r.0 r.1))

  sole_owner_lem : (u a : ℕ) → sole_owner s u a ≡ not (has_second (with_pair s owner u a false).owners a)
  sole_owner_lem u a = ap not (others_left u a (λ v c. not (not (eqb c a) || eqb v u)) means)
    where
      means : (v c : ℕ) → T (not (not (eqb c a) || eqb v u)) ↔ ((c ≡ a) × (v ≡ u → ⊥))
      means v c = (
        λ t. let f = fails_both (eqb c a) (eqb v u) t in (eqb-true c a (is_true (eqb c a) f.0), λ e. f.1 (holds (eq-eqb v u e))),
        λ r. so_not (not (eqb c a) || eqb v u) (λ t. either (eqb c a) (eqb v u) (holds (eq-eqb c a r.0)) (λ q. r.1 (eqb-true v u (is_true (eqb v u) q))) t),
      )
        where
          either : (p q : Bool) → T p → (T q → ⊥) → T (not p || q) → ⊥
          either true q h f t = f t
          either false q h f t = h

  other_owner_lem : (u a : ℕ) → other_owner s u a ≡ has_second (with_pair s owner u a false).owners a
  other_owner_lem u a =
      others_left u a (λ v c. eqb c a && not (eqb v u))
      (λ v c. (
        λ t. (eqb-true c a (is_true (eqb c a) (and_left (eqb c a) (not (eqb v u)) t)), λ e. not_so (eqb v u) (and_right (eqb c a) (not (eqb v u)) t) (holds (eq-eqb v u e))),
        λ r. and_both (eqb c a) (not (eqb v u)) (holds (eq-eqb c a r.0)) (so_not (eqb v u) (λ q. r.1 (eqb-true v u (is_true (eqb v u) q)))),
      ))

  -- another area is listed: without area a there is still one
  only_area_lem : (u a : ℕ) → only_area s a ≡ not (some_listed (with_listed (without_owner s u a) area a false).areas)
  only_area_lem u a = ap not (same_test (some_member s.areas (λ c. not (eqb c a))) (some_listed t.areas) there back)
    where
      t : Site
      t = with_listed (without_owner s u a) area a false

      sh : Shaped (without_owner s u a)
      sh = list_shaped (with_pair s owner u a false) user u _ (relate_shaped s owner u a false shaped)

      there : T (some_member s.areas (λ c. not (eqb c a))) → T (some_listed t.areas)
      there h =
          let r = (some_member_lem s.areas (λ c. not (eqb c a))).0 h in
          (some_decided t.areas).1
          (r.0, subst T (sym (listed_other (without_owner s u a) area a r.0 false (λ e. not_so (eqb r.0 a) r.2 (holds (eq-eqb r.0 a e))))) r.1)

      back : T (some_listed t.areas) → T (some_member s.areas (λ c. not (eqb c a)))
      back h =
          let r = (some_decided t.areas).0 h in
          (some_member_lem s.areas (λ c. not (eqb c a))).1
          (r.0, unlist_adds_none (without_owner s u a) area area a r.0 r.1, so_not (eqb r.0 a) (λ q. gone r.0 r.1 (eqb-true r.0 a (is_true (eqb r.0 a) q))))
        where
          gone : (c : ℕ) → T (listed t area c) → c ≡ a → ⊥
          gone c q e = unlisted_gone (without_owner s u a) area a sh (rw e at q)

  -- the checks 8 to 11 as the paper has them, by target and kind
  same_by : (k : Target) (v : Bool) (u a b : ℕ)
      → late_checks s (adding_or_not k v) u a b ≡ result_checks (changed s k v u a b) k v a b
  unfolding adding_or_not
  same_by TheArea true u a b = refl
  same_by TheArea false u a b =
      λ i.
      (8 when only_area_lem u a i)
      ∷ (9 when other_owner_lem u a i || has_second s.definitions a || has_first s.structure a || has_second s.structure a || has_second s.imports a || has_second s.exports a)
      ∷ (10 when false)
      ∷ (11 when false)
      ∷ []
  same_by Owner true u a b = refl
  same_by Owner false u a b = λ i. (8 when sole_owner_lem b a i) ∷ (9 when false) ∷ (10 when false) ∷ (11 when false) ∷ []
  same_by Definition true u a b = refl
  same_by Definition false u a b = λ i. (8 when false) ∷ (9 when false) ∷ (10 when false) ∷ (11 when not (definition_cut a b i)) ∷ []
  same_by Structure true u a b = refl
  same_by Structure false u a b = refl
  same_by Import true u a b = refl
  same_by Import false u a b = λ i. (8 when false) ∷ (9 when false) ∷ (10 when false) ∷ (11 when not (object_cut import a b refl i)) ∷ []
  same_by Export true u a b = refl
  same_by Export false u a b = λ i. (8 when false) ∷ (9 when false) ∷ (10 when false) ∷ (11 when not (object_cut export a b refl i)) ∷ []

pub late_by_result : Claims.LateByResult
unfolding adding_or_not
late_by_result s sound r u a b = same_by s sound r.target r.adds u a b

-- so all the checks of an instruction are those that `refusals::check` makes
pub found_by_result : (s : Site) → Sound s → (x : Instruction) (u a b : ℕ) → instruction_checks s x u a b ≡ found_checks s x u a b
found_by_result s sound x u a b = ap (λ (l : List Check). early_checks (seen_of s u a b) (rule x) ++ l) (late_by_result s sound (rule x) u a b)
