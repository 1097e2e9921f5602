-- The claims of specs/Claims.antt, each proved under its name, by the ways in which a recipe ends.
--     recipe_two_digits, accepted_place, recipe_sound      what crate `interface` needs besides
-- Assumes nothing.
use Prim.Native.Nat.{ℕ, ◌+◌, ◌<◌, ◌≤◌}
use mathlib.Core.Path.{◌≡◌, refl, sym, ap, subst, ◌∙◌}
use mathlib.Core.Logic.{◌⊎◌, inl, inr}
use mathlib.Core.Bool.{Bool, true, false, not}
use mathlib.Core.List.{List, [], ◌∷◌}
use native.Mathlib.Omega.{arith}
use native.Mathlib.Decide.{ℕ_discrete}
use borrow.Author.Tests.{eq-eqb}
use lib.Dec.{T, eqb, ltb, ltb→lt, eqb→eq}
use lib.ListN.{length, length-append}
use Rattle.state.specs.Site.{Site, Shaped}
use Rattle.state.specs.Checks.{among}
use Rattle.state.proofs.Bools.{holds, fails, not_so, is_true, and_right, or_cases}
use Rattle.state.proofs.Checks.{each_of, among_meets}
use Rattle.soundness.specs.Sound.{Sound}
use Rattle.soundness.specs.Tests.{is_sound}
use Rattle.soundness.proofs.Laws.{sound_decided}
use Rattle.instructions.specs.Instructions.{Bytes}
use Rattle.refusals.specs.Refusals.{step_numbers}
use Rattle.machine.specs.Step.{step_of, run, EachAccepted}
use Rattle.machine.proofs.Laws.{sound_never_twelve}
use Rattle.machine.proofs.Laws as machine
use Rattle.guarantees.proofs.Demand3.{demand_3}
use Rattle.recipes.specs.Recipe.{recipe_instructions, misformed}
use Rattle.recipes.specs.Run.{RecipeVerdict, recipe_of}
use Rattle.recipes.specs.declared.Call.{Call}
use Rattle.recipes.proofs.Laws.{unsound_recipe, misformed_recipe, one_to_sixteen}
use Rattle.recipe_guarantees.specs.Claims
use Rattle.recipe_guarantees.specs.Claims.{Entirely, Stopped, recipe_numbers}
use Rattle.recipe_guarantees.proofs.Ending.{ran_all, ran_until, Ending, unsound, unformed, runs, ending, accepted_there}

-- ---- a verdict's parts
number_of : {v w : RecipeVerdict} → v ≡ w → v.refusal ≡ w.refusal
number_of e = ap (λ (v : RecipeVerdict). v.refusal) e

place_of : {v w : RecipeVerdict} → v ≡ w → v.place ≡ w.place
place_of e = ap (λ (v : RecipeVerdict). v.place) e

state_of : {v w : RecipeVerdict} → v ≡ w → v.state ≡ w.state
state_of e = ap (λ (v : RecipeVerdict). v.state) e

-- two numbers that differ
differ : (m n : ℕ) → T (not (eqb m n)) → m ≡ n → ⊥
differ m n d e = not_so (eqb m n) d (holds (eq-eqb m n e))

-- one of three numbers, and none of them
among_three : {n : ℕ} → T (among n (0 ∷ 12 ∷ 14 ∷ [])) → (n ≡ 0 → ⊥) → (n ≡ 12 → ⊥) → (n ≡ 14 → ⊥) → ⊥
among_three {n} t f g h = go (or_cases (eqb n 0) (among n (12 ∷ 14 ∷ [])) t)
  where
    last : T (eqb n 14) ⊎ T (among n []) → ⊥
    last (inl q) = h (eqb→eq n 14 q)
    last (inr q) = absurd q

    middle : T (eqb n 12) ⊎ T (among n (14 ∷ [])) → ⊥
    middle (inl q) = g (eqb→eq n 12 q)
    middle (inr q) = last (or_cases (eqb n 14) (among n []) q)

    go : T (eqb n 0) ⊎ T (among n (12 ∷ 14 ∷ [])) → ⊥
    go (inl q) = f (eqb→eq n 0 q)
    go (inr q) = middle (or_cases (eqb n 12) (among n (14 ∷ [])) q)

-- ---- the numbers of an instruction
never_14 : (s : Site) (x : Bytes) → (step_of s x).refusal ≡ 14 → ⊥
never_14 s x e = not_so (eqb (step_of s x).refusal 14) (machine.number_meets (λ n. not (eqb n 14)) tt s x) (holds (eq-eqb _ 14 e))

-- from a sound state on, none is 12
never_12 : (s : Site) → Shaped s → is_sound s ≡ true → (l : List Bytes) (x : Bytes) → (step_of (run s l) x).refusal ≡ 12 → ⊥
never_12 s h e l x z =
    let sound = (demand_3 s l ((sound_decided s h).0 (holds e))).sound in
    sound_never_twelve (run s l) x (is_true (is_sound (run s l)) ((sound_decided (run s l) sound.shaped).1 sound)) z

module _ (s : Site) (recipe : List ℕ) (call : Call) where
  abbrev list : List Bytes
  list = recipe_instructions call recipe

  abbrev v : RecipeVerdict
  v = recipe_of s recipe call

  -- ---- entirely or not at all
  -- what an accepted recipe has met, and what it gives
  record Accepted : Type 0 where
    entirely : Entirely s recipe list
    state : v.state ≡ run s list
    place : v.place ≡ 0

  accepted : Ending s recipe list v → v.refusal ≡ 0 → Accepted
  accepted (unsound e q) z = absurd (differ 12 0 tt (sym (number_of q) ∙ z))
  accepted (unformed e m q) z = absurd (differ 14 0 tt (sym (number_of q) ∙ z))
  accepted (runs e m (ran_all each q)) z =
      record { entirely = record { sound = holds e; formed = m; each = each }; state = state_of q; place = place_of q }
  accepted (runs e m (ran_until r)) z = absurd (r.refused (sym (number_of r.verdict) ∙ z))

  from_entirely : Ending s recipe list v → Entirely s recipe list → v.refusal ≡ 0
  from_entirely (unsound e q) y = absurd (fails e y.sound)
  from_entirely (unformed e m q) y = absurd (fails y.formed (holds m))
  from_entirely (runs e m (ran_all each q)) y = number_of q
  from_entirely (runs e m (ran_until r)) y =
      absurd (r.refused (accepted_there s r.before r.x r.rest (subst (EachAccepted s) r.list y.each)))

  leaves : Ending s recipe list v → (v.refusal ≡ 0 → ⊥) → v.state ≡ s
  leaves (unsound e q) f = state_of q
  leaves (unformed e m q) f = state_of q
  leaves (runs e m (ran_all each q)) f = absurd (f (number_of q))
  leaves (runs e m (ran_until r)) f = state_of r.verdict

  -- ---- the place
  stopped : Ending s recipe list v → (v.place ≡ 0 → ⊥) → Stopped s list v
  stopped (unsound e q) f = absurd (f (place_of q))
  stopped (unformed e m q) f = absurd (f (place_of q))
  stopped (runs e m (ran_all each q)) f = absurd (f (place_of q))
  stopped (runs e m (ran_until r)) f =
      let at : v.place ≡ 1 + length r.before = place_of r.verdict in
      record {
        before = r.before;
        x = r.x;
        rest = r.rest;
        list = r.list;
        accepted = r.accepted;
        place = omega arith;
        number = number_of r.verdict;
        refused = λ z. r.refused (sym (number_of r.verdict) ∙ z);
      }

  at_0 : Ending s recipe list v → v.place ≡ 0 → T (among v.refusal (0 ∷ 12 ∷ 14 ∷ []))
  at_0 (unsound e q) z = rw q tt
  at_0 (unformed e m q) z = rw q tt
  at_0 (runs e m (ran_all each q)) z = rw q tt
  at_0 (runs e m (ran_until r)) z =
      let at : v.place ≡ 1 + length r.before = place_of r.verdict in absurd (omega arith)

  -- and of the numbers beside 0 no instruction has one
  beside_0 : Shaped s → Ending s recipe list v → T (among v.refusal (0 ∷ 12 ∷ 14 ∷ [])) → v.place ≡ 0
  beside_0 h (unsound e q) t = place_of q
  beside_0 h (unformed e m q) t = place_of q
  beside_0 h (runs e m (ran_all each q)) t = place_of q
  beside_0 h (runs e m (ran_until r)) t =
      let n : v.refusal ≡ (step_of (run s r.before) r.x).refusal = number_of r.verdict in
      absurd (among_three t (λ z. r.refused (sym n ∙ z)) (λ z. never_12 s h e r.before r.x (sym n ∙ z)) (λ z. never_14 (run s r.before) r.x (sym n ∙ z)))

  short : Ending s recipe list v → v.place ≤ 16
  short (unsound e q) = rw (place_of q) (omega arith)
  short (unformed e m q) = rw (place_of q) (omega arith)
  short (runs e m (ran_all each q)) = rw (place_of q) (omega arith)
  short (runs e m (ran_until r)) =
      let at : v.place ≡ 1 + length r.before = place_of r.verdict in
      let size : length list ≡ length r.before + length (r.x ∷ r.rest) = ap length r.list ∙ length-append r.before (r.x ∷ r.rest) in
      let most : length list ≤ 16 = (one_to_sixteen recipe call m).1 in
      omega arith

  -- ---- the numbers
  is_12 : Shaped s → Ending s recipe list v → v.refusal ≡ 12 → is_sound s ≡ false
  is_12 h (unsound e q) z = e
  is_12 h (unformed e m q) z = absurd (differ 14 12 tt (sym (number_of q) ∙ z))
  is_12 h (runs e m (ran_all each q)) z = absurd (differ 0 12 tt (sym (number_of q) ∙ z))
  is_12 h (runs e m (ran_until r)) z = absurd (never_12 s h e r.before r.x (sym (number_of r.verdict) ∙ z))

  is_14 : Ending s recipe list v → v.refusal ≡ 14 → T (is_sound s) × T (misformed recipe)
  is_14 (unsound e q) z = absurd (differ 12 14 tt (sym (number_of q) ∙ z))
  is_14 (unformed e m q) z = (holds e, holds m)
  is_14 (runs e m (ran_all each q)) z = absurd (differ 0 14 tt (sym (number_of q) ∙ z))
  is_14 (runs e m (ran_until r)) z = absurd (never_14 (run s r.before) r.x (sym (number_of r.verdict) ∙ z))

  -- what holds of 0, 12, 14 and each number of a step holds of a recipe's
  number_meets : (test : ℕ → Bool) → T (each_of test (14 ∷ 0 ∷ step_numbers)) → Ending s recipe list v → T (test v.refusal)
  number_meets test e (unsound _ q) = rw (number_of q) (among_meets test (14 ∷ 0 ∷ step_numbers) 12 e tt)
  number_meets test e (unformed _ m q) = rw (number_of q) (among_meets test (14 ∷ 0 ∷ step_numbers) 14 e tt)
  number_meets test e (runs _ m (ran_all each q)) = rw (number_of q) (among_meets test (14 ∷ 0 ∷ step_numbers) 0 e tt)
  number_meets test e (runs _ m (ran_until r)) =
      rw (number_of r.verdict) (machine.number_meets test (and_right (test 14) (each_of test (0 ∷ step_numbers)) e) (run s r.before) r.x)

-- ---- the claims
pub all_or_nothing : Claims.AllOrNothing
all_or_nothing s recipe call =
    let ended = ending s recipe call in
    record {
      accepted_exactly = (λ e. (accepted s recipe call ended e).entirely, from_entirely s recipe call ended);
      entirely = λ e. (accepted s recipe call ended e).state;
      not_at_all = leaves s recipe call ended;
    }

pub first_refused : Claims.FirstRefused
first_refused s recipe call f = stopped s recipe call (ending s recipe call) f

pub place_zero_exactly : Claims.PlaceZeroExactly
place_zero_exactly s h recipe call = (at_0 s recipe call (ending s recipe call), beside_0 s recipe call h (ending s recipe call))

pub place_at_most : Claims.PlaceAtMost
place_at_most s recipe call = short s recipe call (ending s recipe call)

pub twelve_exactly : Claims.TwelveExactly
twelve_exactly s h recipe call = (is_12 s recipe call h (ending s recipe call), λ e. number_of (unsound_recipe s recipe call e))

pub fourteen_exactly : Claims.FourteenExactly
fourteen_exactly s recipe call =
    (is_14 s recipe call (ending s recipe call), λ y. number_of (misformed_recipe s recipe call (is_true (is_sound s) y.0) (is_true (misformed recipe) y.1)))

pub recipe_order : Claims.RecipeOrder
recipe_order s recipe = refl

pub recipe_numbers_lem : Claims.RecipeNumbers
recipe_numbers_lem s recipe call = number_meets s recipe call (λ n. among n (0 ∷ recipe_numbers)) tt (ending s recipe call)

-- ---- what crate `interface` needs besides
pub recipe_two_digits : (s : Site) (recipe : List ℕ) (call : Call) → (recipe_of s recipe call).refusal < 100
recipe_two_digits s recipe call = ltb→lt (recipe_of s recipe call).refusal 100 (number_meets s recipe call (λ n. ltb n 100) tt (ending s recipe call))

pub accepted_place : (s : Site) (recipe : List ℕ) (call : Call) → (recipe_of s recipe call).refusal ≡ 0 → (recipe_of s recipe call).place ≡ 0
accepted_place s recipe call e = (accepted s recipe call (ending s recipe call) e).place

pub recipe_sound : (s : Site) (recipe : List ℕ) (call : Call) → Sound s → Sound (recipe_of s recipe call).state
recipe_sound s recipe call h = go (ℕ_discrete (recipe_of s recipe call).refusal 0)
  where
    go : Dec ((recipe_of s recipe call).refusal ≡ 0) → Sound (recipe_of s recipe call).state
    go (yes e) = rw ((all_or_nothing s recipe call).entirely e) (demand_3 s (recipe_instructions call recipe) h).sound
    go (no f) = rw ((all_or_nothing s recipe call).not_at_all f) h
