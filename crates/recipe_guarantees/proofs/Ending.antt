-- The ways in which a recipe ends: 12, 14, all its instructions accepted, or one refused and those before it accepted.
--     Ran, ran           a list of instructions in turn
--     Ending, ending     a recipe
--     accepted_there     in a list of which each is accepted, so is the one behind any of its beginnings
-- Assumes nothing.
use Prim.Native.Nat.{ℕ, suc, ◌+◌}
use mathlib.Core.Path.{◌≡◌, refl, sym, ap, ◌∙◌}
use mathlib.Core.Bool.{Bool, true, false}
use mathlib.Core.List.{List, [], ◌∷◌, ◌++◌}
use native.Mathlib.Omega.{arith}
use native.Mathlib.Decide.{ℕ_discrete}
use lib.ListN.{length}
use Rattle.state.specs.Site.{Site}
use Rattle.soundness.specs.Tests.{is_sound}
use Rattle.instructions.specs.Instructions.{Bytes}
use Rattle.machine.specs.Step.{step_of, run, EachAccepted, accepted_none, accepted_next}
use Rattle.machine.proofs.Laws.{run_none, run_more}
use Rattle.recipes.specs.Recipe.{recipe_instructions, misformed}
use Rattle.recipes.specs.Run.{RecipeVerdict, recipe_verdict, ran_from, recipe_of}
use Rattle.recipes.specs.declared.Call.{Call}
use Rattle.recipes.proofs.Laws.{unsound_recipe, misformed_recipe, formed_recipe, ran_none, ran_more, ran_stopped}

-- ---- a list of instructions, from the state s on; `place` is that of the first
module _ (given : Site) where
  -- the one behind `before` is refused
  pub record StoppedAt (place : ℕ) (s : Site) (l : List Bytes) (v : RecipeVerdict) : Type 0 where
    pub before : List Bytes
    pub x : Bytes
    pub rest : List Bytes
    pub list : l ≡ before ++ (x ∷ rest)
    pub accepted : EachAccepted s before
    pub refused : (step_of (run s before) x).refusal ≡ 0 → ⊥
    pub verdict : v ≡ recipe_verdict (step_of (run s before) x).refusal (place + length before) given

  pub data Ran (place : ℕ) (s : Site) (l : List Bytes) (v : RecipeVerdict) : Type 0 where
    ran_all : EachAccepted s l → v ≡ recipe_verdict 0 0 (run s l) → Ran place s l v
    ran_until : StoppedAt place s l v → Ran place s l v

  -- the first is accepted, and then the rest
  first_more : (place : ℕ) (s : Site) (x : Bytes) (rest : List Bytes) → (step_of s x).refusal ≡ 0
      → Ran (suc place) (step_of s x).state rest (ran_from given (suc place) (step_of s x).state rest)
      → Ran place s (x ∷ rest) (ran_from given place s (x ∷ rest))
  first_more place s x rest e (ran_all each v) =
      ran_all (accepted_next e each) (ran_more given place s x rest e ∙ v ∙ ap (recipe_verdict 0 0) (sym (run_more s x rest)))
  first_more place s x rest e (ran_until r) =
      let passed : run s (x ∷ r.before) ≡ run (step_of s x).state r.before = run_more s x r.before in
      let at : suc place + length r.before ≡ place + length (x ∷ r.before) = omega arith in
      ran_until
      (record {
        before = x ∷ r.before;
        x = r.x;
        rest = r.rest;
        list = ap (λ (l : List Bytes). x ∷ l) r.list;
        accepted = accepted_next e r.accepted;
        refused = λ z. r.refused (ap (λ (t : Site). (step_of t r.x).refusal) (sym passed) ∙ z);
        verdict =
            ran_more given place s x rest e ∙ r.verdict
            ∙ ap (λ (n : ℕ). recipe_verdict (step_of (run (step_of s x).state r.before) r.x).refusal n given) at
            ∙ ap (λ (t : Site). recipe_verdict (step_of t r.x).refusal (place + length (x ∷ r.before)) given) (sym passed);
      })

  -- the first is refused
  first_stopped : (place : ℕ) (s : Site) (x : Bytes) (rest : List Bytes) → ((step_of s x).refusal ≡ 0 → ⊥)
      → Ran place s (x ∷ rest) (ran_from given place s (x ∷ rest))
  first_stopped place s x rest f =
      let none = run_none s in
      let at : place ≡ place + length {A = Bytes} [] = omega arith in
      ran_until
      (record {
        before = [];
        x = x;
        rest = rest;
        list = refl;
        accepted = accepted_none;
        refused = λ z. f (ap (λ (t : Site). (step_of t x).refusal) (sym none) ∙ z);
        verdict =
            ran_stopped given place s x rest f
            ∙ ap (λ (n : ℕ). recipe_verdict (step_of s x).refusal n given) at
            ∙ ap (λ (t : Site). recipe_verdict (step_of t x).refusal (place + length {A = Bytes} []) given) (sym none);
      })

  pub ran : (place : ℕ) (s : Site) (l : List Bytes) → Ran place s l (ran_from given place s l)
  ran place s [] = ran_all accepted_none (ran_none given place s ∙ ap (recipe_verdict 0 0) (sym (run_none s)))
  ran place s (x ∷ rest) = go (ran (suc place) (step_of s x).state rest) (ℕ_discrete (step_of s x).refusal 0)
    where
      go : Ran (suc place) (step_of s x).state rest (ran_from given (suc place) (step_of s x).state rest) → Dec ((step_of s x).refusal ≡ 0)
          → Ran place s (x ∷ rest) (ran_from given place s (x ∷ rest))
      go others (yes e) = first_more place s x rest e others
      go others (no f) = first_stopped place s x rest f

-- ---- a recipe
pub data Ending (s : Site) (recipe : List ℕ) (l : List Bytes) (v : RecipeVerdict) : Type 0 where
  unsound : is_sound s ≡ false → v ≡ recipe_verdict 12 0 s → Ending s recipe l v
  unformed : is_sound s ≡ true → misformed recipe ≡ true → v ≡ recipe_verdict 14 0 s → Ending s recipe l v
  runs : is_sound s ≡ true → misformed recipe ≡ false → Ran s 1 s l v → Ending s recipe l v

pub ending : (s : Site) (recipe : List ℕ) (call : Call) → Ending s recipe (recipe_instructions call recipe) (recipe_of s recipe call)
ending s recipe call = go (is_sound s) refl (misformed recipe) refl
  where
    go : (p : Bool) → is_sound s ≡ p → (q : Bool) → misformed recipe ≡ q → Ending s recipe (recipe_instructions call recipe) (recipe_of s recipe call)
    go false e q m = unsound e (unsound_recipe s recipe call e)
    go true e true m = unformed e m (misformed_recipe s recipe call e m)
    go true e false m = runs e m (rw (formed_recipe s recipe call e m) (ran s 1 s (recipe_instructions call recipe)))

pub accepted_there : (s : Site) (before : List Bytes) (x : Bytes) (rest : List Bytes) → EachAccepted s (before ++ (x ∷ rest))
    → (step_of (run s before) x).refusal ≡ 0
accepted_there s [] x rest (accepted_next e others) = ap (λ (t : Site). (step_of t x).refusal) (run_none s) ∙ e
accepted_there s (y ∷ before) x rest (accepted_next e others) =
    ap (λ (t : Site). (step_of t x).refusal) (run_more s y before) ∙ accepted_there (step_of s y).state before x rest others
