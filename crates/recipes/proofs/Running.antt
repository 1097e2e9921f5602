-- The loop over the instructions of a recipe: what is left to run, run from the state reached, gives what the recipe
-- gives; and the state reached is sound, so that nobody need ask again.
--     begins                        before the first instruction
--     goes_on, stays_sound          the next instruction is accepted
--     stops                         it is refused
--     ends                          none is left
-- Assumes nothing.
use Prim.Native.Nat.{ℕ, suc, ◌+◌, ◌≤◌, ◌<◌}
use mathlib.Core.Path.{◌≡◌, sym, ap, subst, ◌∙◌}
use mathlib.Core.Bool.{true, false}
use mathlib.Core.List.{List, ◌∷◌}
use native.Mathlib.Numerals.{add-one}
use lib.ListN.{length, drop, drop_of_length-le}
use lib.Seq.{drop-cons}
use Rattle.state.specs.Site.{Site, Verdict, verdict}
use Rattle.state.proofs.Tabulate.{get_or_tabulate}
use Rattle.soundness.specs.Sound.{Sound}
use Rattle.soundness.specs.Tests.{is_sound}
use Rattle.instructions.specs.Instructions.{Bytes}
use Rattle.machine.specs.Step.{step_of}
use Rattle.guarantees.proofs.Demand3.{step_sound}
use Rattle.recipes.specs.Recipe.{instruction_count, instruction_at, recipe_instructions, misformed}
use Rattle.recipes.specs.Run.{recipe_verdict, ran_from, recipe_of}
use Rattle.recipes.specs.declared.Call.{Call}
use Rattle.recipes.proofs.Laws.{formed_recipe, ran_none, ran_more, ran_stopped, list_length}

module _ (s : Site) (recipe : List ℕ) (call : Call) where
  abbrev list : List Bytes
  list = recipe_instructions call recipe

  abbrev left : ℕ → List Bytes
  left k = drop k list

  -- what is left from instruction k on, run from the state t, gives what the recipe gives
  abbrev pub Runs : (k : ℕ) (t : Site) → Type 0
  Runs k t = ran_from s (k + 1) t (left k) ≡ recipe_of s recipe call

  pub begins : is_sound s ≡ true → misformed recipe ≡ false → Runs 0 s
  begins e m = sym (formed_recipe s recipe call e m)

  next_is : (k : ℕ) → k < instruction_count recipe → left k ≡ instruction_at call recipe k ∷ left (k + 1)
  unfolding recipe_instructions
  next_is k h =
      let x = instruction_at call recipe k in
      rw (add-one k)
      (drop-cons list k x (rw (list_length recipe call) h) ∙ ap (λ (y : Bytes). y ∷ drop (suc k) list) (get_or_tabulate (instruction_at call recipe) (instruction_count recipe) k x h))

  module _ (k : ℕ) (t : Site) (sound : Sound t) (runs : Runs k t) where
    pub ends : instruction_count recipe ≤ k → recipe_verdict 0 0 t ≡ recipe_of s recipe call
    ends h =
        let all : length list ≤ k = rw (list_length recipe call) h in
        sym (ran_none s (k + 1) t) ∙ ap (ran_from s (k + 1) t) (sym (drop_of_length-le list all)) ∙ runs

    -- the next instruction, by what its step gives
    module _ (h : k < instruction_count recipe) {x : Bytes} (same : x ≡ instruction_at call recipe k) where
      shown : ran_from s (k + 1) t (x ∷ left (k + 1)) ≡ recipe_of s recipe call
      shown = ap (λ (y : Bytes). ran_from s (k + 1) t (y ∷ left (k + 1))) same ∙ ap (ran_from s (k + 1) t) (sym (next_is k h)) ∙ runs

      pub stops : {n : ℕ} → verdict n t ≡ step_of t x → (n ≡ 0 → ⊥) → recipe_verdict n (k + 1) s ≡ recipe_of s recipe call
      stops e f =
          ap (λ (v : Verdict). recipe_verdict v.refusal (k + 1) s) e
          ∙ sym (ran_stopped s (k + 1) t x (left (k + 1)) (λ z. f (ap (λ (v : Verdict). v.refusal) e ∙ z)))
          ∙ shown

      module _ {u : Site} (e : verdict 0 u ≡ step_of t x) where
        pub goes_on : Runs (k + 1) u
        goes_on =
            ap (λ (v : Verdict). ran_from s (k + 1 + 1) v.state (left (k + 1))) e
            ∙ ap (λ (m : ℕ). ran_from s m (step_of t x).state (left (k + 1))) (add-one (k + 1))
            ∙ sym (ran_more s (k + 1) t x (left (k + 1)) (sym (ap (λ (v : Verdict). v.refusal) e)))
            ∙ shown

        pub stays_sound : Sound u
        stays_sound = subst (λ (v : Verdict). Sound v.state) (sym e) (step_sound t x sound)
