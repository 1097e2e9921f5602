-- `capi::panelrights_recipe` meets its contract: what the recipe gives with the state that the bytes stand for, written where it is
-- accepted.
-- Assumes nothing.
use Prim.Native.Nat.{ℕ, ◌+◌, ◌*◌}
use mathlib.Core.Path.{◌≡◌, refl, ap, sym, ◌∙◌}
use mathlib.Core.List.{List}
use native.Mathlib.Omega.{arith}
use Rattle.verdicts.proofs.Laws.{never_zero}
use Rattle.state.specs.Site.{Site}
use Rattle.records.specs.Record.{state_of, number_for, stored}
use Rattle.recipes.specs.Run.{RecipeVerdict, recipe_of}
use Rattle.recipes.specs.declared.Call.{Call}
use Rattle.interface.specs.Interface.{placed, recipe_answer, recipe_buffer}
use Rattle.interface.proofs.Steps.{recipes, accepted_answer}
use Rattle.capi.proofs.Changing.{unchanged, written}
use Rattle.capi.proofs.panelrights_recipe.Goals as goal

-- the answer is 0 exactly where the number is
not_zero : (place number : ℕ) → (number ≡ 0 → ⊥) → place * 256 + number ≡ 0 → ⊥
not_zero place number f e = f (omega arith)

module _ (state bytes : List ℕ) (call : Call) {s : Site} {v : RecipeVerdict} (told : s ≡ state_of state) (given : v ≡ recipe_of s bytes call) where
  left_alone : (v.refusal ≡ 0 → ⊥) → (placed v ≡ recipe_answer state bytes call) × (state ≡ recipe_buffer state bytes call)
  left_alone f = unchanged (recipes bytes call) state told (ap placed given) (not_zero v.place v.refusal f)

  changed : {n : ℕ} {now : List ℕ} → v.refusal ≡ 0 → n ≡ number_for state → now ≡ stored state v.state
      → (n ≡ recipe_answer state bytes call) × (now ≡ recipe_buffer state bytes call)
  changed z e w =
      let none = accepted_answer s bytes call (sym (ap (λ (o : RecipeVerdict). o.refusal) given) ∙ z) in
      written (recipes bytes call) state told none (ap (λ (o : RecipeVerdict). o.state) given) e w

pub returns-in-Err : goal.returns-in-Err
returns-in-Err c =
    let n = c.number.ensures in
    let p = left_alone _ _ _ c.state_of-s.ensures c.in-Err.ensures (never_zero _) in
    record { number = ap (λ (k : ℕ). c.in-Err.refused.place * 256 + k) n ∙ p.0; buffer = p.1 }

pub returns : goal.returns
returns c =
    let p = changed _ _ _ c.state_of-s.ensures c.in_default.ensures refl (c.number_of.ensures ∙ c.write.ensures.number) c.write.ensures.bytes in
    record { number = p.0; buffer = p.1 }
