-- How a recipe runs (document 02, point 1, 'Site recipes'): "entirely or not at all".
--     RecipeVerdict           a number, a place and a state
--     as_verdict              what the code's answer and the state behind it are
--     recipe_refusals         12 and 14, in their order
--     ran_from                the instructions in turn
--     recipe_of               what a recipe gives with a record, both of any content
use Rattle.std.specs.Prelude.{ℕ, suc, not, cond, Result, Ok, Err, List, [], ◌∷◌, eqb}
use Rattle.verdicts.specs.Refusals.{number}
use Rattle.state.specs.Site.{Site}
use Rattle.state.specs.Checks.{Check, ◌when◌, first_met}
use Rattle.soundness.specs.Tests.{is_sound}
use Rattle.instructions.specs.Instructions.{Bytes}
use Rattle.machine.specs.Step.{step_of}
use Rattle.recipes.specs.Recipe.{recipe_instructions, misformed}
use Rattle.recipes.specs.declared.Call.{Call}
use Rattle.recipes.specs.declared.RecipeRefusal.{RecipeRefusal}

-- the number of the refusal, 0 for none; the "place counted from 1" of the instruction that it is of, else 0; and the
-- state after the recipe
pub record RecipeVerdict : Type 0 where
  pub refusal : ℕ
  pub place : ℕ
  pub state : Site

abbrev pub recipe_verdict : (refusal place : ℕ) → Site → RecipeVerdict
recipe_verdict n k s = record { refusal = n; place = k; state = s }

abbrev pub as_verdict : {A : Type 0} → Result A RecipeRefusal → Site → RecipeVerdict
as_verdict (Ok a) s = recipe_verdict 0 0 s
as_verdict (Err r) s = recipe_verdict (number r.refusal) r.place s

-- 14 "after 12 and before 1", over the whole recipe
abbrev pub recipe_refusals : Site → (recipe : List ℕ) → List Check
recipe_refusals s recipe = (12 when not (is_sound s)) ∷ (14 when misformed recipe) ∷ []

-- The instructions in turn, each in the state s that those before it give; `place` is that of the first of them. "If an
-- instruction is refused, the answer is its number and its place counted from 1, and the state is the one given."
unfoldable pub ran_from : (given : Site) (place : ℕ) (s : Site) → List Bytes → RecipeVerdict
ran_from given place s [] = recipe_verdict 0 0 s
ran_from given place s (x ∷ rest) =
    cond (eqb (step_of s x).refusal 0)
    (ran_from given (suc place) (step_of s x).state rest)
    (recipe_verdict (step_of s x).refusal place given)

-- "The place beside 0, 12 and 14 is 0."
unfoldable pub recipe_of : Site → (recipe : List ℕ) → Call → RecipeVerdict
recipe_of s recipe call =
    cond (eqb (first_met (recipe_refusals s recipe)) 0)
    (ran_from s 1 s (recipe_instructions call recipe))
    (recipe_verdict (first_met (recipe_refusals s recipe)) 0 s)
