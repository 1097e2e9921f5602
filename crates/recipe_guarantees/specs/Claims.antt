-- What is claimed of recipes (document 02, point 1, 'Site recipes'), for every state, recipe and call, of any content;
-- where a state is asked to be shaped, every record of the code is. Each claim is a type, which proofs/Laws.antt
-- inhabits under the claim's name. What is claimed of lists of instructions and recipes stands in Commands, and what a
-- recipe is in Form.
use Rattle.std.specs.Prelude.{ℕ, suc, ◌≤◌, ◌≡◌, ◌↔◌, false, List, [], ◌∷◌, ◌++◌, T, length}
use Rattle.state.specs.Site.{Site, Shaped}
use Rattle.state.specs.Checks.{numbers, among}
use Rattle.soundness.specs.Tests.{is_sound}
use Rattle.instructions.specs.Instructions.{Bytes}
use Rattle.refusals.specs.Refusals.{further_numbers}
use Rattle.machine.specs.Step.{step_of, run, EachAccepted}
use Rattle.recipes.specs.Recipe.{recipe_instructions, misformed}
use Rattle.recipes.specs.Run.{RecipeVerdict, recipe_refusals, recipe_of}
use Rattle.recipes.specs.declared.Call.{Call}

-- ---- "a recipe of 1 to 16 instructions that runs entirely or not at all"
-- what an accepted recipe asks for: a sound state, a form that is not refused as 14, and that each instruction of its
-- list l is accepted
pub record Entirely (s : Site) (recipe : List ℕ) (l : List Bytes) : Type 0 where
  pub sound : T (is_sound s)
  pub formed : misformed recipe ≡ false
  pub each : EachAccepted s l

-- The verdict v is 0 exactly there, and its state is then the one after the list; beside any other number "the state is
-- the one given".
pub record EntirelyOrNot (s : Site) (recipe : List ℕ) (l : List Bytes) (v : RecipeVerdict) : Type 0 where
  pub accepted_exactly : (v.refusal ≡ 0) ↔ Entirely s recipe l
  pub entirely : v.refusal ≡ 0 → v.state ≡ run s l
  pub not_at_all : (v.refusal ≡ 0 → ⊥) → v.state ≡ s

abbrev pub AllOrNothing : Type 0
AllOrNothing =
    (s : Site) (recipe : List ℕ) (call : Call)
    → EntirelyOrNot s recipe (recipe_instructions call recipe) (recipe_of s recipe call)

-- ---- "If an instruction is refused, the answer is its number and its place counted from 1"
-- the verdict v has the number of the instruction x of the list l, and its place; those before it are accepted
pub record Stopped (s : Site) (l : List Bytes) (v : RecipeVerdict) : Type 0 where
  pub before : List Bytes
  pub x : Bytes
  pub rest : List Bytes
  pub list : l ≡ before ++ (x ∷ rest)
  pub accepted : EachAccepted s before
  pub place : v.place ≡ suc (length before)
  pub number : v.refusal ≡ (step_of (run s before) x).refusal
  pub refused : v.refusal ≡ 0 → ⊥

abbrev pub FirstRefused : Type 0
FirstRefused =
    (s : Site) (recipe : List ℕ) (call : Call) → ((recipe_of s recipe call).place ≡ 0 → ⊥)
    → Stopped s (recipe_instructions call recipe) (recipe_of s recipe call)

-- ---- "The place beside 0, 12 and 14 is 0.", and only there
abbrev pub PlaceZeroExactly : Type 0
PlaceZeroExactly =
    (s : Site) → Shaped s → (recipe : List ℕ) (call : Call)
    → ((recipe_of s recipe call).place ≡ 0) ↔ T (among (recipe_of s recipe call).refusal (0 ∷ 12 ∷ 14 ∷ []))

-- a place is that of one of "1 to 16 instructions"
abbrev pub PlaceAtMost : Type 0
PlaceAtMost = (s : Site) (recipe : List ℕ) (call : Call) → (recipe_of s recipe call).place ≤ 16

-- ---- the numbers
-- 12 is for unsound states and for no others: no instruction of a recipe gets it
abbrev pub TwelveExactly : Type 0
TwelveExactly =
    (s : Site) → Shaped s → (recipe : List ℕ) (call : Call)
    → ((recipe_of s recipe call).refusal ≡ 12) ↔ (is_sound s ≡ false)

-- 14 is for what is misformed, "after 12 and before 1"
abbrev pub FourteenExactly : Type 0
FourteenExactly =
    (s : Site) (recipe : List ℕ) (call : Call)
    → ((recipe_of s recipe call).refusal ≡ 14) ↔ (T (is_sound s) × T (misformed recipe))

abbrev pub RecipeOrder : Type 0
RecipeOrder = (s : Site) (recipe : List ℕ) → numbers (recipe_refusals s recipe) ≡ 12 ∷ 14 ∷ []

-- 12, 14 and those of an instruction, in the order of the checks; no other number comes back, but 0
abbrev pub recipe_numbers : List ℕ
recipe_numbers = 12 ∷ 14 ∷ further_numbers

abbrev pub RecipeNumbers : Type 0
RecipeNumbers =
    (s : Site) (recipe : List ℕ) (call : Call) → T (among (recipe_of s recipe call).refusal (0 ∷ recipe_numbers))
