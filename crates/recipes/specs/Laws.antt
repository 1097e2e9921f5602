-- What the layers above use. Each law is a type, which proofs/Laws.antt inhabits under the law's name.
use Rattle.std.specs.Prelude.{ℕ, suc, ◌≤◌, ◌≡◌, true, false, List, [], ◌∷◌, length}
use Rattle.state.specs.Site.{Site}
use Rattle.soundness.specs.Tests.{is_sound}
use Rattle.instructions.specs.Instructions.{Bytes}
use Rattle.machine.specs.Step.{step_of}
use Rattle.recipes.specs.Recipe.{recipe_instructions, misformed}
use Rattle.recipes.specs.Run.{recipe_verdict, ran_from, recipe_of}
use Rattle.recipes.specs.declared.Call.{Call}

-- ---- a recipe: 12, 14, or its instructions are run
abbrev pub UnsoundRecipe : Type 0
UnsoundRecipe =
    (s : Site) (recipe : List ℕ) (call : Call) → is_sound s ≡ false → recipe_of s recipe call ≡ recipe_verdict 12 0 s

abbrev pub MisformedRecipe : Type 0
MisformedRecipe =
    (s : Site) (recipe : List ℕ) (call : Call) → is_sound s ≡ true → misformed recipe ≡ true
    → recipe_of s recipe call ≡ recipe_verdict 14 0 s

abbrev pub FormedRecipe : Type 0
FormedRecipe =
    (s : Site) (recipe : List ℕ) (call : Call) → is_sound s ≡ true → misformed recipe ≡ false
    → recipe_of s recipe call ≡ ran_from s 1 s (recipe_instructions call recipe)

-- ---- the instructions in turn: none is left, the next is accepted, or it is refused
abbrev pub RanNone : Type 0
RanNone = (given : Site) (place : ℕ) (s : Site) → ran_from given place s [] ≡ recipe_verdict 0 0 s

abbrev pub RanMore : Type 0
RanMore =
    (given : Site) (place : ℕ) (s : Site) (x : Bytes) (rest : List Bytes) → (step_of s x).refusal ≡ 0
    → ran_from given place s (x ∷ rest) ≡ ran_from given (suc place) (step_of s x).state rest

abbrev pub RanStopped : Type 0
RanStopped =
    (given : Site) (place : ℕ) (s : Site) (x : Bytes) (rest : List Bytes) → ((step_of s x).refusal ≡ 0 → ⊥)
    → ran_from given place s (x ∷ rest) ≡ recipe_verdict (step_of s x).refusal place given

-- ---- the list of instructions
-- "1 to 16 instructions"
abbrev pub OneToSixteen : Type 0
OneToSixteen =
    (recipe : List ℕ) (call : Call) → misformed recipe ≡ false
    → (1 ≤ length (recipe_instructions call recipe)) × (length (recipe_instructions call recipe) ≤ 16)

-- "the one activator"
pub data AllBy (u : ℕ) : List Bytes → Type 0 where
  by_none : AllBy u []
  by_next : {x : Bytes} {rest : List Bytes} → x.activator ≡ u → AllBy u rest → AllBy u (x ∷ rest)

abbrev pub OneActivator : Type 0
OneActivator = (recipe : List ℕ) (call : Call) → AllBy call.activator (recipe_instructions call recipe)
