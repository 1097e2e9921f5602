-- The laws of specs/Laws.antt, each proved under its name.
-- Assumes nothing.
use Prim.Native.Nat.{ℕ, zero, suc, ◌*◌, ◌%◌, ◌≤◌}
use mathlib.Core.Path.{◌≡◌, refl, ap, ◌∙◌}
use mathlib.Core.Bool.{false, ◌&&◌, not, cond}
use mathlib.Core.List.{List}
use native.Mathlib.Omega.{arith}
use borrow.Author.Tests.{eq-eqb, ne_eqb}
use lib.Dec.{eqb, leb, leb→le, eqb→eq}
use lib.ListN.{length}
use Rattle.state.specs.Site.{Site}
use Rattle.state.specs.Below.{some_below}
use Rattle.state.specs.Checks.{◌when◌, first_met}
use Rattle.state.specs.Tabulate.{tabulate_from, tabulate}
use Rattle.state.proofs.Bools.{so, neither, and_left, and_right}
use Rattle.state.proofs.Checks.{met, passed, none_met}
use Rattle.state.proofs.Tabulate.{length_tabulate}
use Rattle.soundness.specs.Tests.{is_sound}
use Rattle.machine.specs.Step.{step_of}
use Rattle.recipes.specs.Recipe.{instruction_size, instruction_count, instruction_at, recipe_instructions, recipe_sized, misformed_at, misformed}
use Rattle.recipes.specs.Run.{recipe_verdict, recipe_refusals, ran_from, recipe_of}
use Rattle.recipes.specs.declared.Call.{Call}
use Rattle.recipes.specs.Laws
use Rattle.recipes.specs.Laws.{AllBy, by_none, by_next}

-- ---- a recipe
-- by the number of what is refused before any instruction
by_number : (s : Site) (recipe : List ℕ) (call : Call) {n : ℕ} → first_met (recipe_refusals s recipe) ≡ n
    → recipe_of s recipe call ≡ cond (eqb n 0) (ran_from s 1 s (recipe_instructions call recipe)) (recipe_verdict n 0 s)
unfolding recipe_of
by_number s recipe call e = rw e refl

pub unsound_recipe : Laws.UnsoundRecipe
unsound_recipe s recipe call e = by_number s recipe call (met (12 when not (is_sound s)) _ (ap not e))

pub misformed_recipe : Laws.MisformedRecipe
misformed_recipe s recipe call e m =
    by_number s recipe call (passed (12 when not (is_sound s)) _ (ap not e) ∙ met (14 when misformed recipe) _ m)

pub formed_recipe : Laws.FormedRecipe
formed_recipe s recipe call e m =
    by_number s recipe call (passed (12 when not (is_sound s)) _ (ap not e) ∙ passed (14 when misformed recipe) _ m ∙ none_met)

-- ---- the instructions in turn
pub ran_none : Laws.RanNone
unfolding ran_from
ran_none given place s = refl

pub ran_more : Laws.RanMore
unfolding ran_from
ran_more given place s x rest e = rw (eq-eqb (step_of s x).refusal 0 e) refl

pub ran_stopped : Laws.RanStopped
unfolding ran_from
ran_stopped given place s x rest f = rw (ne_eqb (step_of s x).refusal 0 f) refl

-- ---- the list of instructions
pub list_length : (recipe : List ℕ) (call : Call) → length (recipe_instructions call recipe) ≡ instruction_count recipe
unfolding recipe_instructions
list_length recipe call = length_tabulate (instruction_at call recipe) (instruction_count recipe)

-- 1 to 16, and no byte behind them
pub whole_count : (recipe : List ℕ) → misformed recipe ≡ false
    → (length recipe ≡ instruction_count recipe * 5) × (1 ≤ instruction_count recipe) × (instruction_count recipe ≤ 16)
unfolding misformed
whole_count recipe m =
    let n = length recipe in
    let sized = so (recipe_sized n) (neither (not (recipe_sized n)) (some_below (instruction_count recipe) (misformed_at recipe)) m).0 in
    let front = and_left (eqb (n % instruction_size) 0 && leb 5 n) (leb n 80) sized in
    let whole : n % instruction_size ≡ 0 = eqb→eq (n % instruction_size) 0 (and_left (eqb (n % instruction_size) 0) (leb 5 n) front) in
    let least : 5 ≤ n = leb→le 5 n (and_right (eqb (n % instruction_size) 0) (leb 5 n) front) in
    let most : n ≤ 80 = leb→le n 80 (and_right (eqb (n % instruction_size) 0 && leb 5 n) (leb n 80) sized) in
    (omega arith, omega arith, omega arith)

pub one_to_sixteen : Laws.OneToSixteen
one_to_sixteen recipe call m = let counted = whole_count recipe m in rw (list_length recipe call) (counted.1, counted.2)

pub one_activator : Laws.OneActivator
unfolding recipe_instructions tabulate tabulate_from
one_activator recipe call = each 0 (instruction_count recipe)
  where
    each : (i n : ℕ) → AllBy call.activator (tabulate_from (instruction_at call recipe) i n)
    each i zero = by_none
    each i (suc n) = by_next refl (each (suc i) n)
