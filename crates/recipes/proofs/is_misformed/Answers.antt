-- `recipes::is_misformed` meets its contract.
-- Assumes nothing.
use Rattle.std.proofs.Common.{◌≡◌, ℕ, Bool, true, false, ◌||◌, List, length, refl, sym, ap, ◌∙◌, rules}
use mathlib.Core.Bool.{not}
use Rattle.state.specs.Below.{some_below}
use Rattle.state.proofs.Below.{some_none, some_goes, some_stop, some_done}
use Rattle.std.proofs.lemmas.List.{length_push}
use Rattle.std.specs.Slice.Iter.{chunks_exact_rest, chunks_exact_size}
use Rattle.recipes.specs.Recipe.{instruction_count, recipe_sized, misformed_at, misformed}
use Rattle.recipes.proofs.Chunks.{first_left, next_left, none_left, same_misformed}
use Rattle.recipes.proofs.is_misformed.Goals as goal

-- by the length, and where that is right by the instructions
unsized : (recipe : List ℕ) → not (recipe_sized (length recipe)) ≡ true → true ≡ misformed recipe
unfolding misformed
unsized recipe e = ap (λ (b : Bool). b || some_below (instruction_count recipe) (misformed_at recipe)) (sym e)

sized : (recipe : List ℕ) (p : Bool) → not (recipe_sized (length recipe)) ≡ false → p ≡ some_below (instruction_count recipe) (misformed_at recipe)
    → p ≡ misformed recipe
unfolding misformed
sized recipe p e q = q ∙ ap (λ (b : Bool). b || some_below (instruction_count recipe) (misformed_at recipe)) (sym e)

pub returns-then-not-is_sized : goal.returns-then-not-is_sized
returns-then-not-is_sized c = unsized _ (sym (ap not c.is_sized.ensures) ∙ (ap not c.if-not-is_sized.true))

pub loop-instruction-init : goal.loop-instruction-init
loop-instruction-init c =
    let items = c.chunks_exact-instruction-items.ensures in
    let same = c.into_iter-instruction-iterator.ensures.into_iter_gives in (
      search rules,
      search rules,
      first_left _ _ refl (ap chunks_exact_size same ∙ items.size) (ap chunks_exact_rest same ∙ items.rest),
      some_none _,
    )

pub returns-then-is_misformed_at : goal.returns-then-is_misformed_at
returns-then-is_misformed_at c =
    let is = (next_left _ _ c.loop-instruction.instruction-iterator c.next.new.self c.loop-instruction.invariant.2 c.in-Some.instruction c.in-Some.ensures.steps).0 in
    sized _ true (sym (ap not c.is_sized.ensures) ∙ (ap not c.if-not-is_sized.false))
    (some_stop _ _ _ is.inside (sym (same_misformed _ _ c.in-Some.instruction.now is) ∙ sym c.is_misformed_at.ensures ∙ c.if-is_misformed_at.true))

pub loop-instruction-preserved : goal.loop-instruction-preserved
loop-instruction-preserved c =
    let next = next_left _ _ c.loop-instruction.instruction-iterator c.next.new.self c.loop-instruction.invariant.2 c.in-Some.instruction c.in-Some.ensures.steps in
    let more = length_push c.loop-instruction.yielded c.in-Some.instruction in
    let fits : misformed_at c.args.recipe.now (length c.loop-instruction.yielded) ≡ false =
    sym (same_misformed _ _ c.in-Some.instruction.now next.0) ∙ sym c.is_misformed_at.ensures ∙ c.if-is_misformed_at.false in (
      search rules,
      search rules,
      rw more next.1,
      rw more (some_goes _ _ c.loop-instruction.invariant.3 fits),
    )

pub returns : goal.returns
returns c =
    let all = none_left _ _ _ _ c.loop-instruction.invariant.2 c.in-None.ensures.steps in
    sized _ false (sym (ap not c.is_sized.ensures) ∙ (ap not c.if-not-is_sized.false))
    (some_done _ _ _ c.loop-instruction.invariant.2.within all c.loop-instruction.invariant.3)
