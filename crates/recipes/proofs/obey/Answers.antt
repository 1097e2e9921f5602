-- `recipes::obey` meets its contract.
-- Assumes nothing.
use Rattle.std.proofs.Common.{sym, ap, ◌∙◌, rules}
use Rattle.std.specs.Iterator.Adapters.{enumerate_source, enumerate_count}
use Rattle.std.specs.Slice.Iter.{chunks_exact_rest, chunks_exact_size}
use Rattle.state.proofs.Bools.{holds}
use Rattle.verdicts.proofs.Laws.{never_zero}
use Rattle.recipes.proofs.Chunks.{first_left, next_left, none_left, same_instruction}
use Rattle.recipes.proofs.Running.{begins, goes_on, stays_sound, stops, ends}
use Rattle.recipes.proofs.Laws.{unsound_recipe, misformed_recipe, whole_count}
use Rattle.recipes.proofs.obey.Goals as goal

pub returns-then-not-is_sound : goal.returns-then-not-is_sound
returns-then-not-is_sound c = sym (unsound_recipe _ _ _ (sym c.is_sound.ensures.equation ∙ c.if-not-is_sound.true))

pub returns-then-is_misformed : goal.returns-then-is_misformed
returns-then-is_misformed c =
    sym (misformed_recipe _ _ _ (sym c.is_sound.ensures.equation ∙ c.if-not-is_sound.false) (sym c.is_misformed.ensures ∙ c.if-is_misformed.true))

pub loop-k-init : goal.loop-k-init
loop-k-init c =
    let items = c.enumerate-k-items.ensures in
    let same = c.into_iter-k-iterator.ensures.into_iter_gives in
    let none = ap enumerate_count same ∙ items.count in
    let source = ap enumerate_source same ∙ items.source in
    let formed = sym c.is_misformed.ensures ∙ c.if-is_misformed.false in (
      search rules,
      search rules,
      (whole_count _ formed).2,
      first_left _ _ none (ap chunks_exact_size source ∙ c.chunks_exact.ensures.size) (ap chunks_exact_rest source ∙ c.chunks_exact.ensures.rest),
      c.is_sound.ensures.meaning.0 (holds c.if-not-is_sound.false),
      rw none (begins _ _ _ (sym c.is_sound.ensures.equation ∙ c.if-not-is_sound.false) formed),
    )

pub loop-k-preserved : goal.loop-k-preserved
loop-k-preserved c =
    let inv = c.loop-k.invariant in
    let steps = c.in-Some.ensures.steps in
    let next = next_left _ _ (enumerate_source c.loop-k.k-iterator) (enumerate_source c.next.new.self) inv.3 c.in-Some.instruction steps.0 in
    let same = c.instruction_of.ensures ∙ same_instruction _ _ c.in-Some.instruction.now next.0 c.args.call in (
      search rules,
      search rules,
      inv.2,
      rw steps.2 next.1,
      stays_sound _ _ _ _ _ inv.4 inv.5 next.0.inside same c.in-Ok.ensures,
      rw steps.2 (goes_on _ _ _ _ _ inv.4 inv.5 next.0.inside same c.in-Ok.ensures),
    )

pub returns-in-Err : goal.returns-in-Err
returns-in-Err c =
    let inv = c.loop-k.invariant in
    let steps = c.in-Some.ensures.steps in
    let next = next_left _ _ (enumerate_source c.loop-k.k-iterator) (enumerate_source c.next.new.self) inv.3 c.in-Some.instruction steps.0 in
    let same = c.instruction_of.ensures ∙ same_instruction _ _ c.in-Some.instruction.now next.0 c.args.call in
    rw steps.1 (stops _ _ _ _ _ inv.4 inv.5 next.0.inside same c.in-Err.ensures (never_zero c.in-Err.refusal))

pub returns : goal.returns
returns c =
    let inv = c.loop-k.invariant in
    let all = none_left _ _ (enumerate_source c.loop-k.k-iterator) (enumerate_source c.next.new.self) inv.3 c.in-None.ensures.steps.0 in
    ends _ _ _ _ _ inv.4 inv.5 all
