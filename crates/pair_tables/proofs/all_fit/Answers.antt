-- `pair_tables::all_fit` meets its contract. The loop's invariant: what fits so far is whether each pair does that was
-- taken.
-- Assumes nothing.
use mathlib.Core.Path.{sym, ap₂}
use mathlib.Core.Bool.{◌&&◌}
use mathlib.Core.List.{[], ◌∷◌}
use lib.Dec.{ltb}
use lib.ListN.{length-append}
use Rattle.state.proofs.Below.{each_none, each_step, each_end}
use Rattle.pair_tables.specs.Pairs.{pairs_fit}
use Rattle.pair_tables.proofs.Walk.{begun, ended, taken}
use Rattle.pair_tables.proofs.all_fit.Goals as goal

pub loop-pair-init : goal.loop-pair-init
loop-pair-init c = (begun (cc) (cc), sym (each_none _))

pub loop-pair-preserved : goal.loop-pair-preserved
loop-pair-preserved c =
    let x = c.args in
    let top = c.loop-pair in
    let step = c.in-Some.ensures.steps in
    let pair = taken x.table.now _ c.in-Some.pair.now _ _ _ _ top.invariant.0 step.0 step.1.0 step.1.1 in
    let fits = ap₂ (λ i j. ltb i x.limit && ltb j 32) pair.first pair.second in
    rw (length-append top.yielded (c.in-Some.pair ∷ [])) (pair.left, each_step _ _ _ _ top.invariant.1 fits)

pub returns : goal.returns
unfolding pairs_fit
returns c = each_end _ _ _ _ (ended c.loop-pair.invariant.0 c.in-None.ensures.steps.1.0) c.loop-pair.invariant.1
