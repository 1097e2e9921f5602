-- `inspection::are_disjoint` meets its contract. The loop's invariant: what is apart so far is whether the rows so far are.
-- Assumes nothing.
use Prim.Native.Nat.{ℕ}
use mathlib.Core.Path.{sym, ap, ap₂, ◌∙◌}
use native.Mathlib.Omega.{arith}
use lib.ListN.{length}
use Rattle.std.proofs.lemmas.List.{length_push}
use Rattle.std.proofs.lemmas.Slice.Zip.{zip_turn, zip_end}
use Rattle.bits.specs.Bits.{intersection, is_empty}
use Rattle.state.specs.Below.{each_below}
use Rattle.state.proofs.Below.{each_none, each_step, each_end}
use Rattle.inspection.specs.Parts.{apart_at}
use Rattle.inspection.proofs.are_disjoint.Goals as goal

pub loop-this-init : goal.loop-this-init
loop-this-init c = sym (each_none _)

pub loop-this-preserved : goal.loop-this-preserved
loop-this-preserved c =
    let x = c.args in
    let done = c.loop-this.yielded in
    let turn = zip_turn x.these.now x.those.now done _ _ c.next.new.self _ (cc) (cc) c.loop-this.yielded_by _ c.in-Some.is c.next.ensures.steps in
    each_step _ (length done) _ _ c.loop-this.invariant
    (c.is_empty-apart.ensures ∙ ap is_empty (c.intersection.ensures ∙ ap₂ intersection (turn.2 0) (turn.3 0)))
    ∙ ap (λ (n : ℕ). each_below n (apart_at x.these.now x.those.now)) (sym (length_push done _))

pub returns : goal.returns
returns c =
    let x = c.args in
    let all = zip_end x.these.now x.those.now c.loop-this.yielded _ _ c.next.new.self _ (cc) (cc) c.loop-this.yielded_by c.in-None.is c.next.ensures.steps in
    each_end _ 64 (length c.loop-this.yielded) _ (omega (arith, all)) c.loop-this.invariant
