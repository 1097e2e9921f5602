-- `recipes::next` meets its contract.
-- Assumes nothing.
use Rattle.std.proofs.Common.{◌≡◌, Err, ap, ◌∙◌, rules}
use Rattle.successors.specs.Successor.{successor_of}
use Rattle.machine.proofs.Decide.{refused_number, found_number, refused_step, accepted_step}
use Rattle.recipes.proofs.next.Goals as goal

pub returns-in_err-x : goal.returns-in_err-x
returns-in_err-x c =
    let refusal = c.in_err-x.field-0.0 in
    let given : c.from_residual.result ≡ Err refusal = search rules in
    rw given (refused_step _ _ refusal (refused_number _ _ c.requires refusal c.in_err-x.ensures.equation))

pub returns-in_err-check : goal.returns-in_err-check
returns-in_err-check c =
    let refusal = c.in_err-check.field-0.0 in
    let given : c.from_residual-in_err-check.result ≡ Err refusal = search rules in
    rw given (refused_step _ _ refusal (found_number _ _ c.requires c.in_ok-x.x c.in_ok-x.ensures.equation c.in_err-check.ensures))

pub returns : goal.returns
returns c =
    accepted_step _ _ (found_number _ _ c.requires c.in_ok-x.x c.in_ok-x.ensures.equation c.in_ok-check.ensures)
    (c.successor.ensures ∙ ap (successor_of _ c.args.bytes) c.in_ok-x.ensures.equation)
