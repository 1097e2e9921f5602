-- `machine::step` meets its contract: a refusal leaves the state, else it is that which the instruction gives.
-- Assumes nothing.
use Rattle.std.proofs.Common.{◌≡◌, ap, ◌∙◌, Result, Err, rules}
use Rattle.verdicts.specs.Refusals.{refusal_number}
use Rattle.verdicts.specs.declared.Refusal.{Refusal}
use Rattle.state.specs.Site.{verdict}
use Rattle.state.specs.Stands.{site}
use Rattle.machine.proofs.Decide.{refused_step, accepted_step}
use Rattle.machine.proofs.step.Goals as goal

pub returns-in_err-check : goal.returns-in_err-check
returns-in_err-check c =
    let given : c.from_residual.result ≡ Err c.in_err-check.field-0.0 = search rules in
    ap (λ (r : Result Unit Refusal). verdict (refusal_number r) (site c.args.s.now)) given
    ∙ refused_step _ _ c.in_err-check.field-0.0 c.in_err-check.ensures

pub returns : goal.returns
returns c = accepted_step _ _ c.in_ok-check.ensures c.next.ensures
