-- `machine::check` meets its contract.
-- Assumes nothing.
use Rattle.std.proofs.Common.{◌≡◌, sym, ◌∙◌, rules}
use Rattle.verdicts.specs.Refusals.{number, refusal_number}
use Rattle.state.proofs.Bools.{holds}
use Rattle.machine.proofs.Decide.{unsound_number, refused_number, found_number}
use Rattle.machine.proofs.check.Goals as goal

pub returns-else-is_sound : goal.returns-else-is_sound
returns-else-is_sound c = unsound_number _ _ (sym c.is_sound.ensures.equation ∙ c.if-is_sound.false)

pub returns-in_default : goal.returns-in_default
returns-in_default c =
    let given : refusal_number c.map.result ≡ number c.in_default.field-0 = search rules in
    given ∙ refused_number _ _ (c.is_sound.ensures.meaning.0 (holds c.if-is_sound.true)) c.in_default.field-0 (sym c.in_default.is ∙ c.decode-decoded.ensures.equation)

pub returns-in-Ok : goal.returns-in-Ok
returns-in-Ok c =
    found_number _ _ (c.is_sound.ensures.meaning.0 (holds c.if-is_sound.true)) c.in-Ok.x (sym c.in-Ok.is ∙ c.decode-decoded.ensures.equation) c.check.ensures
