-- The claim of specs/Claims.antt, proved under its name.
-- Assumes nothing.
use mathlib.Core.Path.{ap}
use mathlib.Core.Bool.{not}
use mathlib.Core.List.{◌∷◌, ◌++◌}
use Rattle.state.specs.Checks.{◌when◌, numbers}
use Rattle.soundness.specs.Tests.{is_sound}
use Rattle.instructions.specs.Decode.{Decoded, misfits}
use Rattle.refusals.specs.Refusals.{checks_of}
use Rattle.refusals.specs.Claims

pub refusal_order : Claims.RefusalOrder
refusal_order s bytes x fit =
    ap (λ (d : Decoded). numbers ((12 when not (is_sound s)) ∷ (misfits d ++ checks_of s bytes d))) fit
