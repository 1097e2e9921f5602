-- `output::put` meets its contract: inside the buffer the byte is stored, and past its end nothing changes.
-- Assumes nothing.
use mathlib.Core.Path.{refl, sym}
use native.Mathlib.Omega.{arith}
use Rattle.output.specs.Buffer.{laid, place_behind}
use Rattle.output.proofs.Placing.{laid_past}
use Rattle.output.proofs.put.Goals as goal

pub returns-then-at-out : goal.returns-then-at-out
unfolding place_behind laid
returns-then-at-out c = record { place = omega arith; buffer = refl }

pub returns : goal.returns
unfolding place_behind
returns c = record { place = omega arith; buffer = sym (laid_past _ _ _ c.if-at-out.false) }
