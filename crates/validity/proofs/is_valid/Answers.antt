-- `validity::is_valid` meets its contract.
-- Assumes nothing.
use mathlib.Core.Path.{sym, subst}
use mathlib.Core.Logic.{◌↔◌}
use mathlib.Core.Bool.{Bool}
use native.Mathlib.Omega.{arith}
use lib.Dec.{T}
use Rattle.state.specs.Stands.{site}
use Rattle.state.proofs.Stands.{shaped_by_rows}
use Rattle.soundness.specs.Sound.{Valid}
use Rattle.soundness.proofs.Laws.{valid_decided}
use Rattle.validity.proofs.Laws.{valid_by_first}
use Rattle.validity.proofs.is_valid.Goals as goal

pub returns : goal.returns
unfolding site
returns c =
    let s = site c.args.s.now in
    let shaped =
    shaped_by_rows c.args.s.now (omega arith) (omega arith) (omega arith) (omega arith) (omega arith) (omega arith)
    (omega arith) (omega arith) in
    let e = valid_by_first s shaped _ _ c.first_lacking.ensures c.is_none.ensures in
    record { equation = e; meaning = subst (λ (b : Bool). T b ↔ Valid s) (sym e) (valid_decided s) }
