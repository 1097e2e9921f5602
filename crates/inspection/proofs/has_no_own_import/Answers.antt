-- `inspection::has_no_own_import` meets its contract.
-- Assumes nothing.
use mathlib.Core.Path.{sym, subst, ◌∙◌}
use mathlib.Core.Logic.{◌↔◌}
use mathlib.Core.Bool.{Bool}
use native.Mathlib.Omega.{arith}
use lib.Dec.{T}
use Rattle.state.specs.Stands.{site}
use Rattle.soundness.specs.Sound.{NoOwnImport}
use Rattle.soundness.proofs.Laws.{no_own_import_decided}
use Rattle.inspection.proofs.Parts.{disjoint_by_rows}
use Rattle.inspection.proofs.has_no_own_import.Goals as goal

pub returns : goal.returns
unfolding site
returns c =
    let s = c.args.s.now in
    let e = c.are_disjoint.ensures ∙ disjoint_by_rows s.imports s.definitions (omega arith) in
    record { equation = e; meaning = subst (λ (b : Bool). T b ↔ NoOwnImport (site s)) (sym e) (no_own_import_decided (site s)) }
