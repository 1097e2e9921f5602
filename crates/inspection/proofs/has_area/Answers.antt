-- `inspection::has_area` meets its contract.
-- Assumes nothing.
use mathlib.Core.Path.{ap, ◌∙◌}
use mathlib.Core.Bool.{not}
use native.Mathlib.Omega.{arith}
use Rattle.std.proofs.Common.{rules}
use Rattle.state.specs.Stands.{site}
use Rattle.inspection.proofs.Parts.{some_by_row}
use Rattle.inspection.proofs.has_area.Goals as goal

pub returns : goal.returns
unfolding site
returns c =
    let s = c.args.s.now in
    ap not c.is_empty.ensures ∙ some_by_row s.areas s.owners (omega arith) (search rules)
