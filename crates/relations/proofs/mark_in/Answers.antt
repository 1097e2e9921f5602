-- `relations::mark_in` meets its contract.
-- Assumes nothing.
use mathlib.Core.Path.{ap, ◌∙◌}
use Rattle.bits.specs.Rows.{cells_of}
use Rattle.relations.proofs.Laws.{marked}
use Rattle.relations.proofs.mark_in.Goals as goal

pub returns : goal.returns
returns c = ap cells_of c.write.ensures ∙ marked _ _ _
