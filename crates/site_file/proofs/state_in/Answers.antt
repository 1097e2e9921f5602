-- `site_file::state_in` meets its contract.
-- Assumes nothing.
use mathlib.Core.Path.{◌∙◌}
use Rattle.site_tables.specs.Tables.{state_by, relations_of}
use Rattle.site_file.specs.Reading.{state_in}
use Rattle.site_file.proofs.state_in.Goals as goal

pub returns : goal.returns
unfolding state_in
returns c =
    c.state_of.ensures
    ∙ (λ i. state_by (relations_of (c.part.ensures i) (c.part-2.ensures i)
    (c.part-3.ensures i) (c.part-4.ensures i) (c.part-5.ensures i)))
