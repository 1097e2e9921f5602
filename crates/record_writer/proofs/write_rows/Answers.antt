-- `record_writer::write_rows` meets its contract. The loop's invariant: the bytes of the first i rows are laid.
-- Assumes nothing.
use mathlib.Core.Path.{◌∙◌}
use native.Mathlib.Omega.{arith}
use Rattle.record_writer.proofs.Lay.{laid_more, laid_all}
use Rattle.record_writer.proofs.write_rows.Goals as goal

pub loop-i-preserved : goal.loop-i-preserved
loop-i-preserved c =
    laid_more _ _ _ _ c.loop-i-test.true _ _ _ (omega arith) c.requires (c.copy_from_slice.ensures.after ∙ c.to_le_bytes.ensures) c.loop-i.invariant

pub returns : goal.returns
returns c = laid_all _ _ _ _ _ (omega arith) c.loop-i.invariant
