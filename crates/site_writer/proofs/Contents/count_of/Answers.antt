-- `site_writer::Contents::count_of` meets its contract.
-- Assumes nothing.
use native.Mathlib.Omega.{arith}
use Rattle.label_tables.proofs.Laws.{label_count_fits}
use Rattle.site_writer.proofs.Contents.count_of.Goals as goal

pub overflow_cast-result : goal.overflow_cast-result
overflow_cast-result c = omega (arith, label_count_fits c.args.self.labels.now c.requires.is_in_range c.requires.ascending)
