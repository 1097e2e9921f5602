-- `site_writer::Contents::fields` meets its contract. Turn k of the loop fills in the fields of table k.
-- Assumes nothing.
use Rattle.state.specs.Stands.{site}
use Rattle.site_writer.proofs.Fields.{Filled}
use Rattle.site_writer.proofs.Contents.fields.Given as goal

abbrev pub invariant-loop-k : goal.invariant-loop-k
invariant-loop-k l = Filled (site l.self.state.now) l.self.labels.now l.table-items l.k l.at l.fields
