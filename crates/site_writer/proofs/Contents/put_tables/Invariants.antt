-- `site_writer::Contents::put_tables` meets its contract. Turn k of the loop lays table k.
-- Assumes nothing.
use Rattle.output.proofs.Placing.{LaidTo}
use Rattle.state.specs.Stands.{site}
use Rattle.site_encoding.specs.Encode.{body_of}
use Rattle.site_writer.proofs.Left.{left}
use Rattle.site_writer.proofs.Contents.put_tables.Given as goal

abbrev pub invariant-loop-table : goal.invariant-loop-table
invariant-loop-table l =
    LaidTo 6 (λ k. body_of (site l.self.state.now) l.self.labels.now (left l.table-items k)) l.table-index l.at l.initial.out l.table_at l.out
