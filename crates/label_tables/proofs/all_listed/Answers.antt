-- `label_tables::all_listed` meets its contract: the first byte of each entry is its area.
-- Assumes nothing.
use Rattle.std.proofs.Common.{rules}
use borrow.Author.Tests.{tests}
use mathlib.Core.Path.{ap}
use lib.ListN.{get_or}
use Rattle.bits.specs.Rows.{cells_of}
use Rattle.state.specs.Cells.{member}
use Rattle.label_tables.specs.Labels.{label_listed, labels_listed}
use Rattle.label_tables.proofs.Runs.{cut, each_entry, entry_area}
use Rattle.label_tables.proofs.all_listed.Goals as goal

pub returns : goal.returns
unfolding labels_listed
returns c =
    let t = c.args.table.now in
    let areas = cells_of c.args.areas.now in
    let run = c.all.ensures.runs in
    let pieces = c.chunks_exact.ensures in
    let cuts = cut t run.0 run.1 pieces.rest pieces.size (pieces.runs run.0 run.0.seen) in
    each_entry t run.0 cuts _ _ (λ e. member areas (get_or e 0 0)) (label_listed areas t) (λ x b q k. search (rules, tests))
    (λ k e b. ap (member areas) (entry_area t e k b)) _ run.2
