-- `site_header::is_placed` meets its contract. The loop's invariant: whether the tables that are left are placed from
-- here on decides.
-- Assumes nothing.
use Rattle.std.proofs.Common.{◌<◌, ◌≤◌, length, arith, sym, ◌∙◌}
use Rattle.std.proofs.lemmas.Grind.{common_steps}
use Rattle.site_format.specs.Format as F
use Rattle.site_format.specs.Format.{held}
use Rattle.site_format.proofs.Tables.{field_by, size_by}
use Rattle.site_header.proofs.Loop.{placed_more, placed_none, six}
use Rattle.site_header.proofs.is_placed.Goals as goal

pub loop-table-preserved : goal.loop-table-preserved
loop-table-preserved c =
    let file = c.args.file.now in
    let top = c.loop-table in
    let layout = c.layout_of-layout in
    let more : top.table-index < length c.all-table-items.result = omega (arith, six _ c.all-table-items.ensures, c.loop-table-test.true) in
    let placed = sym (field_by file (λ (l : F.Layout). l.offset_at) c.field_at.ensures layout.ensures) ∙ c.if-field_at-at.false in
    let sized = size_by file _ {row = F.as_layout layout.result} c.field_at-in-loop-table.ensures layout.ensures in
    (grind (arith, common_steps), sym (placed_more file _ _ _ _ _ more placed sized) ∙ top.invariant.1)

pub returns : goal.returns
returns c =
    let ts = c.all-table-items.result in
    let none : length ts ≤ c.loop-table.table-index = omega (arith, six ts c.all-table-items.ensures, c.loop-table-test.false) in
    sym (placed_none c.args.file.now ts c.loop-table.table-index c.loop-table.at none) ∙ c.loop-table.invariant.1
