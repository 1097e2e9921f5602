-- `site_writer::Contents::fields` meets its contract. Turn k of the loop fills in the fields of table k.
-- Assumes nothing.
use Prim.Native.Nat.{◌+◌, ◌*◌, ◌≤◌}
use mathlib.Core.Path.{ap}
use native.Mathlib.Omega.{arith}
use Rattle.state.specs.Stands.{site}
use Rattle.site_format.specs.Format.{Layout}
use Rattle.site_writer.proofs.Fields.{next_fits, filled_more, filled_all}
use Rattle.site_writer.proofs.Contents.fields.Goals as goal
use Rattle.site_writer.proofs.Contents.fields.Goals.{After-layout_of}

-- where the next table stands
fits : (c : After-layout_of) → c.loop-k.at + c.count_of-count.result * c.layout_of.result.size ≤ 65535
fits c =
    next_fits (site c.args.self.state.now) c.args.self.labels.now _ c.all-tables.ensures _ _ _ c.loop-k.invariant _ c.loop-k-test.true
    c.requires _ _ c.count_of-count.ensures (ap (λ (l : Layout). l.size) c.layout_of.ensures)

pub overflow_mul-at : goal.overflow_mul-at
overflow_mul-at c = omega (arith, fits (goal.at.overflow_mul-at c).After-layout_of)

pub overflow_add-at : goal.overflow_add-at
overflow_add-at c = omega (arith, fits (goal.at.overflow_add-at c).After-layout_of)

pub loop-k-preserved : goal.loop-k-preserved
loop-k-preserved c =
    filled_more (site c.args.self.state.now) c.args.self.labels.now _ c.all-tables.ensures _ _ _ c.loop-k.invariant _ c.loop-k-test.true
    c.requires _ _ c.count_of-count.ensures (ap (λ (l : Layout). l.size) c.layout_of.ensures)

pub returns : goal.returns
returns c =
    filled_all (site c.args.self.state.now) c.args.self.labels.now _ c.all-tables.ensures _ _ _ c.loop-k.invariant c.loop-k-test.false
