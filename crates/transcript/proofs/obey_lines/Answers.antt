-- `transcript::obey_lines` meets its contract. Each turn of the loop obeys the first of the lines that are left.
-- Assumes nothing.
use Rattle.transcript.proofs.Session.{filled, emptied, part_shorter, reached_none, reached_more, reached_all, first_takes}
use Rattle.transcript.proofs.obey_lines.Goals as goal

pub loop-rest-init : goal.loop-rest-init
loop-rest-init c = reached_none _ _ _ c.founding-s.ensures c.requires

pub slice_bounds-rest-count : goal.slice_bounds-rest-count
slice_bounds-rest-count c =
    let some = filled _ c.is_empty.ensures c.loop-rest-test.true in
    (first_takes _ _ _ _ _ _ c.loop-rest.invariant some (c.first_line-line.result) c.first_line-line.ensures.equation).1

pub loop-rest-smaller : goal.loop-rest-smaller
loop-rest-smaller c =
    let some = filled _ c.is_empty.ensures c.loop-rest-test.true in
    let takes = first_takes _ _ _ _ _ _ c.loop-rest.invariant some (c.first_line-line.result) c.first_line-line.ensures.equation in
    part_shorter _ _ takes.0 takes.1

pub loop-rest-preserved : goal.loop-rest-preserved
loop-rest-preserved c =
    let some = filled _ c.is_empty.ensures c.loop-rest-test.true in
    reached_more _ _ _ _ _ _ c.loop-rest.invariant some _ _ _ c.first_line-line.ensures.equation c.obey_line.ensures

pub returns : goal.returns
returns c = reached_all _ _ _ _ _ _ c.loop-rest.invariant (emptied _ c.is_empty.ensures c.loop-rest-test.false)

pub slice_bounds-rest-start : goal.slice_bounds-rest-start
slice_bounds-rest-start c =
    let some = filled _ c.is_empty.ensures c.loop-rest-test.true in
    let takes = first_takes _ _ _ _ _ _ c.loop-rest.invariant some c.first_line-line.result c.first_line-line.ensures.equation in
    takes.1
