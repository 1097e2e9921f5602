-- `label_tables::all_ascend` meets its contract: the first byte of each entry is its area.
-- Assumes nothing.
use Rattle.std.proofs.Common.{rules}
use borrow.Author.Tests.{tests}
use denote.Ref.{Bor}
use mathlib.Core.List.{List}
use Prim.Native.Nat.{ℕ}
use lib.Dec.{ltb}
use lib.ListN.{get_or}
use Rattle.label_tables.proofs.Runs.{cut, entries_ascend}
use Rattle.label_tables.proofs.all_ascend.Goals as goal

pub returns : goal.returns
returns c =
    let t = c.args.table.now in
    let run = c.is_sorted_by.ensures.runs in
    let pieces = c.chunks_exact.ensures in
    let cuts = cut t run.0 run.1 pieces.rest pieces.size (pieces.runs run.0 run.0.seen) in
    let areas = run.2.1 (λ (x y : Bor (List ℕ)). ltb (get_or x.now 0 0) (get_or y.now 0 0)) (λ x y r q k. search (rules, tests)) in
    entries_ascend t run.0 cuts _ run.2.0 areas
