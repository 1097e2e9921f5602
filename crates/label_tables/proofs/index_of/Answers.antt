-- `label_tables::index_of` meets its contract: the first byte of each entry is its area.
-- Assumes nothing.
use Rattle.std.proofs.Common.{rules}
use borrow.Author.Tests.{tests}
use Prim.Native.Nat.{ℕ, ◌<◌}
use mathlib.Core.Path.{◌≡◌, sym, ap}
use mathlib.Core.List.{List}
use lib.Dec.{eqb}
use lib.ListN.{get_or}
use Rattle.std.specs.Prelude.{Option, Some, None}
use Rattle.std.specs.Option.{MatchOption}
use Rattle.label_tables.specs.Labels.{label_count, label_area, label_index, label_found}
use Rattle.label_tables.proofs.Entries.{found_at, found_none}
use Rattle.label_tables.proofs.Runs.{cut, first_entry, entry_area}
use Rattle.label_tables.proofs.index_of.Goals as goal

found : (t : List ℕ) (a : ℕ) (r : Option ℕ) → MatchOption r (label_index t a ≡ label_count t) (λ i. (i < label_count t) × (label_index t a ≡ i)) → r ≡ label_found t a
found t a None m = sym (found_none t a m)
found t a (Some i) m = sym (found_at t a i m.0 m.1)

pub returns : goal.returns
unfolding label_index
returns c =
    let t = c.args.table.now in
    let a = c.args.area in
    let run = c.position.ensures.runs in
    let pieces = c.chunks_exact.ensures in
    let cuts = cut t run.0 run.1 pieces.rest pieces.size (pieces.runs run.0 run.0.seen) in
    found t a _
    (first_entry t run.0 cuts _ _ (λ e. eqb (get_or e 0 0) a) (λ k. eqb (label_area t k) a) (λ x b q k. search (rules, tests))
    (λ k e b. ap (λ (n : ℕ). eqb n a) (entry_area t e k b)) _ run.2)
