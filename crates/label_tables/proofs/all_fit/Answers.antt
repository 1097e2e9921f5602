-- `label_tables::all_fit` meets its contract: an entry by itself fits where it does in the table.
-- Assumes nothing.
use Rattle.std.proofs.Common.{rules}
use borrow.Author.Tests.{tests}
use Prim.Native.Nat.{ℕ, ◌+◌, ◌*◌}
use mathlib.Core.Path.{◌≡◌, ap, ap₂, ◌∙◌}
use mathlib.Core.Bool.{Bool, ◌&&◌}
use mathlib.Core.List.{List}
use native.Mathlib.Omega.{arith}
use lib.Dec.{ltb, leb}
use lib.ListN.{get_or}
use Rattle.state.specs.Below.{each_below}
use Rattle.label_tables.specs.Labels.{label_area, label_length, byte_fits, label_fits, labels_fit}
use Rattle.label_tables.proofs.Entries.{each_same}
use Rattle.label_tables.proofs.Runs.{Entry, cut, each_entry, entry_area}
use Rattle.label_tables.proofs.all_fit.Goals as goal

by_itself : (t e : List ℕ) (k : ℕ) → Entry t k e → label_fits e 0 ≡ label_fits t k
by_itself t e k b =
    ap₂ (λ (x y : ℕ). ltb x 32 && leb 1 y && leb y 30 && each_below 30 (λ i. byte_fits y i (get_or e (2 + i) 0))) (entry_area t e k b) (b 1 (omega arith))
    ∙ ap (λ (text : Bool). ltb (label_area t k) 32 && leb 1 (label_length t k) && leb (label_length t k) 30 && text)
    (each_same 30 _ _ (λ i h.
    let there : k * 32 + (2 + i) ≡ k * 32 + 2 + i = omega arith in
    ap (byte_fits (label_length t k) i) (b (2 + i) (omega arith) ∙ ap (λ (n : ℕ). get_or t n 0) there)))

pub returns : goal.returns
unfolding labels_fit
returns c =
    let t = c.args.table.now in
    let run = c.all.ensures.runs in
    let pieces = c.chunks_exact.ensures in
    let cuts = cut t run.0 run.1 pieces.rest pieces.size (pieces.runs run.0 run.0.seen) in
    each_entry t run.0 cuts _ _ (λ e. label_fits e 0) (label_fits t) (λ x b q k. search (rules, tests)) (λ k e b. by_itself t e k b) _ run.2
