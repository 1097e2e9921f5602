-- `pair_tables::fill` meets its contract. The loop's invariant: the rows, with the one at hand in its place, are what
-- was there with the pairs put into it that were taken.
-- Assumes nothing.
use Prim.Native.Nat.{ℕ, ◌+◌}
use mathlib.Core.Path.{◌≡◌, ap, ap₂, ◌∙◌}
use mathlib.Core.Bool.{true}
use mathlib.Core.List.{List, [], ◌∷◌}
use lib.ListN.{get_or, set, length-append}
use Rattle.std.proofs.lemmas.List.{set-get_or}
use Rattle.bits.specs.Bits.{with_bit}
use Rattle.bits.specs.Rows.{Rows, cells_of}
use Rattle.state.specs.Cells.{put}
use Rattle.pair_tables.specs.Pairs.{first_byte, second_byte, with_some}
use Rattle.pair_tables.proofs.Pairs.{with_more}
use Rattle.pair_tables.proofs.AtHand.{at_hand}
use Rattle.pair_tables.proofs.Walk.{begun, ended, taken}
use Rattle.pair_tables.proofs.fill.Invariants.{AtHand}
use Rattle.pair_tables.proofs.fill.Goals as goal

begun_rows : (rows : Rows) (table : List ℕ) (row : ℕ) → row ≡ get_or rows 0 0 → AtHand rows table 0 rows 0 row
unfolding with_some
begun_rows rows table row e = ap cells_of (ap (set rows 0) e ∙ set-get_or rows 0 0)

-- one turn, by what the calls promise
turn : (rows₀ : Rows) (table : List ℕ) (k : ℕ) (before after : Rows) (i j at row own more : ℕ) → AtHand rows₀ table k before at row
    → i ≡ first_byte table k → j ≡ second_byte table k
    → set after i own ≡ set before at row → more ≡ with_bit own j true
    → AtHand rows₀ table (k + 1) after i more
turn rows₀ table k before after i j at row own more inv f s e m =
    ap (λ (n : ℕ). cells_of (set after i n)) m ∙ at_hand after i j own true
    ∙ ap₂ (λ (x y : ℕ). put (cells_of (set after i own)) x y true) f s
    ∙ with_more k table (cells_of (set after i own)) (cells_of rows₀) (ap cells_of e ∙ inv)

pub loop-pair-init : goal.loop-pair-init
loop-pair-init c = (begun (cc) (cc), begun_rows _ _ _ c.row_of-row.ensures)

pub loop-pair-preserved : goal.loop-pair-preserved
loop-pair-preserved c =
    let table = c.args.table.now in
    let top = c.loop-pair in
    let step = c.in-Some.ensures.steps in
    let pair = taken table _ c.in-Some.pair.now _ _ _ _ top.invariant.0 step.0 step.1.0 step.1.1 in
    let own = c.turned-own in
    rw (length-append top.yielded (c.in-Some.pair ∷ []))
    (pair.left, turn _ table _ top.rows own.new.rows _ _ top.at top.row own.result _ top.invariant.1 pair.first pair.second own.ensures c.with_bit-row.ensures)

pub returns : goal.returns
returns c =
    let top = c.loop-pair in
    ap cells_of c.store.ensures ∙ top.invariant.1
    ∙ ap (λ (n : ℕ). with_some n c.args.table.now (cells_of c.args.rows.now)) (ended top.invariant.0 c.in-None.ensures.steps.1.0)
