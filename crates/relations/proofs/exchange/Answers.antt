-- `relations::exchange` meets its contract. The loop's invariant: the first 2 * k rows are those of the exchange.
-- Assumes nothing.
use Prim.Native.Nat.{ℕ, ◌+◌, ◌*◌}
use mathlib.Core.Path.{◌∙◌}
use native.Mathlib.Omega.{arith}
use Rattle.state.proofs.Fill.{filled_more, filled_to, filled_all}
use Rattle.relations.specs.Turning.{exchanged}
use Rattle.relations.proofs.Turning.{even_row, odd_row}
use Rattle.relations.proofs.exchange.Goals as goal

pub loop-k-preserved : goal.loop-k-preserved
loop-k-preserved c =
    let k : ℕ = c.loop-k.k in
    filled_to _ _ _ _ _ (omega arith)
    (filled_more _ _ _ (2 * k + 1) _ _ (omega arith) (c.odd_row.ensures ∙ odd_row _ _ _ k)
    (filled_more _ _ _ (2 * k) _ _ (omega arith) (c.even_row.ensures ∙ even_row _ _ _ k) c.loop-k.invariant))

pub returns : goal.returns
unfolding exchanged
returns c = filled_all _ _ _ _ _ (omega arith) c.loop-k.invariant
