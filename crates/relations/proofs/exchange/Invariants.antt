-- `relations::exchange` meets its contract. The loop's invariant: the first 2 * k rows are those of the exchange.
-- Assumes nothing.
use Prim.Native.Nat.{◌*◌}
use Rattle.state.proofs.Fill.{Filled}
use Rattle.relations.specs.Turning.{exchanged_row}
use Rattle.relations.proofs.exchange.Given as goal

abbrev pub invariant-loop-k : goal.invariant-loop-k
invariant-loop-k l = Filled (exchanged_row l.block l.mask l.rows) 0 32 (2 * l.k) l.out
