-- `listing::firsts_of` meets its contract. The loop's invariant: the places below k say whether their number is the first of a pair.
-- Assumes nothing.
use Rattle.bits.specs.Rows.{cells_of}
use Rattle.state.specs.Walk.{has_first}
use Rattle.listing.proofs.Written.{Written}
use Rattle.listing.proofs.firsts_of.Given as goal

abbrev pub invariant-loop-k : goal.invariant-loop-k
invariant-loop-k l = Written (has_first (cells_of l.rows)) l.k l.out
