-- `listing::firsts` meets its contract. The loop's invariant: the rows before are those of the numbers before.
-- Assumes nothing.
use Prim.Native.Nat.{◌*◌}
use mathlib.Core.Path.{◌≡◌}
use lib.ListN.{drop}
use Rattle.bits.specs.Bits.{places}
use Rattle.state.proofs.Fill.{Filled}
use Rattle.listing.proofs.Sets.{firsts_row}
use Rattle.listing.proofs.firsts.Given as goal

abbrev pub invariant-loop-row : goal.invariant-loop-row
invariant-loop-row g l = (l.rest ≡ drop (l.row-index * places) l.rows) × Filled (firsts_row l.rows) 0 g.row.N l.row-index l.row-items
