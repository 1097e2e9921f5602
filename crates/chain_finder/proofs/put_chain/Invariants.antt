-- `chain_finder::put_chain` meets its contract. The loop's invariant: the rows up to number n have the areas from which so many steps lead to the area,
-- no area that defines the object is in one before row n, and nothing is written.
-- Assumes nothing.
use Prim.Native.Nat.{◌≤◌}
use mathlib.Core.Path.{◌≡◌}
use Rattle.bits.specs.Rows.{cells_of}
use Rattle.chain_finder.proofs.Backwards.{Tried}
use Rattle.chain_finder.proofs.put_chain.Given as goal

abbrev pub invariant-loop-n : goal.invariant-loop-n
invariant-loop-n l =
    (l.n ≤ 9) × (l.out ≡ l.initial.out) × Tried (cells_of l.s.structure) l.o.imported l.o.exported l.area l.o.defined l.n l.row l.rows
