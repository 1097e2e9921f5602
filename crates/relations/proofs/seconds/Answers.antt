-- `relations::seconds` meets its contract. The loop's invariant: the places of `out` are those of the rows before.
-- Assumes nothing.
use mathlib.Core.Path.{sym, subst}
use native.Mathlib.Omega.{arith}
use Rattle.relations.proofs.Laws.{Joined, joined_none, joined_more, joined_all}
use Rattle.relations.proofs.seconds.Goals as goal

pub loop-row-init : goal.loop-row-init
loop-row-init c = joined_none _

pub loop-row-preserved : goal.loop-row-preserved
loop-row-preserved c =
    subst (Joined _ _) (sym c.union-out.ensures) (joined_more _ _ _ c.loop-row.invariant)

pub returns : goal.returns
returns c = joined_all _ _ _ (omega arith) c.loop-row.invariant
