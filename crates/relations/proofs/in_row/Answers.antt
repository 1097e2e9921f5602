-- `relations::in_row` meets its contract.
-- Assumes nothing.
use Prim.Native.Nat.{ℕ, ◌^◌, ◌<◌}
use mathlib.Core.Path.{ap, subst, ◌∙◌}
use mathlib.Core.Bool.{not}
use Rattle.bits.specs.Bits.{places, is_empty}
use Rattle.relations.proofs.Laws.{row_empty}
use Rattle.relations.proofs.in_row.Goals as goal

pub returns : goal.returns
returns c =
    ap not c.is_empty.ensures ∙ ap (λ (n : ℕ). not (is_empty n)) c.row_of.ensures
    ∙ row_empty _ _ (subst (λ (n : ℕ). n < 2 ^ places) c.row_of.ensures c.row_of.type_inv)
