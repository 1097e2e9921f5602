-- `relations::is_member` meets its contract.
-- Assumes nothing.
use Prim.Native.Nat.{ℕ, ◌/◌, ◌%◌}
use mathlib.Core.Path.{◌≡◌, sym, ap, ◌∙◌}
use lib.ListN.{get_or}
use Rattle.bits.specs.Bits.{bit}
use Rattle.bits.specs.Rows.{Rows, cells_of}
use Rattle.state.specs.Cells.{width, member}
use Rattle.relations.proofs.Laws.{member_bit}
use Rattle.relations.proofs.is_member.Goals as goal

read : (rows : Rows) (i row : ℕ) → row ≡ get_or rows (i / width) 0 → bit row (i % width) ≡ member (cells_of rows) i
read rows i row e = ap (λ (n : ℕ). bit n (i % width)) e ∙ sym (member_bit rows i)

pub returns : goal.returns
returns c = c.is_set.ensures ∙ read _ _ _ c.row_of.ensures
