-- `relations::is_pair` meets its contract: past the last area there is no pair, and no bit of a row.
-- Assumes nothing.
use Prim.Native.Nat.{ℕ, ◌^◌, ◌<◌}
use mathlib.Core.Path.{◌≡◌, sym, ap, subst, ◌∙◌}
use mathlib.Core.Logic.{inl}
use native.Mathlib.Omega.{arith}
use native.Mathlib.Decide.{dec_lt}
use lib.ListN.{get_or}
use Rattle.bits.specs.Bits.{bit, places}
use Rattle.bits.specs.Rows.{Rows, cells_of}
use Rattle.bits.proofs.Laws.{bit_past}
use Rattle.state.specs.Cells.{pair}
use Rattle.state.proofs.Laws.{pair_past}
use Rattle.relations.proofs.Laws.{pair_bit}
use Rattle.relations.proofs.is_pair.Goals as goal

read : (rows : Rows) (i j row : ℕ) → row < 2 ^ places → row ≡ get_or rows i 0 → bit row j ≡ pair (cells_of rows) i j
read rows i j row fits e = ap (λ (n : ℕ). bit n j) e ∙ go (dec_lt j places)
  where
    go : Dec (j < places) → bit (get_or rows i 0) j ≡ pair (cells_of rows) i j
    go (yes h) = sym (pair_bit rows i j h)
    go (no h) = bit_past places (get_or rows i 0) j (subst (λ (n : ℕ). n < 2 ^ places) e fits) (omega arith) ∙ sym (pair_past (cells_of rows) i j (inl (omega arith)))

pub returns : goal.returns
returns c =
    c.is_set.ensures ∙ read _ _ _ _ c.row_of.type_inv c.row_of.ensures
