-- `relations::in_column` meets its contract: past the last area there is no column, and no bit of a row.
-- Assumes nothing.
use Prim.Native.Nat.{ℕ, ◌<◌}
use mathlib.Core.Path.{◌≡◌, sym, ap, ◌∙◌}
use native.Mathlib.Omega.{arith}
use native.Mathlib.Decide.{dec_lt}
use Rattle.bits.specs.Bits.{bit, places, word}
use Rattle.bits.specs.Rows.{Rows, cells_of}
use Rattle.bits.proofs.Laws.{bit_past, word_bit, word_fits}
use Rattle.state.specs.Walk.{has_second}
use Rattle.relations.proofs.Laws.{no_column}
use Rattle.relations.proofs.in_column.Goals as goal

read : (rows : Rows) (j row : ℕ) → row ≡ word places (has_second (cells_of rows)) → bit row j ≡ has_second (cells_of rows) j
read rows j row e = ap (λ (n : ℕ). bit n j) e ∙ go (dec_lt j places)
  where
    go : Dec (j < places) → bit (word places (has_second (cells_of rows))) j ≡ has_second (cells_of rows) j
    go (yes h) = word_bit places _ j h
    go (no h) = bit_past places _ j (word_fits places _) (omega arith) ∙ sym (no_column rows j (omega arith))

pub returns : goal.returns
returns c = c.is_set.ensures ∙ read _ _ _ c.seconds.ensures
