-- What rows hold is counted row by row.
-- Assumes nothing.
use mathlib.Core.Path.{◌≡◌, refl, sym, ap, ◌∙◌}
use Rattle.std.specs.Prelude.{◌+◌, ℕ, [], ◌∷◌, sum_by}
use Rattle.std.proofs.lemmas.List.Sums.{sum_by-cons}
use Rattle.bits.specs.Bits.{size}
use Rattle.bits.specs.Rows.{Rows, cells_of}
use Rattle.state.specs.Walk.{count}
use Rattle.relations.proofs.Laws.{count_of_row}

pub count_is_sum : (rows : Rows) → count (cells_of rows) ≡ sum_by size rows
unfolding count cells_of
count_is_sum [] = refl
count_is_sum (row ∷ rest) = count_of_row row rest ∙ ap (λ (n : ℕ). size row + n) (count_is_sum rest) ∙ sym (sum_by-cons size row rest)
