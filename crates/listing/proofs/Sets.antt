-- A set of numbers that are the first of a pair, row by row.
-- Assumes nothing.
use Prim.Native.Nat.{ℕ, zero, suc, ◌+◌, ◌-◌, ◌*◌, ◌^◌, ◌≤◌, ◌<◌}
use mathlib.Core.Path.{◌≡◌, refl, sym, ap, subst, ◌∙◌}
use mathlib.Core.Bool.{Bool, not}
use mathlib.Core.List.{[], ◌∷◌}
use native.Mathlib.Omega.{arith}
use native.Mathlib.Nat.{zero-add}
use lib.ListN.{length, get_or, take, drop}
use lib.Seq.{get_or-drop, drop-drop}
use Rattle.std.proofs.Common.{min}
use Rattle.std.proofs.lemmas.List.{take_all, drop_min, length-drop}
use Rattle.bits.specs.Bits.{places, word, is_empty}
use Rattle.bits.specs.Rows.{Rows, cells_of, Fit}
use Rattle.bits.proofs.Laws.{same_word}
use Rattle.state.specs.Tabulate.{tabulate}
use Rattle.state.specs.Walk.{has_first}
use Rattle.state.proofs.Fill.{Filled}
use Rattle.relations.proofs.Laws.{row_empty, rows_of_test}
use Rattle.relations.specs.Relations.{firsts}

-- row i of the numbers that are the first of some pair
abbrev pub firsts_row : Rows → ℕ → ℕ
firsts_row rows i = word places (λ j. has_first (cells_of rows) (i * places + j))

-- the numbers of the rows that are left
pub row_of_rest : (rows rest : Rows) (i : ℕ) → Fit rows → rest ≡ drop (i * places) rows → word places (has_first (cells_of rest)) ≡ firsts_row rows i
row_of_rest rows rest i fit e = same_word places _ _ (λ j h. rw e (at j))
  where
    at : (j : ℕ) → has_first (cells_of (drop (i * places) rows)) j ≡ has_first (cells_of rows) (i * places + j)
    at j =
        let same = get_or-drop (i * places) rows j 0 in
        sym (row_empty (drop (i * places) rows) j (subst (λ (n : ℕ). n < 2 ^ places) (sym same) (fit (i * places + j))))
        ∙ ap (λ (n : ℕ). not (is_empty n)) same ∙ row_empty rows (i * places + j) (fit (i * places + j))

-- what is left behind 32 rows, where there are so many
pub behind : (rest : Rows) (m : ℕ) → m ≡ min (length rest) places → take (length rest - m) (drop m rest) ≡ drop places rest
behind rest m e =
    let same : m ≡ min places (length rest) = omega (arith, e) in
    take_all (length rest - m) (drop m rest) (omega (arith, length-drop m rest)) ∙ ap (λ (n : ℕ). drop n rest) same ∙ drop_min places rest

-- one row further
pub further : (rows rest left : Rows) (i : ℕ) → rest ≡ drop (i * places) rows → left ≡ drop places rest → left ≡ drop ((i + 1) * places) rows
further rows rest left i e f =
    let next : i * places + places ≡ (i + 1) * places = omega arith in
    f ∙ ap (drop places) e ∙ drop-drop places (i * places) rows ∙ ap (λ (n : ℕ). drop n rows) next

pub all_rows : (n i : ℕ) (rows out : Rows) → n ≤ i → Filled (firsts_row rows) 0 n i out → cells_of out ≡ firsts (n * places) (cells_of rows)
unfolding firsts
all_rows n i rows out h w = rows_of_test n (has_first (cells_of rows)) out w.long (λ k l. w.front k (omega arith))

pub one_row : (test : ℕ → Bool) (row : ℕ) → row ≡ word places test → cells_of (row ∷ []) ≡ tabulate 32 test
one_row test row e = rows_of_test 1 test (row ∷ []) refl each
  where
    each : (i : ℕ) → i < 1 → get_or (row ∷ []) i 0 ≡ word places (λ j. test (i * places + j))
    each zero h = e ∙ sym (same_word places _ _ (λ j h. ap test (zero-add j)))
    each (suc i) h = absurd (omega arith)
