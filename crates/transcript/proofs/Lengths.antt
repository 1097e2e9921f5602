-- How long what is printed is.
-- Assumes nothing.
use Prim.Native.Nat.{ℕ, suc, ◌+◌, ◌*◌, ◌≤◌, ◌<◌}
use mathlib.Core.Path.{◌≡◌}
use mathlib.Core.List.{List, [], ◌∷◌, ◌++◌}
use native.Mathlib.Omega.{arith}
use lib.ListN.{length, get_or, length-append}
use Rattle.output.specs.Decimal.{decimal}
use Rattle.lines.specs.Lines.{newline, space}
use Rattle.output.proofs.Laws.{decimal_length}
use Rattle.transcript.specs.Transcript.{result_line, result_lines, spaced, state_word, state_line}

line_length : (k result : ℕ) → k < 100000 → result < 100 → length (result_line k result) ≤ 9
unfolding result_line
line_length k result below small =
    let number : length (decimal k) ≤ 5 = decimal_length 4 k below in
    let said : length (decimal result) ≤ 2 = decimal_length 1 result small in
    let all : length (decimal k ++ (space ∷ decimal result) ++ (newline ∷ [])) ≡ length (decimal k ++ (space ∷ decimal result)) + 1
    = length-append (decimal k ++ (space ∷ decimal result)) (newline ∷ []) in
    let front : length (decimal k ++ (space ∷ decimal result)) ≡ length (decimal k) + suc (length (decimal result)) = length-append (decimal k) (space ∷ decimal result) in
    omega arith

pub lines_length : (k : ℕ) (results : List ℕ) → k + length results ≤ 100000 → ((i : ℕ) → get_or results i 0 < 100) → length (result_lines k results) ≤ 9 * length results
unfolding result_lines
lines_length k [] below small = omega arith
lines_length k (result ∷ rest) below small =
    let here : length (result_line k result) ≤ 9 = line_length k result (omega arith) (small 0) in
    let later : length (result_lines (k + 1) rest) ≤ 9 * length rest = lines_length (k + 1) rest (omega arith) (λ i. small (suc i)) in
    let both : length (result_line k result ++ result_lines (k + 1) rest) ≡ length (result_line k result) + length (result_lines (k + 1) rest)
    = length-append (result_line k result) (result_lines (k + 1) rest) in
    omega arith

spaced_length : (numbers : List ℕ) → ((i : ℕ) → get_or numbers i 0 ≤ 2048) → length (spaced numbers) ≤ 5 * length numbers
unfolding spaced
spaced_length [] most = omega arith
spaced_length (n ∷ rest) most =
    let first : n ≤ 2048 = most 0 in
    let here : length (decimal n) ≤ 4 = decimal_length 3 n (omega arith) in
    let later : length (spaced rest) ≤ 5 * length rest = spaced_length rest (λ i. most (suc i)) in
    let both : length (decimal n ++ spaced rest) ≡ length (decimal n) + length (spaced rest) = length-append (decimal n) (spaced rest) in
    omega arith

pub state_length : (numbers : List ℕ) → ((i : ℕ) → get_or numbers i 0 ≤ 2048) → length (state_line numbers) ≤ 6 + 5 * length numbers
unfolding state_line
state_length numbers most =
    let counts : length (spaced numbers) ≤ 5 * length numbers = spaced_length numbers most in
    let all : length (state_word ++ spaced numbers ++ (newline ∷ [])) ≡ length (state_word ++ spaced numbers) + 1 = length-append (state_word ++ spaced numbers) (newline ∷ []) in
    let front : length (state_word ++ spaced numbers) ≡ 5 + length (spaced numbers) = length-append state_word (spaced numbers) in
    omega arith
