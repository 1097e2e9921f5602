-- A session line by line, as the loop obeys it.
--     Reached, reached_none, reached_more, reached_all     a loop that obeys one line a turn
-- Assumes nothing.
use Prim.Native.Nat.{ℕ, ◌+◌, ◌-◌, ◌≤◌, ◌<◌}
use mathlib.Core.Path.{◌≡◌, refl, sym, ap, ◌∙◌}
use mathlib.Core.List.{List, [], ◌∷◌, ◌++◌, append-nil}
use native.Mathlib.Numerals.{add-one}
use native.Mathlib.Omega.{arith}
use lib.ListN.{length, take, drop, set, length-set, length-drop}
use lib.Seq.{take_all, take-suc-set, append_snoc}
use lib.Dec.{eqb}
use mathlib.Core.Bool.{Bool, true, false}
use borrow.Author.Tests.{eqb-true}
use Rattle.std.proofs.lemmas.Bool.{eqb-false}
use Rattle.std.proofs.lemmas.List.{nil_from_length}
use Rattle.state.specs.Site.{Site, founding, Verdict, verdict}
use Rattle.lines.specs.Lines.{Line, lines_of, first_line_of}
use Rattle.lines.specs.declared.First.{First}
use Rattle.lines.proofs.Laws.{no_line, first_line, first_size}
use Rattle.sessions.specs.Session.{obeyed, results_from, state_after, session_results, session_state}
use Rattle.transcript.specs.Obeying.{Told}

-- ---- the loop: after so many lines, the rest of the input is still to be obeyed from state s; there are n places for
-- results
pub record Reached (n : ℕ) (input results : List ℕ) (lines : ℕ) (rest : List ℕ) (s : Site) : Type 0 where
  pub long : length results ≡ n
  pub room : lines + length rest ≤ n
  pub told : session_results input ≡ take lines results ++ results_from s (lines_of rest)
  pub after : session_state input ≡ state_after s (lines_of rest)

-- what stands behind the first line, as the loop takes it
pub part_from : (xs : List ℕ) (i : ℕ) → take (length xs - i) (drop i xs) ≡ drop i xs
part_from xs i = take_all (length xs - i) (drop i xs) (let left : length (drop i xs) ≡ length xs - i = length-drop i xs in omega arith)

pub part_shorter : (xs : List ℕ) (i : ℕ) → 0 < i → i ≤ length xs → length (take (length xs - i) (drop i xs)) < length xs
part_shorter xs i some within = omega (arith, ap length (part_from xs i), length-drop i xs, some, within)

-- whether the rest is empty
pub filled : (xs : List ℕ) {b : Bool} → b ≡ eqb (length xs) 0 → b ≡ false → 0 < length xs
filled xs e f = let other : (length xs ≡ 0 → ⊥) = eqb-false (length xs) 0 (sym e ∙ f) in omega arith

pub emptied : (xs : List ℕ) {b : Bool} → b ≡ eqb (length xs) 0 → b ≡ true → xs ≡ []
emptied xs e t = nil_from_length xs (eqb-true (length xs) 0 (sym e ∙ t))

pub reached_none : (input results : List ℕ) (s : Site) → s ≡ founding → length input ≤ length results → Reached (length results) input results 0 input s
unfolding session_results session_state
reached_none input results s e room = rw e (record { long = refl; room = omega arith; told = refl; after = refl })

-- one line more: the first of those that are left
module _ (n : ℕ) (input results : List ℕ) (lines : ℕ) (rest : List ℕ) (s : Site) (p : Reached n input results lines rest s) (more : 0 < length rest) where
  -- a first line takes a byte, and no more than are left
  pub first_takes : (f : First) → f ≡ first_line_of rest → (0 < f.size) × (f.size ≤ length rest)
  first_takes f first = let sized = first_size rest more in rw first (sized.some, sized.within)

  pub line_room : lines < length results
  line_room = omega (arith, p.long, p.room)

  front : (r : ℕ) → take (lines + 1) (set results lines r) ≡ take lines results ++ (r ∷ [])
  front r = rw (add-one lines) (take-suc-set results lines r line_room)

  -- with what a turn has at hand: the first line f, its result and the state afterwards
  pub reached_more : (f : First) (result : ℕ) (s' : Site) → f ≡ first_line_of rest → verdict result s' ≡ obeyed s f.line
      → Reached n input (set results lines result) (lines + 1) (take (length rest - f.size) (drop f.size rest)) s'
  unfolding results_from state_after
  reached_more f result s' first done =
      let left : lines_of rest ≡ f.line ∷ lines_of (drop f.size rest) = rw first (first_line rest more) in
      let takes = first_takes f first in
      rw (part_from rest f.size)
      (record {
        long = length-set results lines result ∙ p.long;
        room = omega (arith, p.room, takes.0, takes.1, length-drop f.size rest);
        told =
            p.told ∙ ap (λ (l : List Line). take lines results ++ results_from s l) left
            ∙ rw (front result, ← done) (sym (append_snoc (take lines results) _ _));
        after = p.after ∙ ap (state_after s) left ∙ ap (λ (v : Verdict). state_after v.state (lines_of (drop f.size rest))) (sym done);
      })

-- no line is left
pub reached_all : (n : ℕ) (input results : List ℕ) (lines : ℕ) (rest : List ℕ) (s : Site)
    → Reached n input results lines rest s → rest ≡ [] → Told input results lines s
unfolding results_from state_after
reached_all n input results lines rest s p last =
    let none : lines_of rest ≡ [] = ap lines_of last ∙ no_line in
    record {
      within = omega (arith, p.long, p.room);
      front = sym (p.told ∙ ap (λ (l : List Line). take lines results ++ results_from s l) none ∙ append-nil (take lines results));
      ending = sym (p.after ∙ ap (state_after s) none);
    }
