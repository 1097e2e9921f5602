-- A session line by line.
--     after_append, after_run           the state after lines in two parts, and as a run of instructions
--     sound_after                       it is sound
--     results_length, results_small     a result for each line, of at most two digits
-- Assumes nothing.
use Prim.Native.Nat.{ℕ, zero, suc, ◌<◌}
use mathlib.Core.Path.{◌≡◌, refl, sym, ap, subst, ◌∙◌}
use mathlib.Core.List.{List, [], ◌∷◌, ◌++◌}
use native.Mathlib.Omega.{arith}
use lib.ListN.{length, get_or}
use Rattle.std.proofs.Common.{Some, None}
use Rattle.state.specs.Site.{founding, Site}
use Rattle.soundness.specs.Sound.{Sound}
use Rattle.soundness.proofs.Laws.{founding_sound}
use Rattle.machine.specs.Step.{step_of, run}
use Rattle.machine.proofs.Laws.{two_digits, run_none, run_more}
use Rattle.guarantees.proofs.Demand3.{demand_3}
use Rattle.lines.specs.Lines.{Line}
use Rattle.sessions.specs.Session.{obeyed, results_from, state_after, instructions_of}

pub after_append : (s : Site) (before after : List Line) → state_after s (before ++ after) ≡ state_after (state_after s before) after
unfolding state_after
after_append s [] after = refl
after_append s (line ∷ before) after = after_append (obeyed s line).state before after

pub after_run : (s : Site) (lines : List Line) → state_after s lines ≡ run s (instructions_of lines)
unfolding state_after
after_run s [] = sym (run_none s)
after_run s (None ∷ lines) = after_run s lines
after_run s (Some bytes ∷ lines) = after_run (step_of s bytes).state lines ∙ sym (run_more s bytes (instructions_of lines))

pub results_length : (s : Site) (lines : List Line) → length (results_from s lines) ≡ length lines
unfolding results_from
results_length s [] = refl
results_length s (line ∷ lines) = ap suc (results_length (obeyed s line).state lines)

result_small : (s : Site) (line : Line) → (obeyed s line).refusal < 100
result_small s None = omega arith
result_small s (Some bytes) = two_digits s bytes

pub results_small : (s : Site) (lines : List Line) (i : ℕ) → get_or (results_from s lines) i 0 < 100
unfolding results_from
results_small s [] i = omega arith
results_small s (line ∷ lines) zero = result_small s line
results_small s (line ∷ lines) (suc i) = results_small (obeyed s line).state lines i

pub sound_after : (lines : List Line) → Sound (state_after founding lines)
sound_after lines = subst Sound (sym (after_run founding lines)) (demand_3 founding (instructions_of lines) founding_sound).sound
