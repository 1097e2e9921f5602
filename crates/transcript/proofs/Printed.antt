-- What is printed for an input: the claims, and what the functions use.
--     session_printed                                     what is printed for a session
--     too_long_printed, told_printed                      the two transcripts that `write` writes
--     printed_at_most                                     no transcript has more bytes
-- Assumes nothing.
use Prim.Native.Nat.{ℕ, ◌+◌, ◌*◌, ◌≤◌, ◌<◌}
use mathlib.Core.Path.{◌≡◌, refl, ap, ◌∙◌}
use mathlib.Core.Bool.{Bool, true, false, cond}
use mathlib.Core.List.{List, ◌++◌}
use native.Mathlib.Omega.{arith}
use borrow.Author.Tests.{lt-ltb, le-ltb, ltb-false}
use lib.ListN.{length, take, length-append}
use Rattle.state.specs.Site.{founding, counts}
use Rattle.state.specs.Site.{Site}
use Rattle.state.proofs.Laws.{counts_at_most}
use Rattle.lines.specs.Lines.{lines_of}
use Rattle.lines.proofs.Laws.{lines_at_most}
use Rattle.sessions.specs.Session.{results_from, state_after, session_results, session_state}
use Rattle.sessions.proofs.Laws.{session_is_run}
use Rattle.sessions.proofs.Session.{results_length, results_small, sound_after}
use Rattle.transcript.specs.Transcript.{result_lines, state_line, session_text, most_read, is_too_long, too_long, transcript_of, most_printed}
use Rattle.transcript.specs.Obeying.{Told}
use Rattle.transcript.specs.Claims as Claims
use Rattle.transcript.proofs.Lengths.{lines_length, state_length}

-- an input that is not too long prints its session
fitting : (input : List ℕ) → is_too_long input ≡ false → transcript_of input ≡ session_text (session_results input) (counts (session_state input))
unfolding transcript_of
fitting input e = ap (λ (b : Bool). cond b too_long (session_text (session_results input) (counts (session_state input)))) e

-- an input that is too long prints `too long`
pub too_long_printed : (input : List ℕ) → most_read < length input → too_long ≡ transcript_of input
unfolding transcript_of
too_long_printed input long = rw (lt-ltb most_read (length input) long) refl

-- and any other its results and counts, as the code has them
pub told_printed : (input results : List ℕ) (lines : ℕ) (s : Site) (numbers : List ℕ) → Told input results lines s → numbers ≡ counts s → length input ≤ most_read
    → session_text (take lines results) numbers ≡ transcript_of input
told_printed input results lines s numbers told e fits =
    rw (fitting input (le-ltb most_read (length input) fits), e, told.front, told.ending) refl

pub session_printed : Claims.SessionPrinted
session_printed input fits =
    fitting input (le-ltb most_read (length input) fits) ∙ ap (λ (s : Site). session_text (session_results input) (counts s)) (session_is_run input)

-- ---- no transcript has more bytes
results_text : (input : List ℕ) → length input ≤ most_read → length (result_lines 1 (session_results input)) ≤ 9 * most_read
unfolding session_results
results_text input fits =
    let each : length (results_from founding (lines_of input)) ≡ length (lines_of input) = results_length founding (lines_of input) in
    let few : length (lines_of input) ≤ length input = lines_at_most input in
    let text : length (result_lines 1 (results_from founding (lines_of input))) ≤ 9 * length (results_from founding (lines_of input))
    = lines_length 1 (results_from founding (lines_of input)) (omega arith) (results_small founding (lines_of input)) in
    omega arith

state_text : (input : List ℕ) → length (state_line (counts (session_state input))) ≤ 41
unfolding session_state
state_text input = state_length (counts (state_after founding (lines_of input))) (counts_at_most (state_after founding (lines_of input)) (sound_after (lines_of input)).shaped)

session_length : (input : List ℕ) → length input ≤ most_read → length (session_text (session_results input) (counts (session_state input))) ≤ most_printed
unfolding session_text
session_length input fits =
    let results : length (result_lines 1 (session_results input)) ≤ 9 * most_read = results_text input fits in
    let line : length (state_line (counts (session_state input))) ≤ 41 = state_text input in
    let both : length (result_lines 1 (session_results input) ++ state_line (counts (session_state input))) ≡ length (result_lines 1 (session_results input)) + length (state_line (counts (session_state input)))
    = length-append (result_lines 1 (session_results input)) (state_line (counts (session_state input))) in
    omega arith

pub printed_at_most : Claims.PrintedAtMost
unfolding transcript_of
printed_at_most input = go (is_too_long input) refl
  where
    go : (b : Bool) → is_too_long input ≡ b → length (cond b too_long (session_text (session_results input) (counts (session_state input)))) ≤ most_printed
    go true e = omega arith
    go false e = session_length input (ltb-false most_read (length input) e)
