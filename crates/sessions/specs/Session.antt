-- What the lines of a session do (document 01, 'The program PanelRights'): "It begins in F. For each line it prints ..
-- 0 or the refusal."
use Rattle.std.specs.Prelude.{ℕ, Some, None, List, [], ◌∷◌}
use Rattle.state.specs.Site.{founding, Site, Verdict, verdict}
use Rattle.instructions.specs.declared.Bytes.{Bytes}
use Rattle.machine.specs.Step.{step_of}
use Rattle.lines.specs.Lines.{Line, line_number, lines_of}

-- 13, "unreadable line", "belongs to the program alone, before the others". "The state after a refusal is the state
-- given." A readable line is a step.
abbrev pub obeyed : Site → Line → Verdict
obeyed s None = verdict (line_number None) s
obeyed s (Some bytes) = step_of s bytes

-- the result of each line: 0 or its refusal
unfoldable pub results_from : Site → List Line → List ℕ
results_from s [] = []
results_from s (line ∷ rest) = (obeyed s line).refusal ∷ results_from (obeyed s line).state rest

-- the state after the lines
unfoldable pub state_after : Site → List Line → Site
state_after s [] = s
state_after s (line ∷ rest) = state_after (obeyed s line).state rest

-- the instructions of the readable lines
abbrev pub instructions_of : List Line → List Bytes
instructions_of [] = []
instructions_of (None ∷ rest) = instructions_of rest
instructions_of (Some bytes ∷ rest) = bytes ∷ instructions_of rest

-- the results of an input's lines, and the state after them: "It begins in F."
unfoldable pub session_results : (input : List ℕ) → List ℕ
session_results input = results_from founding (lines_of input)

unfoldable pub session_state : (input : List ℕ) → Site
session_state input = state_after founding (lines_of input)
