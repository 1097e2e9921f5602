-- What is claimed of a session. Each claim is a type, which proofs/Laws.antt inhabits under the claim's name.
use Rattle.std.specs.Prelude.{ℕ, ◌≡◌, List, ◌++◌}
use Rattle.state.specs.Site.{founding}
use Rattle.machine.specs.Step.{run}
use Rattle.guarantees.specs.Demand3.{Upheld}
use Rattle.lines.specs.Lines.{Line, lines_of}
use Rattle.sessions.specs.Session.{state_after, instructions_of, session_state}

-- the state behind the state line is what the instructions of the readable lines give from F, in order
abbrev pub SessionIsRun : Type 0
SessionIsRun = (input : List ℕ) → session_state input ≡ run founding (instructions_of (lines_of input))

-- The third demand speaks of a session, from any of its lines on. Whatever lines came before: after the lines that
-- follow, the state is sound, and an area that was listed before them, if none of its owners then activates one of
-- them, has all that the lending guarantee promises.
abbrev pub SessionUpheld : Type 0
SessionUpheld =
    (before after : List Line)
    → Upheld (state_after founding before) (instructions_of after) (state_after founding (before ++ after))
