-- The claims of specs/Claims.antt, each proved under its name.
-- Assumes nothing.
use mathlib.Core.Path.{sym, subst, ◌∙◌}
use Rattle.state.specs.Site.{founding}
use Rattle.state.specs.Site.{Site}
use Rattle.guarantees.specs.Demand3.{Upheld}
use Rattle.guarantees.proofs.Demand3.{demand_3}
use Rattle.lines.specs.Lines.{lines_of}
use Rattle.sessions.specs.Session.{state_after, instructions_of, session_state}
use Rattle.sessions.specs.Claims
use Rattle.sessions.proofs.Session.{after_append, after_run, sound_after}

pub session_is_run : Claims.SessionIsRun
unfolding session_state
session_is_run input = after_run founding (lines_of input)

pub session_upheld : Claims.SessionUpheld
session_upheld before after =
    subst (λ (t : Site). Upheld (state_after founding before) (instructions_of after) t)
    (sym (after_append founding before after ∙ after_run (state_after founding before) after))
    (demand_3 (state_after founding before) (instructions_of after) (sound_after before))
