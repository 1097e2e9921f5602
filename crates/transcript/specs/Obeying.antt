-- Not needed to believe a claim. What the function that obeys the lines promises: their results, and the state after
-- them.
use Rattle.std.specs.Prelude.{ℕ, ◌≤◌, ◌≡◌, List, length, take}
use Rattle.state.specs.Site.{Site}
use Rattle.sessions.specs.Session.{session_results, session_state}

-- the first so many of `results` are those of the input's lines, and s is the state after them
pub record Told (input results : List ℕ) (lines : ℕ) (s : Site) : Type 0 where
  pub within : lines ≤ length results
  pub front : take lines results ≡ session_results input
  pub ending : s ≡ session_state input
