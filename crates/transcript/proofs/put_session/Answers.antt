-- `transcript::put_session` meets its contract: the results, and the state line behind them.
-- Assumes nothing.
use Rattle.output.proofs.Placing.{placed_then}
use Rattle.transcript.specs.Transcript.{session_text}
use Rattle.transcript.proofs.put_session.Goals as goal

pub returns : goal.returns
unfolding session_text
returns c =
    let p = placed_then _ _ _ _ c.well_formed.0.0 _ _ _ _
    (c.put_lines-behind_lines.ensures.place, c.put_lines-behind_lines.ensures.buffer)
    (c.put_state.ensures.place, c.put_state.ensures.buffer)
    in
    record { place = p.0; buffer = p.1 }
