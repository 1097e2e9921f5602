-- `transcript::put_state` meets its contract: the word, the counts, and the end of the line.
-- Assumes nothing.
use Rattle.output.proofs.Placing.{placed_3}
use Rattle.transcript.specs.Transcript.{state_word, state_line}
use Rattle.transcript.proofs.put_state.Goals as goal

pub returns : goal.returns
unfolding state_line
returns c =
    let p = placed_3 state_word _ _ _ _ c.well_formed.0.0 _ _ _ _ _ _
    (c.put_text-behind_word.ensures.place, c.put_text-behind_word.ensures.buffer)
    (c.put_counts-behind_counts.ensures.place, c.put_counts-behind_counts.ensures.buffer)
    (c.put.ensures.place, c.put.ensures.buffer)
    in
    record { place = p.0; buffer = p.1 }
