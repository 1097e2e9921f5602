-- `transcript::put_line` meets its contract: the line's number, its result, and the end of the line.
-- Assumes nothing.
use Rattle.output.proofs.Placing.{placed_3}
use Rattle.transcript.specs.Transcript.{result_line}
use Rattle.transcript.proofs.put_line.Goals as goal

pub returns : goal.returns
unfolding result_line
returns c =
    let p = placed_3 _ _ _ _ _ c.well_formed.0.0 _ _ _ _ _ _
    (c.put_decimal-behind_k.ensures.place, c.put_decimal-behind_k.ensures.buffer)
    (c.put_spaced-behind_result.ensures.place, c.put_spaced-behind_result.ensures.buffer)
    (c.put.ensures.place, c.put.ensures.buffer)
    in
    record { place = p.0; buffer = p.1 }
