-- `transcript::write_session` meets its contract: the same over a text that is counted first.
-- Assumes nothing.
use Prim.Native.Nat.{◌≤◌}
use native.Mathlib.Omega.{arith}
use lib.ListN.{length}
use Rattle.output.specs.Buffer.{last_place}
use Rattle.output.proofs.Buffer.{counted_short, counted_fits}
use Rattle.transcript.specs.Transcript.{session_text}
use Rattle.transcript.proofs.write_session.Goals as goal

pub returns-then-output-length : goal.returns-then-output-length
returns-then-output-length c =
    let bound : length (session_text c.args.results.now c.args.counts.now) ≤ last_place = omega (arith, c.requires) in
    let p = counted_short _ _ _ c.put_session-length.ensures.place bound c.if-output-length.true in
    record { written = p.0; buffer = p.1 }

pub returns : goal.returns
returns c =
    let bound : length (session_text c.args.results.now c.args.counts.now) ≤ last_place = omega (arith, c.requires) in
    let p = counted_fits _ _ _ c.put_session-length.ensures.place bound c.if-output-length.false _ c.put_session.ensures.buffer in
    record { written = p.0; buffer = p.1 }
