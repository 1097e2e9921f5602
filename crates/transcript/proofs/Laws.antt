-- The claims of specs/Claims.antt, each proved under its name.
-- Assumes nothing.
use mathlib.Core.Path.{ap}
use mathlib.Core.Bool.{Bool, cond}
use borrow.Author.Tests.{lt-ltb}
use lib.ListN.{length}
use Rattle.state.specs.Site.{counts}
use Rattle.sessions.specs.Session.{session_results, session_state}
use Rattle.transcript.specs.Transcript.{session_text, too_long, transcript_of}
use Rattle.transcript.specs.Claims
use Rattle.transcript.proofs.Printed

pub session_printed : Claims.SessionPrinted
session_printed = Printed.session_printed

pub printed_at_most : Claims.PrintedAtMost
printed_at_most = Printed.printed_at_most

pub too_long_printed : Claims.TooLongPrinted
unfolding transcript_of
too_long_printed input h =
    ap (λ (b : Bool). cond b too_long (session_text (session_results input) (counts (session_state input)))) (lt-ltb 65536 (length input) h)
