-- What is claimed of what is printed. Each claim is a type, which proofs/Laws.antt inhabits under the claim's name.
use Rattle.std.specs.Prelude.{ℕ, ◌≤◌, ◌<◌, ◌≡◌, List, [], ◌∷◌, length}
use Rattle.state.specs.Site.{founding, counts}
use Rattle.machine.specs.Step.{run}
use Rattle.lines.specs.Lines.{lines_of}
use Rattle.sessions.specs.Session.{instructions_of, session_results}
use Rattle.transcript.specs.Transcript.{session_text, transcript_of}

-- the state line that is printed has the counts of the state that the instructions of the readable lines give from F,
-- in order
abbrev pub SessionPrinted : Type 0
SessionPrinted =
    (input : List ℕ) → length input ≤ 65536
    → transcript_of input
    ≡ session_text (session_results input) (counts (run founding (instructions_of (lines_of input))))

-- "Input above 65,536 bytes yields the line `too long` alone": t, o, o, a space, l, o, n, g, and byte 10
abbrev pub TooLongPrinted : Type 0
TooLongPrinted =
    (input : List ℕ) → 65536 < length input
    → transcript_of input ≡ 116 ∷ 111 ∷ 111 ∷ 32 ∷ 108 ∷ 111 ∷ 110 ∷ 103 ∷ 10 ∷ []

-- a buffer of so many bytes is never too short
abbrev pub PrintedAtMost : Type 0
PrintedAtMost = (input : List ℕ) → length (transcript_of input) ≤ 589865
