-- `transcript::write` meets its contract: the input is too long, or its session is printed.
-- Assumes nothing.
use Prim.Native.Nat.{ℕ}
use mathlib.Core.Path.{◌≡◌, ap, ◌∙◌}
use mathlib.Core.List.{List}
use Rattle.output.specs.Buffer.{written_of, buffer_of}
use Rattle.transcript.specs.Transcript.{transcript_of}
use Rattle.transcript.proofs.Printed.{too_long_printed, told_printed, printed_at_most}
use Rattle.transcript.proofs.write.Goals as goal

-- what was written for a text, where the text is the transcript
module _ (input buffer text : List ℕ) (is : text ≡ transcript_of input) where
  answer : written_of text buffer ≡ written_of (transcript_of input) buffer
  answer = ap (λ (t : List ℕ). written_of t buffer) is

  after : buffer_of text buffer ≡ buffer_of (transcript_of input) buffer
  after = ap (λ (t : List ℕ). buffer_of t buffer) is

pub returns-then-input-gt-MOST_READ : goal.returns-then-input-gt-MOST_READ
returns-then-input-gt-MOST_READ c =
    let is = too_long_printed c.args.input.now c.if-input-gt-MOST_READ.true in
    record { written = c.write_text.ensures.written ∙ answer _ _ _ is; buffer = c.write_text.ensures.buffer ∙ after _ _ _ is }

-- the results and the counts make the transcript
pub write_session-requires : goal.write_session-requires
write_session-requires c =
    let printed = told_printed _ _ _ _ _ c.obey_lines-ending.ensures c.counts-counts.ensures c.if-input-gt-MOST_READ.false in
    rw printed (printed_at_most _)

pub returns : goal.returns
returns c =
    let is = told_printed _ _ _ _ _ c.obey_lines-ending.ensures c.counts-counts.ensures c.if-input-gt-MOST_READ.false in
    record { written = c.write_session.ensures.written ∙ answer _ _ _ is; buffer = c.write_session.ensures.buffer ∙ after _ _ _ is }
