-- `output::write_text` meets its contract: the buffer is too short, or has the text at its front.
-- Assumes nothing.
use mathlib.Core.Path.{◌∙◌}
use Rattle.output.proofs.Buffer.{short_written, short_buffer, fits_written, fits_buffer}
use Rattle.output.proofs.write_text.Goals as goal

pub returns-then-output-text : goal.returns-then-output-text
returns-then-output-text c = let short = c.if-output-text.true in record { written = short_written _ _ short; buffer = short_buffer _ _ short }

pub returns : goal.returns
returns c =
    let fits = c.if-output-text.false in
    record { written = fits_written _ _ fits; buffer = c.put_text.ensures.buffer ∙ fits_buffer _ _ fits }
