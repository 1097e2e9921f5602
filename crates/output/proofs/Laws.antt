-- The claims of specs/Claims.antt and the laws of specs/Laws.antt, each proved under its name.
-- Assumes nothing.
use mathlib.Core.Path.{sym}
use Rattle.output.specs.Claims
use Rattle.output.specs.Laws
use Rattle.output.proofs.Decimal
use Rattle.output.proofs.Placing
use Rattle.output.proofs.Buffer

pub laid_exactly : Claims.LaidExactly
laid_exactly = Placing.laid_exactly

pub place_counts : Claims.PlaceCounts
place_counts = Placing.place_counts

pub short_refused : Claims.ShortRefused
short_refused text buffer short = sym (Buffer.short_written text buffer short)

pub short_unchanged : Claims.ShortUnchanged
short_unchanged text buffer short = sym (Buffer.short_buffer text buffer short)

pub decimal_one : Claims.DecimalOne
decimal_one = Decimal.decimal_one

pub decimal_more : Claims.DecimalMore
decimal_more = Decimal.decimal_more

pub decimal_length : Laws.DecimalLength
decimal_length = Decimal.decimal_length
