-- The claims of specs/Claims.antt and the laws of specs/Laws.antt, each proved under its name.
-- Assumes nothing.
use Rattle.lines.specs.Claims
use Rattle.lines.specs.Laws
use Rattle.lines.proofs.Words
use Rattle.lines.proofs.Texts
use Rattle.lines.proofs.Ended

pub number_exactly : Claims.NumberExactly
number_exactly = Words.number_exactly

pub readable_exactly : Claims.ReadableExactly
readable_exactly = Texts.readable_exactly

pub first_line_number : Claims.FirstLineNumber
first_line_number = Ended.first_line_number

pub no_line : Claims.NoLine
no_line = Ended.no_line

pub first_line : Laws.FirstLine
first_line = Ended.first_line

pub first_size : Laws.FirstSize
first_size = Ended.first_size

pub lines_at_most : Laws.LinesAtMost
lines_at_most = Ended.lines_at_most
