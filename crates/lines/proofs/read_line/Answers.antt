-- `lines::read_line` meets its contract: the text's words are taken from its front, one by one.
-- Assumes nothing.
use mathlib.Core.Path.{◌∙◌}
use Rattle.std.proofs.Common.{[]}
use Rattle.lines.proofs.Texts.{too_few, short_2, short_3, read}
use Rattle.lines.proofs.read_line.Goals as goal

pub returns-in_err-first : goal.returns-in_err-first
returns-in_err-first c = c.from_residual.ensures ∙ too_few _ c.in_err-first.ensures

pub returns-in_err-second : goal.returns-in_err-second
returns-in_err-second c = c.from_residual-in_err-second.ensures ∙ short_2 _ _ _ [] [] [] [] c.in_ok-first.ensures c.in_err-second.ensures

pub returns-in_err-third : goal.returns-in_err-third
returns-in_err-third c =
    c.from_residual-in_err-third.ensures ∙ short_3 _ _ _ _ _ [] [] c.in_ok-first.ensures c.in_ok-second.ensures c.in_err-third.ensures

pub returns : goal.returns
returns c =
    c.line_by.ensures
    ∙ read _ _ _ _ _ _ _ c.in_ok-first.ensures c.in_ok-second.ensures c.in_ok-third.ensures _ _ _ _
    c.number.ensures c.number-2.ensures c.number-3.ensures c.number-4.ensures
