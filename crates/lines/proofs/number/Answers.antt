-- `lines::number` meets its contract.
-- Assumes nothing.
use mathlib.Core.Path.{sym, ◌∙◌}
use native.Mathlib.Omega.{arith}
use Rattle.lines.proofs.Words.{number_empty, read_first, first_none, read_next, next_none, read_last}
use Rattle.lines.proofs.number.Goals as goal

pub returns-in_err-first : goal.returns-in_err-first
returns-in_err-first c = c.from_residual.ensures ∙ sym (number_empty _ c.in_err-first.ensures.cases)

pub returns-in_err-n : goal.returns-in_err-n
returns-in_err-n c = c.from_residual-in_err-n.ensures ∙ first_none _ _ _ c.in_ok-first.ensures.cases.0 c.in_err-n.ensures

pub loop-byte-init : goal.loop-byte-init
loop-byte-init c = read_first _ _ _ c.in_ok-first.ensures.cases.0 _ c.in_ok-n.ensures

pub returns-in_err-n-2 : goal.returns-in_err-n-2
returns-in_err-n-2 c =
    c.from_residual-in_err-n-2.ensures
    ∙ next_none _ _ _ c.in_ok-first.ensures.cases.0 _ _ c.loop-byte.invariant c.loop-byte-test.true c.in_err-n-2.ensures

pub loop-byte-preserved : goal.loop-byte-preserved
loop-byte-preserved c =
    read_next _ _ _ c.in_ok-first.ensures.cases.0 _ _ c.loop-byte.invariant c.loop-byte-test.true _ c.in_ok-n-2.ensures

pub returns : goal.returns
returns c = read_last _ _ _ c.in_ok-first.ensures.cases.0 _ _ c.loop-byte.invariant (omega arith)
