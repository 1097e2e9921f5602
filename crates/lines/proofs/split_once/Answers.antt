-- `lines::split_once` meets its contract.
-- Assumes nothing.
use Rattle.lines.proofs.Parts.{parted, none_parted, part_from}
use Rattle.lines.proofs.split_once.Goals as goal

pub returns-in_err-i : goal.returns-in_err-i
returns-in_err-i c = rw c.from_residual.ensures (none_parted c.args.at c.args.bytes.now c.in_err-i.ensures)

pub returns : goal.returns
returns c = rw (part_from _ _) (parted c.args.at c.args.bytes.now c.in_ok-i.i c.in_ok-i.ensures)
