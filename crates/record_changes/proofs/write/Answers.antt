-- `record_changes::write` meets its contract.
-- Assumes nothing.
use mathlib.Core.Path.{refl}
use borrow.Author.Rules.{rules}
use Rattle.record_changes.specs.Writing.{written}
use Rattle.record_changes.proofs.Written.{byte_fits}
use Rattle.record_changes.proofs.write.Goals as goal

pub overflow_cast-bytes-2 : goal.overflow_cast-bytes-2
overflow_cast-bytes-2 c =
    record { fits = rw c.with_bit-row.ensures (byte_fits _ _ _ (search rules) c.requires.1) }

pub returns : goal.returns
unfolding written
returns c = rw c.with_bit-row.ensures refl
