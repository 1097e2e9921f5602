-- `record_writer::write_rows` meets its contract. The loop's invariant: the bytes of the first i rows are laid.
-- Assumes nothing.
use Prim.Native.Nat.{◌*◌}
use Rattle.record_writer.proofs.Lay.{Laid}
use Rattle.record_writer.proofs.write_rows.Given as goal

abbrev pub invariant-loop-i : goal.invariant-loop-i
invariant-loop-i l = Laid l.initial.bytes l.at l.rows (l.i * 4) l.bytes
