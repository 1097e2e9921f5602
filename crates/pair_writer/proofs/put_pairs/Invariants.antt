-- `pair_writer::put_pairs` meets its contract. The loop's invariant: the table of the rows below `first` is laid.
-- Assumes nothing.
use Rattle.bits.specs.Rows.{cells_of}
use Rattle.state.specs.Cells.{pair}
use Rattle.output.proofs.Placing.{Placed}
use Rattle.pair_tables.specs.Pairs.{table_of}
use Rattle.pair_writer.proofs.put_pairs.Given as goal

abbrev pub invariant-loop-first : goal.invariant-loop-first
invariant-loop-first l = Placed (table_of l.first (pair (cells_of l.rows))) l.at l.initial.out l.end l.out
