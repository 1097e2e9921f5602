-- `record_changes::list` meets its contract: the bit that is written is the number's.
-- Assumes nothing.
use native.Mathlib.Omega.{arith}
use Rattle.state.specs.Stands.{kind_of}
use Rattle.record_changes.proofs.Written.{holds_record, marked, list_room}
use Rattle.record_changes.proofs.list.Goals as goal

pub write-requires : goal.write-requires
write-requires c =
    let room = list_room _ (kind_of c.args.kind) _ c.requires.0 c.requires.1 in
    (omega (arith, c.list_start-start.ensures), omega arith)

pub returns : goal.returns
returns c =
    (marked _ _ _ (holds_record _ c.requires.0) (kind_of c.args.kind) _ _ c.requires.1 (rw c.list_start-start.ensures at c.write.ensures)).same
