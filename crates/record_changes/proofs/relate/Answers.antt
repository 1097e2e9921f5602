-- `record_changes::relate` meets its contract: the bit that is written is the pair's.
-- Assumes nothing.
use native.Mathlib.Omega.{arith}
use Rattle.state.specs.Stands.{relation_of}
use Rattle.record_changes.proofs.Written.{holds_record, related, pair_room}
use Rattle.record_changes.proofs.relate.Goals as goal

pub write-requires : goal.write-requires
write-requires c =
    let room = pair_room _ (relation_of c.args.relation) _ _ c.requires.0 c.requires.1 c.requires.2 in
    (omega (arith, c.pair_start-start.ensures), omega arith)

pub returns : goal.returns
returns c =
    (related _ _ _ (holds_record _ c.requires.0) (relation_of c.args.relation) _ _ _ c.requires.1 c.requires.2
    (rw c.pair_start-start.ensures at c.write.ensures)).same
