-- `relations::put_in` meets its contract: past the last area a write changes nothing.
-- Assumes nothing.
use mathlib.Core.Path.{sym, ap, ◌∙◌}
use Rattle.bits.specs.Rows.{cells_of}
use Rattle.state.proofs.Laws.{put_beyond}
use Rattle.relations.proofs.Laws.{paired}
use Rattle.relations.proofs.put_in.Goals as goal

pub returns-then-area-lt32 : goal.returns-then-area-lt32
returns-then-area-lt32 c = ap cells_of c.write.ensures ∙ paired _ _ _ _ c.if-area-lt32.true

pub returns-else-area-lt32 : goal.returns-else-area-lt32
returns-else-area-lt32 c = sym (put_beyond _ _ _ _ c.if-area-lt32.false)
