-- `state::State::founding` meets its contract, by computing both sides.
-- Assumes nothing.
use mathlib.Core.Path.{refl}
use Rattle.bits.specs.Bits.{bit}
use Rattle.bits.specs.Rows.{bits_of, cells_of}
use Rattle.state.specs.Cells.{mark, put}
use Rattle.state.specs.Site.{empty, founding}
use Rattle.state.specs.Stands.{site}
use Rattle.state.proofs.State.founding.Goals as goal

pub returns : goal.returns
unfolding founding empty mark put site cells_of bits_of bit
returns c = refl
