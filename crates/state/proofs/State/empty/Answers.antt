-- `state::State::empty` meets its contract, by computing both sides.
-- Assumes nothing.
use mathlib.Core.Path.{refl}
use Rattle.bits.specs.Bits.{bit}
use Rattle.bits.specs.Rows.{bits_of, cells_of}
use Rattle.state.specs.Site.{empty}
use Rattle.state.specs.Stands.{site}
use Rattle.state.proofs.State.empty.Goals as goal

pub returns : goal.returns
unfolding empty site cells_of bits_of bit
returns c = refl
