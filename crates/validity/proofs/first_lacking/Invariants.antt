-- `validity::first_lacking` meets its contract. The loop's invariant: none of the first o objects has a pair whose area lacks access.
-- Assumes nothing.
use mathlib.Core.Path.{◌≡◌}
use mathlib.Core.Bool.{false}
use Rattle.bits.specs.Rows.{cells_of}
use Rattle.state.specs.Below.{some_below}
use Rattle.state.specs.Stands.{site}
use Rattle.validity.specs.Parts.{lacking}
use Rattle.validity.proofs.first_lacking.Given as goal

abbrev pub invariant-loop-o : goal.invariant-loop-o
invariant-loop-o l =
    some_below l.o (lacking (site l.s) (cells_of l.these) (cells_of l.those)) ≡ false
