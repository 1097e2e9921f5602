-- `label_tables::text_fits` meets its contract. The loop's invariant: what fits so far is whether each of the first i
-- bytes does.
-- Assumes nothing.
use mathlib.Core.Path.{◌≡◌}
use Rattle.state.specs.Below.{each_below}
use Rattle.label_tables.specs.Texts.{text_fits}
use Rattle.label_tables.proofs.text_fits.Given as goal

abbrev pub invariant-loop-i : goal.invariant-loop-i
invariant-loop-i l = l.fits ≡ each_below l.i (text_fits l.text l.size)
