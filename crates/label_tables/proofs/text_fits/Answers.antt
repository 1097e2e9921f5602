-- `label_tables::text_fits` meets its contract. The loop's invariant: what fits so far is whether each of the first i
-- bytes does.
-- Assumes nothing.
use mathlib.Core.Path.{◌≡◌, sym}
use borrow.Author.Tests.{lt-ltb, le-ltb}
use Rattle.state.proofs.Below.{each_none, each_step}
use Rattle.label_tables.specs.Texts.{text_fits}
use Rattle.label_tables.proofs.text_fits.Goals as goal
use Rattle.label_tables.proofs.text_fits.Goals.{then-i-size, else-i-size}

pub loop-i-init : goal.loop-i-init
loop-i-init c = sym (each_none _)

pub loop-i-preserved : goal.loop-i-preserved
loop-i-preserved c =
    let x = c.args in
    -- byte i is one of the text, or one of the filler
    let byte : c.if-i-size.fits ≡ text_fits x.text.now x.size c.loop-i.i =
    elim c.if-i-size.branch [
      | then-i-size w ↦ rw (lt-ltb _ _ w.if-i-size.true) w.fits-is
      | else-i-size w ↦ rw (le-ltb _ _ w.if-i-size.false) w.fits-is
    ]
    in
    each_step _ _ _ _ c.loop-i.invariant byte
