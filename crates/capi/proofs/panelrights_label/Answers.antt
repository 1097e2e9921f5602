-- `capi::panelrights_label` meets its contract: where there is no label the place is the front.
-- Assumes nothing.
use mathlib.Core.Path.{ap, ◌∙◌}
use Rattle.label_finder.specs.Finder.{place_or_front}
use Rattle.label_finder.proofs.Laws.{found_place_lem}
use Rattle.interface.specs.Interface.{place_number}
use Rattle.capi.proofs.panelrights_label.Goals as goal

pub returns : goal.returns
returns c =
    c.place_number.ensures ∙ ap (λ p. place_number (place_or_front p)) c.label_place.ensures ∙ ap place_number (found_place_lem _ _)
