-- `label_finder::label` meets its contract: the part that stands at the label's place, or at the front.
-- Assumes nothing.
use Rattle.std.proofs.Common.{ℕ, min, Some, None}
use mathlib.Core.Path.{◌≡◌, sym, ap, ◌∙◌}
use mathlib.Core.List.{List}
use native.Mathlib.Omega.{arith}
use lib.ListN.{length}
use Rattle.site_format.specs.Format.{behind}
use Rattle.label_finder.specs.Finder.{text_at, found_place}
use Rattle.label_finder.specs.Claims.{AtFront}
use Rattle.label_finder.specs.declared.Place.{Place}
use Rattle.label_finder.proofs.Laws.{label_inside, no_label_at_front}
use Rattle.label_finder.proofs.Texts.{found_some, found_none}
use Rattle.label_finder.proofs.label.Goals as goal

module _ (file : List ℕ) (a : ℕ) where
  -- the part begins where the text does
  starts : {p : Place} → Some p ≡ found_place file a → min p.at (length file) ≡ text_at file a
  starts e =
      let at = ap (λ (q : Place). q.at) (found_some _ _ _ e).1 in
      omega (arith, at, label_inside file a)

  at_front : None ≡ found_place file a → AtFront file a
  at_front e = no_label_at_front file a (found_none _ _ e)

  at_start : None ≡ found_place file a → min 0 (length file) ≡ text_at file a
  at_start e = omega (arith, (at_front e).starts)

pub returns-in-Some-clause-place : goal.returns-in-Some-clause-place
returns-in-Some-clause-place c = c.part_from.ensures.place ∙ ap (behind _) (starts _ _ c.in-Some.ensures)

pub returns-in-None-clause-bytes : goal.returns-in-None-clause-bytes
returns-in-None-clause-bytes c =
    c.part_from-in-None.ensures.bytes ∙ sym (at_front c.args.file.now c.args.area c.in-None.ensures).text

pub returns-in-None-clause-place : goal.returns-in-None-clause-place
returns-in-None-clause-place c =
    c.part_from-in-None.ensures.place ∙ ap (behind _) (at_start _ _ c.in-None.ensures)
