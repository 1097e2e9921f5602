-- `lost_pairs::first_lost` meets its contract: the pairs of the rows are those of the state.
-- Assumes nothing.
use mathlib.Core.Path.{◌≡◌, refl, ap, ◌∙◌}
use mathlib.Core.Bool.{false, cond}
use Rattle.std.proofs.Common.{Some, None}
use Rattle.bits.specs.Rows.{cells_of}
use Rattle.state.specs.Site.{import, export}
use Rattle.state.specs.Stands.{site}
use Rattle.state.specs.declared.State.{State}
use Rattle.reasons.specs.declared.Entry.{Entry}
use Rattle.reasons.specs.declared.Lost.TheVariants.{Import as LostImport, Export as LostExport}
use Rattle.reasons.specs.Lost.{is_lost, first_object, first_area, some_lost, first_entry, first_lost}
use Rattle.lost_pairs.specs.Parts.{is_lost_by, object_by, area_by, entry_by}
use Rattle.lost_pairs.proofs.Losing.{was_some, was_none}
use Rattle.lost_pairs.proofs.first_lost.Goals as goal

module _ (s : State) where
  -- the first pair of the rows is that of the relation
  imports : entry_by (site s) (cells_of s.imports) ≡ cond (some_lost (site s) import) (Some (first_entry (site s) import)) None
  unfolding site object_by first_object area_by first_area is_lost_by is_lost
  imports = refl

  exports : entry_by (site s) (cells_of s.exports) ≡ cond (some_lost (site s) export) (Some (first_entry (site s) export)) None
  unfolding site object_by first_object area_by first_area is_lost_by is_lost
  exports = refl

  lost_import : (e : Entry) → Some e ≡ entry_by (site s) (cells_of s.imports) → Some (LostImport e) ≡ first_lost (site s)
  unfolding first_lost
  lost_import e h =
      let was = was_some (first_entry (site s) import) (some_lost (site s) import) e (h ∙ imports) in
      rw was.0 (ap (λ (x : Entry). Some (LostImport x)) was.1)

  module _ (none : None ≡ entry_by (site s) (cells_of s.imports)) where
    no_import : some_lost (site s) import ≡ false
    no_import = was_none (first_entry (site s) import) (some_lost (site s) import) (none ∙ imports)

    lost_export : (e : Entry) → Some e ≡ entry_by (site s) (cells_of s.exports) → Some (LostExport e) ≡ first_lost (site s)
    unfolding first_lost
    lost_export e h =
        let was = was_some (first_entry (site s) export) (some_lost (site s) export) e (h ∙ exports) in
        rw (no_import, was.0) (ap (λ (x : Entry). Some (LostExport x)) was.1)

    none_lost : None ≡ entry_by (site s) (cells_of s.exports) → None ≡ first_lost (site s)
    unfolding first_lost
    none_lost h = rw (no_import, was_none (first_entry (site s) export) (some_lost (site s) export) (h ∙ exports)) refl

pub returns-in-Some : goal.returns-in-Some
returns-in-Some c = lost_import c.args.s.now _ c.in-Some.ensures

pub returns-in_err-entry : goal.returns-in_err-entry
returns-in_err-entry c = c.from_residual.ensures ∙ none_lost c.args.s.now c.in_default.ensures c.in_err-entry.ensures

pub returns : goal.returns
returns c = lost_export c.args.s.now c.in_default.ensures _ c.in_ok-entry.ensures
