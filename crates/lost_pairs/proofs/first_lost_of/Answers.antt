-- `lost_pairs::first_lost_of` meets its contract: the lowest area of the object's imports that lacks access, or else that of its exports.
-- Assumes nothing.
use mathlib.Core.Path.{◌≡◌, refl, ap, ◌∙◌}
use mathlib.Core.Bool.{false, ◌&&◌, cond}
use mathlib.Core.List.{List}
use lib.Dec.{eqb}
use lib.ListN.{get_or}
use Rattle.std.proofs.Common.{ℕ, Option, Some, None}
use Rattle.bits.specs.Bits.{bit}
use Rattle.state.specs.Below.{found_below}
use Rattle.state.specs.Site.{import, export}
use Rattle.state.specs.Stands.{site}
use Rattle.state.specs.declared.State.{State}
use Rattle.access.specs.Lending.{lending}
use Rattle.access.specs.Answer.{unreached, least_counts}
use Rattle.reasons.specs.declared.Lost.TheVariants.{Import as LostImport, Export as LostExport}
use Rattle.reasons.specs.Lost.{is_lost, loses, first_area, lost_of}
use Rattle.lost_pairs.specs.Parts.{is_lost_by, area_by}
use Rattle.lost_pairs.proofs.Losing.{area_is, was_some, was_none}
use Rattle.lost_pairs.proofs.first_lost_of.Goals as goal

-- the lowest area of a row that lacks access, by the counts
abbrev lowest_in : (row : ℕ) (counts : List ℕ) → Option ℕ
lowest_in row counts = found_below 32 (λ a. bit row a && eqb (get_or counts a 0) unreached)

module _ (s : State) (o : ℕ) (counts : List ℕ) (counted : counts ≡ least_counts (lending (site s) o)) where
  -- the lowest area of the row is that of the relation
  imports : (row : ℕ) → row ≡ get_or s.imports o 0 → lowest_in row counts ≡ cond (loses (site s) import o) (Some (first_area (site s) import o)) None
  unfolding site area_by first_area is_lost_by is_lost
  imports row here = area_is (site s) s.imports o row counts counted here

  exports : (row : ℕ) → row ≡ get_or s.exports o 0 → lowest_in row counts ≡ cond (loses (site s) export o) (Some (first_area (site s) export o)) None
  unfolding site area_by first_area is_lost_by is_lost
  exports row here = area_is (site s) s.exports o row counts counted here

  lost_import : (row a : ℕ) → row ≡ get_or s.imports o 0 → Some a ≡ lowest_in row counts → Some (LostImport (record { object = o; area = a })) ≡ lost_of (site s) o
  unfolding lost_of
  lost_import row a here h =
      let was = was_some (first_area (site s) import o) (loses (site s) import o) a (h ∙ imports row here) in
      rw was.0 (ap (λ (a : ℕ). Some (LostImport (record { object = o; area = a }))) was.1)

  module _ (row : ℕ) (here : row ≡ get_or s.imports o 0) (none : None ≡ lowest_in row counts) where
    no_import : loses (site s) import o ≡ false
    no_import = was_none (first_area (site s) import o) (loses (site s) import o) (none ∙ imports row here)

    lost_export : (other a : ℕ) → other ≡ get_or s.exports o 0 → Some a ≡ lowest_in other counts → Some (LostExport (record { object = o; area = a })) ≡ lost_of (site s) o
    unfolding lost_of
    lost_export other a there h =
        let was = was_some (first_area (site s) export o) (loses (site s) export o) a (h ∙ exports other there) in
        rw (no_import, was.0) (ap (λ (a : ℕ). Some (LostExport (record { object = o; area = a }))) was.1)

    none_lost : (other : ℕ) → other ≡ get_or s.exports o 0 → None ≡ lowest_in other counts → None ≡ lost_of (site s) o
    unfolding lost_of
    none_lost other there h =
        rw (no_import, was_none (first_area (site s) export o) (loses (site s) export o) (h ∙ exports other there)) refl

pub returns-in-Some : goal.returns-in-Some
returns-in-Some c = lost_import c.args.s.now _ _ c.least_counts-counts.ensures _ _ c.row_of.ensures c.in-Some.ensures

pub returns-in_err-area : goal.returns-in_err-area
returns-in_err-area c =
    c.from_residual.ensures
    ∙ none_lost c.args.s.now _ _ c.least_counts-counts.ensures _ c.row_of.ensures c.in_default.ensures _ c.row_of-2.ensures c.in_err-area.ensures

pub returns : goal.returns
returns c =
    lost_export c.args.s.now _ _ c.least_counts-counts.ensures _ c.row_of.ensures c.in_default.ensures _ _ c.row_of-2.ensures c.in_ok-area.ensures
