-- `inspection::is_well_formed` meets its contract.
-- Assumes nothing.
use mathlib.Core.Path.{ap, ◌∙◌}
use mathlib.Core.Bool.{◌&&◌, not}
use native.Mathlib.Omega.{arith}
use Rattle.std.proofs.Common.{rules}
use Rattle.bits.specs.Bits.{is_subset}
use Rattle.state.specs.Stands.{Fits}
use Rattle.inspection.proofs.Parts.{well_formed_by_rows}
use Rattle.inspection.proofs.is_well_formed.Goals as goal

pub returns : goal.returns
returns c =
    let fits : Fits c.args.s.now =
    record {
      users = record { long = omega arith; fit = search rules };
      areas = record { long = omega arith; fit = search rules };
      objects = record { long = omega arith; fit = search rules };
      owners = record { long = omega arith; fit = search rules };
      definitions = record { long = omega arith; fit = search rules };
      structure = record { long = omega arith; fit = search rules };
      imports = record { long = omega arith; fit = search rules };
      exports = record { long = omega arith; fit = search rules };
    } in
    (λ i.
    c.users_fit.ensures i && c.areas_fit.ensures i && c.objects_fit.ensures i && c.objects_fit-2.ensures i
    && (c.is_subset.ensures ∙ ap (is_subset _) c.seconds.ensures) i && not (c.is_empty.ensures i)) ∙ well_formed_by_rows c.args.s.now fits
