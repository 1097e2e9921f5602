-- `listing::firsts` meets its contract. The loop's invariant: the rows before are those of the numbers before.
-- Assumes nothing.
use mathlib.Core.Path.{◌∙◌}
use native.Mathlib.Omega.{arith}
use Rattle.state.proofs.Fill.{filled_more}
use Rattle.listing.proofs.Sets.{row_of_rest, behind, further, all_rows}
use Rattle.listing.proofs.firsts.Goals as goal

pub loop-row-preserved : goal.loop-row-preserved
loop-row-preserved g c =
    let rows = c.args.rows.now in
    let i = c.loop-row.row-index in (
      further rows c.loop-row.rest.now _ i c.loop-row.invariant.0 (behind c.loop-row.rest.now _ c.min.ensures),
      filled_more _ _ _ _ _ _ (omega arith) (c.firsts_of.ensures ∙ row_of_rest _ _ _ (λ k. (c.type_inv.rows k).fits) c.loop-row.invariant.0) c.loop-row.invariant.1,
    )

pub returns : goal.returns
returns g c = all_rows _ _ _ _ (omega arith) c.loop-row.invariant.1
