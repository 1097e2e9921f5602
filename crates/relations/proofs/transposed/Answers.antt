-- `relations::transposed` meets its contract.
-- Assumes nothing.
use native.Mathlib.Omega.{arith}
use Rattle.relations.proofs.Turning.{turned_by, mask_16, mask_8, mask_4, mask_2, mask_1}
use Rattle.relations.proofs.transposed.Goals as goal

pub exchange-by_16-requires : goal.exchange-by_16-requires
exchange-by_16-requires c = (omega arith, mask_16)

pub exchange-by_8-requires : goal.exchange-by_8-requires
exchange-by_8-requires c = (omega arith, mask_8)

pub exchange-by_4-requires : goal.exchange-by_4-requires
exchange-by_4-requires c = (omega arith, mask_4)

pub exchange-by_2-requires : goal.exchange-by_2-requires
exchange-by_2-requires c = (omega arith, mask_2)

pub exchange-requires : goal.exchange-requires
exchange-requires c = (omega arith, mask_1)

pub returns : goal.returns
returns c =
    turned_by _ _ _ _ _ _ c.exchange-by_16.ensures c.exchange-by_8.ensures c.exchange-by_4.ensures c.exchange-by_2.ensures c.exchange.ensures
