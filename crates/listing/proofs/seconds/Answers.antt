-- `listing::seconds` meets its contract: one row.
-- Assumes nothing.
use Rattle.relations.specs.Relations.{seconds}
use Rattle.listing.proofs.Sets.{one_row}
use Rattle.listing.proofs.seconds.Goals as goal

pub returns : goal.returns
unfolding seconds
returns c = one_row _ _ c.seconds.ensures
