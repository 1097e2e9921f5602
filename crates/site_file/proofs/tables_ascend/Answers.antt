-- `site_file::tables_ascend` meets its contract: the test of the code's tables is the test of what they hold.
-- Assumes nothing.
use Rattle.std.proofs.Common.{rules}
use borrow.Author.Tests.{tests}
use Rattle.std.proofs.lemmas.Iterator.{YieldsList-from_slice}
use Rattle.std.proofs.lemmas.Iterator.Search.{all_from_yields_List}
use Rattle.site_format.specs.Format.{Content, part, content_ascends, held}
use Rattle.site_format.specs.declared.Table.{Table}
use Rattle.site_file.proofs.Each.{each_of_tables}
use Rattle.site_file.proofs.tables_ascend.Goals as goal

pub returns : goal.returns
returns c =
    let file = c.args.file.now in
    each_of_tables c.all.result c.all.ensures (λ (x : Content). content_ascends x (part file x))
    (all_from_yields_List (λ (t : Table). content_ascends (held t) (part file (held t))) _ _ _ c.all-2.ensures.ran
    (YieldsList-from_slice c.all.result (cc)) (λ x b q k. search (rules, tests)))
