-- `site_header::counts_fit` meets its contract: the test of the code's tables is the test of what they hold.
-- Assumes nothing.
use Rattle.std.proofs.Common.{rules, ap, ◌∙◌}
use mathlib.Core.List.{List}
use borrow.Author.Tests.{tests}
use Rattle.std.proofs.lemmas.Iterator.{YieldsList-from_slice}
use Rattle.std.proofs.lemmas.Iterator.Search.{all_from_yields_List}
use Rattle.site_format.specs.Format.{Content, each_table, held}
use Rattle.site_format.specs.declared.Table.{Table}
use Rattle.site_header.specs.Header.{count_fits}
use Rattle.site_header.proofs.Loop.{each_held}
use Rattle.site_header.proofs.counts_fit.Goals as goal

pub returns : goal.returns
returns c =
    let file = c.args.file.now in
    all_from_yields_List (λ (t : Table). count_fits file (held t)) _ _ _ c.all-2.ensures.ran (YieldsList-from_slice c.all.result (cc)) (λ x b q k. search (rules, tests))
    ∙ each_held c.all.result (count_fits file)
    ∙ ap (λ (cs : List Content). each_table cs (count_fits file)) c.all.ensures
