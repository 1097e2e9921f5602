-- `marks::lowest_mark` meets its contract. The rule of the table is that it is `tabulate 256 lowest`. That is one test:
-- antt computes those 256 entries and compares them with the code's, where `entry` stands for the contract's equation.
-- `get_or_tabulate` carries the rule to the entry that is read. Assumes nothing.
use borrow.Author.Rules.{rules}
use mathlib.Core.Path.{sym, subst}
use Rattle.state.specs.Below.{first_from}
use Rattle.state.specs.Tabulate.{tabulate, tabulate_from}
use Rattle.state.proofs.Tabulate.{get_or_tabulate}
use Rattle.marks.specs.Marks.{marked, Lowest, lowest}
use Rattle.marks.proofs.Laws.{lowest_is_right}
use Rattle.marks.proofs.lowest_mark.Goals as goal

pub returns : goal.returns
unfolding tabulate tabulate_from lowest first_from marked
returns c =
    let b = c.args.marks in
    let entry = get_or_tabulate lowest 256 b 0 (search rules) in
    record { equation = entry; lowest_set = subst (Lowest b) (sym entry) (lowest_is_right b) }
