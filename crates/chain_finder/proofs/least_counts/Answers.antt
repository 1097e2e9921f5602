-- `chain_finder::least_counts` meets its contract: the counts that are found on the object's rows are those of its relations.
-- Assumes nothing.
use Prim.Native.Nat.{ℕ}
use mathlib.Core.Path.{◌≡◌, refl, ap, ◌∙◌}
use mathlib.Core.List.{List}
use lib.ListN.{get_or}
use Rattle.bits.specs.Bits.{bit}
use Rattle.bits.specs.Rows.{Rows, cells_of}
use Rattle.state.specs.Site.{area, limit}
use Rattle.state.specs.Stands.{site}
use Rattle.state.specs.declared.State.{State}
use Rattle.state.proofs.Tabulate.{same_table}
use Rattle.relations.specs.Relations.{transpose}
use Rattle.access.specs.Lending.{lending_of, lending}
use Rattle.access.specs.Answer.{longest, answer, answer_number, counts_within, least_counts}
use Rattle.search.specs.Rounds.{object_in, move_by}
use Rattle.search.specs.declared.Object.{Object}
use Rattle.search.proofs.Laws.{same_answer}
use Rattle.chain_finder.specs.Parts.{moves}
use Rattle.chain_finder.proofs.least_counts.Goals as goal

module _ (ds st im ex : Rows) (o : ℕ) where
  same_counts : counts_within (bit (get_or ds o 0)) (move_by (cells_of st) (transpose (cells_of st)) (bit (get_or im o 0)) (bit (get_or ex o 0))) longest
      ≡ least_counts (lending_of (cells_of ds) (cells_of st) (cells_of im) (cells_of ex) o)
  unfolding counts_within least_counts answer
  same_counts = same_table _ _ 0 (limit area) (λ a h. ap answer_number (same_answer ds st (transpose (cells_of st)) im ex o refl a))

-- the counts, by what the calls promise
counted : (s : State) (object : ℕ) (o : Object) (counts : List ℕ) → o ≡ object_in s object → counts ≡ counts_within (bit o.defined) (moves o s.structure) longest
    → counts ≡ least_counts (lending (site s) object)
unfolding site
counted s object o counts e p = p ∙ rw e (same_counts s.definitions s.structure s.imports s.exports object)

pub returns : goal.returns
returns c = counted c.args.s.now c.args.object _ _ c.object_of-o.ensures c.counts_of.ensures
