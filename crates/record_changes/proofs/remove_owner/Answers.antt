-- `record_changes::remove_owner` meets its contract: the pair goes, and the user is looked up among those that are left.
-- Assumes nothing.
use Prim.Native.Nat.{ℕ}
use mathlib.Core.Path.{◌≡◌, sym, ap, ◌∙◌}
use mathlib.Core.Bool.{Bool, false, not}
use mathlib.Core.List.{List}
use borrow.Author.Tests.{not-true, not-false}
use Rattle.state.specs.Site.{Site, user, owner, cells, with_listed, with_pair}
use Rattle.state.specs.Walk.{has_first}
use Rattle.records.specs.Record.{bytes_of, state_of}
use Rattle.record_changes.proofs.Written.{Holds, holds_state, is_a_record, then_same, related_holds}
use Rattle.record_changes.proofs.Owned.{keeps, goes}
use Rattle.record_changes.proofs.remove_owner.Goals as goal
use Rattle.record_changes.proofs.remove_owner.Goals.{After-relate}

-- what is read of the bytes of a state
read : (bytes : List ℕ) (s : Site) (u : ℕ) (r : Bool) → Holds bytes s → r ≡ has_first (cells (state_of bytes) owner) u → has_first (cells s owner) u ≡ r
read bytes s u r t e = sym (e ∙ ap (λ (x : Site). has_first (cells x owner) u) (holds_state bytes s t))

-- the state without the pair
abbrev left : After-relate → Site
left c = let x = c.args in with_pair (state_of x.bytes.now) owner x.user x.area false

without : (c : After-relate) → Holds c.relate.new.bytes (left c)
without c = related_holds _ _ owner _ _ false c.relate.ensures

pub owns_any-requires : goal.owns_any-requires
owns_any-requires c = (is_a_record _ _ (without (goal.at.owns_any-requires c).After-relate), c.requires.1)

pub list-requires : goal.list-requires
list-requires c = (is_a_record _ _ (without (goal.at.list-requires c).After-relate), c.requires.1)

pub returns-then-not-owns_any : goal.returns-then-not-owns_any
returns-then-not-owns_any c =
    let at = goal.at.returns-then-not-owns_any c in
    let idle = read _ _ _ _ (without at.After-relate) c.owns_any.ensures ∙ not-true _ (ap not c.if-not-owns_any.true) in
    then_same _ _ _ (λ (s : Site). with_listed s user c.args.user false) (without at.After-relate) c.list.ensures ∙ ap bytes_of (goes (left at.After-relate) _ idle)

pub returns-else-not-owns_any : goal.returns-else-not-owns_any
returns-else-not-owns_any c =
    let at = goal.at.returns-else-not-owns_any c in
    let some = read _ _ _ _ (without at.After-relate) c.owns_any.ensures ∙ not-false _ (ap not c.if-not-owns_any.false) in
    (without at.After-relate).same ∙ ap bytes_of (keeps (left at.After-relate) _ some)
