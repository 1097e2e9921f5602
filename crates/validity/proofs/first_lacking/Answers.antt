-- `validity::first_lacking` meets its contract. The loop's invariant: none of the first o objects has a pair whose area lacks access.
-- Assumes nothing.
use Prim.Native.Nat.{ℕ}
use mathlib.Core.Path.{◌≡◌, sym, ap, ◌∙◌}
use mathlib.Core.Bool.{Bool, true, false, not}
use native.Mathlib.Omega.{arith}
use lib.ListN.{get_or}
use Rattle.bits.specs.Bits.{bit, union, is_subset}
use Rattle.bits.specs.Rows.{Rows, cells_of}
use Rattle.state.specs.Stands.{site}
use Rattle.state.specs.declared.State.{State}
use Rattle.state.proofs.Below.{some_none, some_goes, none_at, found_is, found_none}
use Rattle.state.proofs.Bools.{not_same}
use Rattle.relations.specs.Relations.{transpose}
use Rattle.search.specs.Rounds.{object_in, move_by, reachable}
use Rattle.search.specs.declared.Object.{Object}
use Rattle.validity.specs.Parts.{lacking}
use Rattle.validity.proofs.Laws.{subset_lacking}
use Rattle.validity.proofs.first_lacking.Goals as goal
use Rattle.validity.proofs.first_lacking.Goals.{After-reaches}

-- the test of one object, by what the calls promise
tested : (s : State) (tr these those : Rows) → cells_of tr ≡ transpose (cells_of s.structure) → (object : ℕ) (o : Object) (wanted : ℕ) (r v : Bool)
    → o ≡ object_in s object → wanted ≡ union (get_or these object 0) (get_or those object 0)
    → r ≡ is_subset wanted (reachable (bit o.defined) (move_by (cells_of s.structure) (cells_of tr) (bit o.imported) (bit o.exported))) → not r ≡ v
    → lacking (site s) (cells_of these) (cells_of those) object ≡ v
tested s tr these those turned object o wanted r v here u e t = sym (not_same found) ∙ sym (ap not known) ∙ t
  where
    found : Bool
    found = lacking (site s) (cells_of these) (cells_of those) object

    known : r ≡ not found
    known = e ∙ rw (u, here) (subset_lacking s (cells_of tr) these those turned object)

pub loop-o-init : goal.loop-o-init
loop-o-init c = some_none _

-- what the search tells of the object whose turn it is
asked : (c : After-reaches) (v : Bool) → not c.reaches.result ≡ v
    → let x = c.args in
    lacking (site x.s.now) (cells_of x.these.now) (cells_of x.those.now) c.loop-o.o ≡ v
asked c v e =
    let x = c.args in
    tested x.s.now _ x.these.now x.those.now
    c.transposed-transposed.ensures c.loop-o.o _ _ _ v c.object_of.ensures c.union-wanted.ensures c.reaches.ensures e

pub returns-then-not-reaches : goal.returns-then-not-reaches
returns-then-not-reaches c =
    sym (found_is _ 64 c.loop-o.o (omega arith) (asked (goal.at.returns-then-not-reaches c).After-reaches true (ap not c.if-not-reaches.true)) (none_at _ _ c.loop-o.invariant))

pub loop-o-preserved : goal.loop-o-preserved
loop-o-preserved c =
    some_goes _ _ c.loop-o.invariant (asked (goal.at.loop-o-preserved c).After-reaches false (ap not c.if-not-reaches.false))

pub returns : goal.returns
returns c =
    let x = c.args in
    let all : c.loop-o.o ≡ 64 = omega arith in
    sym (found_none _ 64 (none_at _ 64 (rw all at c.loop-o.invariant)))
