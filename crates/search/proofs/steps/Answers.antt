-- `search::steps` meets its contract: the answer that is found on the object's rows is that of its relations.
-- Assumes nothing.
use Prim.Native.Nat.{ℕ, suc, ◌<◌}
use mathlib.Core.Path.{◌≡◌, refl, sym, ap, subst, ◌∙◌}
use mathlib.Core.Bool.{Bool, true}
use native.Mathlib.Omega.{arith}
use Rattle.std.proofs.Common.{None}
use Rattle.bits.specs.Bits.{bit, places, with_bit}
use Rattle.bits.specs.Rows.{cells_of}
use Rattle.state.specs.Below.{found_below}
use Rattle.state.specs.Stands.{site}
use Rattle.state.specs.declared.State.{State}
use Rattle.relations.specs.Relations.{transpose}
use Rattle.access.specs.Lending.{Lending, lending}
use Rattle.access.specs.Answer.{Answer, longest, answer, answer_number, least_count}
use Rattle.access.specs.Claims.{Right}
use Rattle.access.proofs.Laws.{answer_is_right, number_is_count, outside}
use Rattle.search.specs.Rounds.{object_in, move_by, all_within}
use Rattle.search.specs.declared.Object.{Object}
use Rattle.search.proofs.Laws.{same_answer}
use Rattle.search.proofs.Layers.{one_within, answer_found}
use Rattle.search.proofs.steps.Goals as goal

-- the whole promise, from the answer that the definition gives
record Promised (l : Lending) (a : ℕ) (x : Answer) : Type 0 where
  equation : x ≡ answer l a
  meaning : Right l a x
  number : answer_number x ≡ least_count l a

promised : (l : Lending) (a : ℕ) (x : Answer) → x ≡ answer l a → Promised l a x
promised l a x e = record { equation = e; meaning = subst (Right l a) (sym e) (answer_is_right l a); number = ap answer_number e ∙ number_is_count l a }

-- the answer, by what the calls promise
answered : (s : State) (object a : ℕ) (o : Object) (wanted : ℕ) (x : Answer) → a < places → o ≡ object_in s object → wanted ≡ with_bit 0 a true
    → x ≡ found_below (suc longest) (all_within (bit o.defined) (move_by (cells_of s.structure) (transpose (cells_of s.structure)) (bit o.imported) (bit o.exported)) wanted)
    → x ≡ answer (lending (site s) object) a
unfolding site
answered s object a o wanted x h here w p =
    p ∙ rw (w, here) (ap (found_below (suc longest)) (λ i n. one_within start move a n h i) ∙ sym (answer_found start move longest a) ∙ same_answer s.definitions s.structure (transpose (cells_of s.structure)) s.imports s.exports object refl a)
  where
    start : ℕ → Bool
    start = bit (object_in s object).defined

    move : ℕ → ℕ → Bool
    move = move_by (cells_of s.structure) (transpose (cells_of s.structure)) (bit (object_in s object).imported) (bit (object_in s object).exported)

pub returns-then-area-ge-AREAS : goal.returns-then-area-ge-AREAS
returns-then-area-ge-AREAS c =
    let l = lending (site c.args.s.now) c.args.object in
    let p = promised l c.args.area None (sym (outside l c.args.area c.if-area-ge-AREAS.true)) in
    record { equation = p.equation; meaning = p.meaning; number = p.number }

pub returns : goal.returns
returns c =
    let p = promised _ _ _ (answered c.args.s.now c.args.object c.args.area _ _ _ (omega arith) c.object_of-o.ensures c.with_bit.ensures c.least_steps.ensures) in
    record { equation = p.equation; meaning = p.meaning; number = p.number }
