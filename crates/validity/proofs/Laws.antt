-- The law of specs/Laws.antt, and validity as the functions test it, object by object: the areas that are wanted are among those that the object
-- reaches.
-- Assumes nothing.
use Prim.Native.Nat.{ℕ, zero, suc, ◌<◌}
use mathlib.Core.Path.{◌≡◌, refl, sym, ap, ap₂, subst, ◌∙◌}
use mathlib.Core.Logic.{◌⊎◌, inl, inr}
use mathlib.Core.Bool.{Bool, true, false, ◌&&◌, ◌||◌, not}
use lib.Dec.{T}
use lib.ListN.{get_or}
use Rattle.bits.specs.Bits.{bit, places, union, is_subset}
use Rattle.bits.specs.Rows.{Rows, cells_of}
use Rattle.bits.proofs.Laws.{union_bit, subset_decided}
use Rattle.std.proofs.Common.{Option, is_some}
use Rattle.state.specs.Below.{each_below, some_below, found_below}
use Rattle.state.specs.Cells.{Pairs, pair}
use Rattle.state.specs.Site.{Site, imports, exports, import, export, Shaped}
use Rattle.state.specs.Stands.{site}
use Rattle.state.specs.declared.State.{State}
use Rattle.state.proofs.Below.{each_at, each_by, some_at, some_by}
use Rattle.state.proofs.Bools.{and_both, and_left, and_right, or_left, or_right, or_cases, same_test, implied, implies, fails, so_not, not_so, not_same, test}
use Rattle.state.proofs.Laws.{pair_area, pair_first}
use Rattle.relations.specs.Relations.{transpose}
use Rattle.relations.proofs.Laws.{pair_bit}
use Rattle.access.specs.Lending.{lending}
use Rattle.access.specs.Answer.{access}
use Rattle.search.specs.Rounds.{object_in, move_by, reachable}
use Rattle.search.specs.declared.Object.{Object}
use Rattle.search.proofs.Laws.{reachable_is_access}
use Rattle.search.proofs.Layers.{found_some}
use Rattle.soundness.specs.Tests.{is_valid}
use Rattle.soundness.proofs.Laws.{valid_decided}
use Rattle.validity.specs.Parts.{valid_for, lacking}
use Rattle.validity.specs.Laws

-- ---- of a state
-- the object's import and export pairs have access
record ObjectValid (s : Site) (o : ℕ) : Type 0 where
  imported : (a : ℕ) → T (imports s o a) → T (access (lending s o) a)
  exported : (a : ℕ) → T (exports s o a) → T (access (lending s o) a)

for_there : (s : Site) (o : ℕ) → T (valid_for s o) → ObjectValid s o
unfolding valid_for
for_there s o t =
    record {
      imported = λ a p. at a (pair_area s.imports o a p) (or_left (imports s o a) (exports s o a) p);
      exported = λ a p. at a (pair_area s.exports o a p) (or_right (imports s o a) (exports s o a) p);
    }
  where
    at : (a : ℕ) → a < places → T (imports s o a || exports s o a) → T (access (lending s o) a)
    at a h p = implies (imports s o a || exports s o a) (access (lending s o) a) (each_at _ 32 t a h) p

for_back : (s : Site) (o : ℕ) → ObjectValid s o → T (valid_for s o)
unfolding valid_for
for_back s o v =
    each_by _ 32 (λ a h. implied (imports s o a || exports s o a) (access (lending s o) a) (λ p. at a (or_cases (imports s o a) (exports s o a) p)))
  where
    at : (a : ℕ) → T (imports s o a) ⊎ T (exports s o a) → T (access (lending s o) a)
    at a (inl p) = v.imported a p
    at a (inr p) = v.exported a p

-- a state is valid where each of the 64 objects is
pub valid_by_objects : Laws.ValidByObjects
valid_by_objects s shaped =
    same_test (each_below 64 (valid_for s)) (is_valid s)
    (λ t. (valid_decided s).1
    (record {
      imported = λ o k p. (for_there s o (each_at (valid_for s) 64 t o (pair_first s.imports 64 o k (shaped.relations import) p))).imported k p;
      exported = λ o k p. (for_there s o (each_at (valid_for s) 64 t o (pair_first s.exports 64 o k (shaped.relations export) p))).exported k p;
    }))
    (λ t.
    let v = (valid_decided s).0 t in
    each_by (valid_for s) 64 (λ o h. for_back s o (record { imported = v.imported o; exported = v.exported o })))

-- ---- the object's pairs of two relations
-- each number passes where none fails
each_not_some : (f g : ℕ → Bool) (n : ℕ) → ((k : ℕ) → f k ≡ not (g k)) → each_below n f ≡ not (some_below n g)
unfolding each_below some_below
each_not_some f g zero same = refl
each_not_some f g (suc n) same = ap₂ ◌&&◌ (each_not_some f g n same) (same n) ∙ both (some_below n g) (g n)
  where
    both : (x y : Bool) → (not x && not y) ≡ not (x || y)
    both true y = refl
    both false y = refl

-- an object is valid where none of its pairs is lacking
valid_lacking : (s : Site) (o : ℕ) → valid_for s o ≡ not (lacking s s.imports s.exports o)
unfolding valid_for lacking
valid_lacking s o = each_not_some _ _ 32 (λ a. either (imports s o a || exports s o a) (access (lending s o) a))
  where
    either : (p q : Bool) → (not p || q) ≡ not (p && not q)
    either true true = refl
    either true false = refl
    either false q = refl

-- a state is valid where no object is found that lacks access
pub valid_by_first : (s : Site) → Shaped s → (r : Option ℕ) (valid : Bool) → r ≡ found_below 64 (lacking s s.imports s.exports) → is_some r ≡ not valid
    → valid ≡ is_valid s
valid_by_first s shaped r valid e n =
    sym (not_same valid) ∙ ap not (sym n ∙ ap (λ (x : Option ℕ). is_some x) e ∙ found_some (lacking s s.imports s.exports) 64)
    ∙ sym (each_not_some (valid_for s) (lacking s s.imports s.exports) 64 (valid_lacking s)) ∙ valid_by_objects s shaped

-- ---- by the rows of its relations
module _ (s : State) (tr : Pairs) (these those : Rows) (turned : tr ≡ transpose (cells_of s.structure)) (o : ℕ) where
  -- the areas that the object is wanted in, and those that it reaches
  abbrev wanted : ℕ
  wanted = union (get_or these o 0) (get_or those o 0)

  abbrev pub reached : ℕ
  reached =
      reachable (bit (get_or s.definitions o 0)) (move_by (cells_of s.structure) tr (bit (get_or s.imports o 0)) (bit (get_or s.exports o 0)))

  abbrev is_wanted : ℕ → Bool
  is_wanted a = pair (cells_of these) o a || pair (cells_of those) o a

  wanted_bit : (a : ℕ) → a < places → bit wanted a ≡ is_wanted a
  wanted_bit a h = union_bit (get_or these o 0) (get_or those o 0) a h ∙ sym (ap₂ ◌||◌ (pair_bit these o a h) (pair_bit those o a h))

  reached_bit : (a : ℕ) → bit reached a ≡ access (lending (site s) o) a
  unfolding site
  reached_bit a = reachable_is_access s.definitions s.structure tr s.imports s.exports o a turned

  pub subset_lacking : is_subset wanted reached ≡ not (lacking (site s) (cells_of these) (cells_of those) o)
  unfolding lacking
  subset_lacking = same_test (is_subset wanted reached) (not found) there back
    where
      has : ℕ → Bool
      has a = access (lending (site s) o) a

      lacks : ℕ → Bool
      lacks a = is_wanted a && not (has a)

      found : Bool
      found = some_below 32 lacks

      there : T (is_subset wanted reached) → T (not found)
      there t =
          so_not found (λ f.
          let q = some_at lacks 32 f in
          let a = q.place in
          not_so (has a) (and_right (is_wanted a) (not (has a)) q.met)
          (subst T (reached_bit a)
          ((subset_decided wanted reached).0 t a q.below (subst T (sym (wanted_bit a q.below)) (and_left (is_wanted a) (not (has a)) q.met)))))

      back : T (not found) → T (is_subset wanted reached)
      back none = (subset_decided wanted reached).1 (λ a h p. subst T (sym (reached_bit a)) (go a h (subst T (wanted_bit a h) p) (test (has a))))
        where
          go : (a : ℕ) → a < places → T (is_wanted a) → T (has a) ⊎ (has a ≡ false) → T (has a)
          go a h p (inl t) = t
          go a h p (inr far) = absurd (not_so found none (some_by lacks 32 a h (and_both (is_wanted a) (not (has a)) p (so_not (has a) (fails far)))))

-- one object, by what the calls promise
pub for_by_rows : (s : State) (object : ℕ) (o : Object) (all : ℕ) (r : Bool) → o ≡ object_in s object → all ≡ union o.imported o.exported
    → r ≡ is_subset all (reachable (bit o.defined) (move_by (cells_of s.structure) (transpose (cells_of s.structure)) (bit o.imported) (bit o.exported)))
    → r ≡ valid_for (site s) object
unfolding site
for_by_rows s object o all r e u p =
    p ∙ rw (u, e) (subset_lacking s (transpose (cells_of s.structure)) s.imports s.exports refl object) ∙ sym (valid_lacking (site s) object)
