-- The structure pairs of areas whose owners are silent. An instruction adds a structure pair only for a user who owns
-- both areas, and removes it only for one who owns either (PairChange). A silent area keeps its owners (Demand3), so
-- none of them is the activator at any place of the list.
-- Assumes nothing.
use Prim.Native.Nat.{ℕ}
use mathlib.Core.Path.{◌≡◌, refl, sym, subst}
use mathlib.Core.Logic.{◌⊎◌, inl, inr}
use mathlib.Core.Bool.{true, false}
use mathlib.Core.List.{List, [], ◌∷◌}
use lib.Dec.{T}
use Rattle.state.specs.Site.{area, listed, structure, with_pair, owns, inside}
use Rattle.state.specs.Site.{Site}
use Rattle.state.proofs.Bools.{or_cases, so}
use Rattle.state.proofs.Laws.{related_else, add_keeps_pairs, remove_adds_none}
use Rattle.soundness.specs.Sound.{Sound}
use Rattle.instructions.specs.Instructions.{Bytes}
use Rattle.successors.specs.Successor.{changed}
use Rattle.readings.specs.Readings.{seen_of}
use Rattle.refusals.specs.Refusals.{may_cut}
use Rattle.machine.specs.Step.{step_of, run}
use Rattle.guarantees.specs.Demand3.{Silent, silent_next}
use Rattle.guarantees.specs.Structure
use Rattle.instructions.specs.declared.Rule.{Rule}
use Rattle.guarantees.proofs.Rows.{Row, row, lists_area, unlists_area, adds_owner, removes_owner, adds_structure, removes_structure}
use Rattle.guarantees.proofs.Rows.{adds_definition, removes_definition, adds_import, removes_import, adds_export, removes_export}
use Rattle.guarantees.proofs.Kept.{both_so, Accepted}
use Rattle.guarantees.proofs.Demand3.{Obeyed, stepped, step_sound, step_same, listed_still, silent_still}

-- ---- one step
-- The structure pair (p, q) in the state t that an instruction of user u gives from s: it is as before, or it may have
-- been added and u owns both areas, or it may have been removed and u owns either.
data PairChange (s t : Site) (u p q : ℕ) : Type 0 where
  as_before : inside t p q ≡ inside s p q → PairChange s t u p q
  added : T (owns s u p) × T (owns s u q) → (T (inside s p q) → T (inside t p q)) → PairChange s t u p q
  removed : T (owns s u p) ⊎ T (owns s u q) → (T (inside t p q) → T (inside s p q)) → PairChange s t u p q

module _ (s : Site) (u a b p q : ℕ) where
  -- (p, q) is the pair (a, b) that is written, or it is as before
  abbrev Written : Site → Type 0
  Written t = ((structure ≡ structure) × (p ≡ a) × (q ≡ b)) ⊎ (inside t p q ≡ inside s p q)

  add : T (owns s u a) × T (owns s u b) → Written (with_pair s structure a b true)
      → PairChange s (with_pair s structure a b true) u p q
  add both (inl e) = rw (e.1, e.2) (added both (add_keeps_pairs s structure structure a b a b))
  add both (inr e) = as_before e

  remove : T (owns s u a) ⊎ T (owns s u b) → Written (with_pair s structure a b false)
      → PairChange s (with_pair s structure a b false) u p q
  remove either (inl e) = rw (e.1, e.2) (removed either (remove_adds_none s structure structure a b a b))
  remove either (inr e) = as_before e

  obeyed_pair : {r : Rule} → Row r → Accepted s r u a b → PairChange s (changed s r.target r.adds u a b) u p q
  obeyed_pair lists_area y = as_before refl
  obeyed_pair unlists_area y = as_before refl
  obeyed_pair adds_owner y = as_before refl
  obeyed_pair removes_owner y = as_before refl
  obeyed_pair adds_structure y =
      add (both_so (owns s u a) (owns s u b) (y.passes 5)) (related_else s structure structure a b p q true)
  obeyed_pair removes_structure y =
      remove (or_cases (owns s u a) (owns s u b) (so (may_cut (seen_of s u a b)) (y.passes 5)))
      (related_else s structure structure a b p q false)
  obeyed_pair adds_definition y = as_before refl
  obeyed_pair removes_definition y = as_before refl
  obeyed_pair adds_import y = as_before refl
  obeyed_pair removes_import y = as_before refl
  obeyed_pair adds_export y = as_before refl
  obeyed_pair removes_export y = as_before refl

step_pair : (s : Site) (bytes : Bytes) (p q : ℕ) → PairChange s (step_of s bytes).state bytes.activator p q
step_pair s bytes p q = go (stepped s bytes)
  where
    go : ((step_of s bytes).state ≡ s) ⊎ Obeyed s bytes (step_of s bytes).state
        → PairChange s (step_of s bytes).state bytes.activator p q
    go (inl e) = rw e (as_before refl)
    go (inr y) = rw y.given (obeyed_pair s bytes.activator bytes.a bytes.b p q (row y.kind) y.accepted)

-- A user who does not own both areas adds no pair of them, and one who owns neither removes none.
not_added : {s t : Site} {u p q : ℕ} → PairChange s t u p q → (T (owns s u p) × T (owns s u q) → ⊥)
    → T (inside t p q) → T (inside s p q)
not_added (as_before e) lacks i = subst T e i
not_added (added both k) lacks i = absurd (lacks both)
not_added (removed either k) lacks i = k i

not_removed : {s t : Site} {u p q : ℕ} → PairChange s t u p q → (T (owns s u p) → ⊥) → (T (owns s u q) → ⊥)
    → T (inside s p q) → T (inside t p q)
not_removed (as_before e) inner outer i = subst T (sym e) i
not_removed (added both k) inner outer i = k i
not_removed (removed (inl o) k) inner outer i = absurd (inner o)
not_removed (removed (inr o) k) inner outer i = absurd (outer o)

-- ---- a list
-- An area that is listed and silent is so after the first instruction too, whose activator does not own it.
record Onward (s : Site) (bytes : Bytes) (rest : List Bytes) (p : ℕ) : Type 0 where
  quiet : T (owns s bytes.activator p) → ⊥
  here : T (listed (step_of s bytes).state area p)
  silent : Silent (step_of s bytes).state p rest

onward : (s : Site) (bytes : Bytes) (rest : List Bytes) → Sound s → (p : ℕ) → T (listed s area p)
    → Silent s p (bytes ∷ rest) → Onward s bytes rest p
onward s bytes rest h p here (silent_next quiet others) =
    let t = (step_of s bytes).state in
    let same = step_same s bytes p here quiet in
    record {
      quiet = quiet;
      here = listed_still s t p h (step_sound s bytes h) same here;
      silent = silent_still s t p same rest others;
    }

pub structure_guarantee : Structure.StructureGuarantee
unfolding run
structure_guarantee s [] h =
    record {
      none_added_within = λ p q here silent i. i;
      none_added_around = λ p q here silent i. i;
      kept = λ p q here there silent also i. i;
    }
structure_guarantee s (bytes ∷ rest) h =
    let later = structure_guarantee (step_of s bytes).state rest (step_sound s bytes h) in
    record {
      none_added_within = λ p q here silent i.
          let n = onward s bytes rest h p here silent in
          not_added (step_pair s bytes p q) (λ both. n.quiet both.0)
          (later.none_added_within p q n.here n.silent i);
      none_added_around = λ p q here silent i.
          let n = onward s bytes rest h q here silent in
          not_added (step_pair s bytes p q) (λ both. n.quiet both.1)
          (later.none_added_around p q n.here n.silent i);
      kept = λ p q here there silent also i.
          let n = onward s bytes rest h p here silent in
          let m = onward s bytes rest h q there also in
          later.kept p q n.here m.here n.silent m.silent
          (not_removed (step_pair s bytes p q) n.quiet m.quiet i);
    }
