-- The third demand. A step keeps soundness (Kept), and keeps the pairs of an area whose owners are silent; so does a
-- list.
-- Assumes nothing.
use Prim.Native.Nat.{ℕ}
use mathlib.Core.Path.{◌≡◌, refl, sym, ap, subst, ◌∙◌}
use mathlib.Core.Logic.{◌⊎◌, inl, inr}
use mathlib.Core.Bool.{Bool, true, false, not}
use mathlib.Core.List.{List, [], ◌∷◌}
use native.Mathlib.Decide.{ℕ_discrete}
use lib.Dec.{T}
use Rattle.std.proofs.Common.{Some, Ok, Err}
use Rattle.verdicts.specs.declared.Refusal.{Refusal}
use Rattle.verdicts.specs.declared.Refusal.TheVariants.{UnknownCode, OutOfRange}
use Rattle.state.specs.Site.{Kind, user, area, object, listed, with_listed, Relation, owner, definition, structure, import, export, related, with_pair, owns}
use Rattle.state.specs.Site.{Site}
use Rattle.state.proofs.Bools.{fails, so}
use Rattle.state.proofs.Laws.{list_keeps_pairs, related_else, related_other_relation}
use Rattle.soundness.specs.Sound.{Sound}
use Rattle.instructions.specs.Instructions.{Bytes, rule, instruction_of}
use Rattle.instructions.specs.declared.Target.{Target}
use Rattle.instructions.specs.declared.Target.TheVariants.{TheArea, Owner, Definition, Structure, Import, Export}
use Rattle.instructions.specs.Decode.{Decoded, decode_of}
use Rattle.instructions.proofs.Laws.{refused_as_two, fits_exactly}
use Rattle.successors.specs.Successor.{without_owner, changed, successor, successor_of}
use Rattle.state.specs.Checks.{first_met, met_at}
use Rattle.machine.proofs.Laws.{accepted_meets_none, accepted_gives, refused_unchanged, number_by_first}
use Rattle.machine.specs.Step.{step_of, run}
use Rattle.guarantees.specs.Demand3
use Rattle.guarantees.specs.Demand3.{Silent, silent_end, silent_next, LendingGuarantee}
use Rattle.instructions.specs.declared.Instruction.{Instruction}
use Rattle.guarantees.proofs.Parts.{different}
use Rattle.instructions.specs.declared.Rule.{Rule}
use Rattle.guarantees.proofs.Rows.{picks_one, Row, row, lists_area, unlists_area, adds_owner, removes_owner, adds_structure, removes_structure}
use Rattle.guarantees.proofs.Rows.{adds_definition, removes_definition, adds_import, removes_import, adds_export, removes_export}
use Rattle.guarantees.proofs.Kept.{table_of, Accepted, accepted_sound}

-- ---- one step
-- The state after a step is the one before, or the successor of an instruction that is accepted.
module _ (s : Site) (bytes : Bytes) where
  abbrev gives : Instruction → Site
  gives x = successor s x bytes.activator bytes.a bytes.b

  abbrev accepts : Instruction → Type 0
  accepts x = Accepted s (rule x) bytes.activator bytes.a bytes.b

  pub record Obeyed (t : Site) : Type 0 where
    pub kind : Instruction
    pub fitting : decode_of bytes ≡ Ok kind
    pub accepted : accepts kind
    pub given : t ≡ gives kind

  -- by what the bytes fit; one that fits nothing would meet 1 or 2
  picked : (d : Decoded) → decode_of bytes ≡ d → ((n : ℕ) → met_at n (table_of s bytes d) ≡ false) → Obeyed (successor_of s bytes d)
  picked (Ok x) e passes =
      let accepted : accepts x = record { is_in_range = ((fits_exactly bytes x).0 e).is_in_range; passes = passes } in
      record { kind = x; fitting = e; accepted = accepted; given = refl }
  picked (Err refusal) e passes = absurd (go (refused_as_two bytes (instruction_of bytes.code) refusal e))
    where
      go : (refusal ≡ UnknownCode) ⊎ (refusal ≡ OutOfRange) → ⊥
      go (inl q) = fails (subst (λ (r : Refusal). met_at 1 (table_of s bytes (Err r)) ≡ false) q (passes 1)) tt
      go (inr q) = fails (subst (λ (r : Refusal). met_at 2 (table_of s bytes (Err r)) ≡ false) q (passes 2)) tt

  pub obeyed : (step_of s bytes).refusal ≡ 0 → Obeyed (step_of s bytes).state
  obeyed e = rw (accepted_gives s bytes e) (picked (decode_of bytes) refl (accepted_meets_none s bytes e))

  pub stepped : ((step_of s bytes).state ≡ s) ⊎ Obeyed (step_of s bytes).state
  stepped = go (ℕ_discrete (step_of s bytes).refusal 0)
    where
      go : Dec ((step_of s bytes).refusal ≡ 0) → ((step_of s bytes).state ≡ s) ⊎ Obeyed (step_of s bytes).state
      go (yes e) = inr (obeyed e)
      go (no f) = inl (refused_unchanged s bytes f)

  -- the instruction that the code picks
  pub obeyed_as : (x : Instruction) → instruction_of bytes.code ≡ Some x → (step_of s bytes).refusal ≡ 0
      → accepts x × ((step_of s bytes).state ≡ gives x)
  obeyed_as x picks e =
      let y = obeyed e in
      let same = picks_one (sym ((fits_exactly bytes y.kind).0 y.fitting).picked ∙ picks) in
      subst (λ (z : Instruction). accepts z × ((step_of s bytes).state ≡ gives z)) same (y.accepted, y.given)

  -- the number is that of the table, by what the bytes fit
  pub by_table : (d : Decoded) → decode_of bytes ≡ d → (step_of s bytes).refusal ≡ first_met (table_of s bytes d)
  by_table d e = number_by_first s bytes ∙ ap (λ (x : Decoded). first_met (table_of s bytes x)) e

pub step_sound : (s : Site) (bytes : Bytes) → Sound s → Sound (step_of s bytes).state
step_sound s bytes h = go (stepped s bytes)
  where
    go : ((step_of s bytes).state ≡ s) ⊎ Obeyed s bytes (step_of s bytes).state → Sound (step_of s bytes).state
    go (inl e) = rw e h
    go (inr y) = rw y.given (accepted_sound s h (row y.kind) bytes.activator bytes.a bytes.b y.accepted)

-- ---- what a step leaves to an area
-- the area's owner, definition, import and export pairs are the same
pub record Same (s t : Site) (p : ℕ) : Type 0 where
  pairs : (r : Relation) → (r ≡ structure → ⊥) → (i : ℕ) → related t r i p ≡ related s r i p

same_pair : (s : Site) (q : Relation) (i a : ℕ) (v : Bool) (p : ℕ) → (p ≡ a → ⊥) → Same s (with_pair s q i a v) p
same_pair s q i a v p ne = record { pairs = λ r ns n. go r n (related_else s q r i a n p v) }
  where
    go : (r : Relation) (n : ℕ) → ((r ≡ q) × (n ≡ i) × (p ≡ a)) ⊎ (related (with_pair s q i a v) r n p ≡ related s r n p) → related (with_pair s q i a v) r n p ≡ related s r n p
    go r n (inl e) = absurd (ne e.2)
    go r n (inr e) = e

same_structure : (s : Site) (i j : ℕ) (v : Bool) (p : ℕ) → Same s (with_pair s structure i j v) p
same_structure s i j v p = record { pairs = λ r ns n. related_other_relation s structure r i j n p v ns }

same_list : (s : Site) (k : Kind) (i : ℕ) (v : Bool) (p : ℕ) → Same s (with_listed s k i v) p
same_list s k i v p = record { pairs = λ r ns n. list_keeps_pairs s k i v r n p }

same_none : (s : Site) (p : ℕ) → Same s s p
same_none s p = record { pairs = λ r ns i. refl }

same_then : {s t w : Site} {p : ℕ} → Same s t p → Same t w p → Same s w p
same_then f g = record { pairs = λ r ns i. g.pairs r ns i ∙ f.pairs r ns i }

-- Only structure pairs change for an area other than a.
changed_same : (s : Site) (x : Target) (v : Bool) (u a b p : ℕ) → (p ≡ a → ⊥) → Same s (changed s x v u a b) p
changed_same s TheArea true u a b p ne = same_then (same_list s area a true p) (same_pair (with_listed s area a true) owner u a true p ne)
changed_same s TheArea false u a b p ne =
    same_then (same_then (same_pair s owner u a false p ne) (same_list (with_pair s owner u a false) user u _ p)) (same_list (without_owner s u a) area a false p)
changed_same s Owner true u a b p ne = same_then (same_list s user b true p) (same_pair (with_listed s user b true) owner b a true p ne)
changed_same s Owner false u a b p ne = same_then (same_pair s owner b a false p ne) (same_list (with_pair s owner b a false) user b _ p)
changed_same s Definition true u a b p ne = same_then (same_list s object b true p) (same_pair (with_listed s object b true) definition b a true p ne)
changed_same s Definition false u a b p ne = same_then (same_list s object b false p) (same_pair (with_listed s object b false) definition b a false p ne)
changed_same s Structure true u a b p ne = same_structure s a b true p
changed_same s Structure false u a b p ne = same_structure s a b false p
changed_same s Import true u a b p ne = same_pair s import b a true p ne
changed_same s Import false u a b p ne = same_pair s import b a false p ne
changed_same s Export true u a b p ne = same_pair s export b a true p ne
changed_same s Export false u a b p ne = same_pair s export b a false p ne

-- An area that is listed and not the activator's is not area a, but for a structure pair.
module _ (s : Site) (u a b p : ℕ) (here : T (listed s area p)) (silent : T (owns s u p) → ⊥) where
  his_area : (t : Target) (v : Bool) → not (owns s u a) ≡ false → Same s (changed s t v u a b) p
  his_area t v e = changed_same s t v u a b p (λ q. silent (rw q (so (owns s u a) e)))

  obeyed_same : {r : Rule} → Row r → Accepted s r u a b → Same s (changed s r.target r.adds u a b) p
  obeyed_same lists_area y = changed_same s TheArea true u a b p (λ q. fails (y.passes 6) (rw q at here))
  obeyed_same unlists_area y = his_area TheArea false (y.passes 5)
  obeyed_same adds_owner y = his_area Owner true (y.passes 5)
  obeyed_same removes_owner y = his_area Owner false (y.passes 5)
  obeyed_same adds_structure y = same_structure s a b true p
  obeyed_same removes_structure y = same_structure s a b false p
  obeyed_same adds_definition y = his_area Definition true (y.passes 5)
  obeyed_same removes_definition y = his_area Definition false (y.passes 5)
  obeyed_same adds_import y = his_area Import true (y.passes 5)
  obeyed_same removes_import y = his_area Import false (y.passes 5)
  obeyed_same adds_export y = his_area Export true (y.passes 5)
  obeyed_same removes_export y = his_area Export false (y.passes 5)

pub step_same : (s : Site) (bytes : Bytes) (p : ℕ) → T (listed s area p) → (T (owns s bytes.activator p) → ⊥) → Same s (step_of s bytes).state p
step_same s bytes p here silent = go (stepped s bytes)
  where
    go : ((step_of s bytes).state ≡ s) ⊎ Obeyed s bytes (step_of s bytes).state → Same s (step_of s bytes).state p
    go (inl e) = rw e (same_none s p)
    go (inr y) = rw y.given (obeyed_same s bytes.activator bytes.a bytes.b p here silent (row y.kind) y.accepted)

-- ---- a list
-- an area that keeps its owners is listed still
pub listed_still : (s t : Site) (p : ℕ) → Sound s → Sound t → Same s t p → T (listed s area p) → T (listed t area p)
listed_still s t p h k same here =
    let o = h.acceptable.areas p here in (k.consistent owner o.0 p (subst T (sym (same.pairs owner (different owner structure tt) o.0)) o.1)).second

pub silent_still : (s t : Site) (p : ℕ) → Same s t p → (l : List Bytes) → Silent s p l → Silent t p l
silent_still s t p same [] silent_end = silent_end
silent_still s t p same (bytes ∷ rest) (silent_next quiet others) =
    silent_next (λ o. quiet (subst T (same.pairs owner (different owner structure tt) bytes.activator) o)) (silent_still s t p same rest others)

run_sound : (s : Site) (l : List Bytes) → Sound s → Sound (run s l)
unfolding run
run_sound s [] h = h
run_sound s (bytes ∷ rest) h = run_sound (step_of s bytes).state rest (step_sound s bytes h)

run_same : (s : Site) (l : List Bytes) (p : ℕ) → Sound s → T (listed s area p) → Silent s p l → Same s (run s l) p
unfolding run
run_same s [] p h here silent_end = same_none s p
run_same s (bytes ∷ rest) p h here (silent_next quiet others) =
    let t = (step_of s bytes).state in
    let k = step_sound s bytes h in
    let same = step_same s bytes p here quiet in
    same_then same (run_same t rest p k (listed_still s t p h k same here) (silent_still s t p same rest others))

pub demand_3 : Demand3.Demand3
demand_3 s l h = record { sound = run_sound s l h; lending_guarantee = guarantee }
  where
    guarantee : (p : ℕ) → T (listed s area p) → Silent s p l → LendingGuarantee s (run s l) p
    guarantee p here silent =
        let same = run_same s l p h here silent in
        let k = run_sound s l h in
        record {
          still_listed = listed_still s (run s l) p h k same here;
          owners = same.pairs owner (different owner structure tt);
          objects = same.pairs definition (different definition structure tt);
          importing = same.pairs import (different import structure tt);
          exporting = same.pairs export (different export structure tt);
          traced_imports = λ o t. k.valid.imported o p (subst T (sym (same.pairs import (different import structure tt) o)) t);
          traced_exports = λ o t. k.valid.exported o p (subst T (sym (same.pairs export (different export structure tt) o)) t);
        }
