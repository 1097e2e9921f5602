-- What runs over a table's entries, by the library's clauses on runs of `chunks_exact`.
--     Entry                    a slice that is entry k of the table
--     each_entry               `all`
--     first_entry              `position`
--     entries_ascend           `is_sorted_by`
-- Assumes nothing.
use Prim.Native.Nat.{ℕ, ◌+◌, ◌-◌, ◌*◌, ◌≤◌, ◌<◌}
use mathlib.Core.Path.{◌≡◌, refl, sym, ap, ap₂, subst, ◌∙◌}
use mathlib.Core.Bool.{Bool, true, false}
use mathlib.Core.List.{List, [], ◌∷◌}
use native.Mathlib.Omega.{arith}
use denote.Param.Members.{Mut, Called}
use denote.Ref.{Bor}
use lib.Dec.{ltb}
use lib.ListN.{length, get_or}
use Rattle.std.specs.Prelude.{Option, Some, None}
use Rattle.std.specs.Bool.{MatchBool, IsTrue, OnTrue}
use Rattle.std.specs.Option.{MatchOption, IfSome, IsSomeAnd, option_map}
use Rattle.std.specs.List.{IsSubsliceAt}
use Rattle.std.specs.Slice.Iter.{chunks_exact_rest, chunks_exact_size, chunks_exact_steps}
use Rattle.std.specs.declared.slice.ChunksExact.{ChunksExact}
use Rattle.std.specs.Iterator.Order.{IsSortedAnswer}
use Rattle.std.specs.Iterator.Runs.{Run, IsChunksExactRun, AllItemsGive, AnyItemGives, IsFirstToGive}
use Rattle.state.specs.Below.{each_below, first_below}
use Rattle.state.proofs.Bools.{is_true, holds}
use Rattle.state.proofs.Below.{each_by, each_stop, first_is, first_none}
use Rattle.label_tables.specs.Labels.{label_count, label_area, label_ascends, labels_ascend}

-- the slice has the bytes of entry k
abbrev pub Entry : List ℕ → ℕ → List ℕ → Type 0
Entry t k e = (j : ℕ) → j < 32 → get_or e j 0 ≡ get_or t (k * 32 + j) 0

pub entry_area : (t e : List ℕ) (k : ℕ) → Entry t k e → get_or e 0 0 ≡ label_area t k
entry_area t e k b = b 0 (omega arith) ∙ ap (λ (n : ℕ). get_or t n 0) (omega arith)

-- a run of what `chunks_exact` gave
pub cut : (t : List ℕ) (p : Run (chunks_exact_steps {A = ℕ})) {s : ChunksExact ℕ} → p.from ≡ s → chunks_exact_rest s ≡ t → chunks_exact_size s ≡ 32
    → (0 < chunks_exact_size p.from → IsChunksExactRun p (chunks_exact_size p.from) (chunks_exact_rest p.from)) → IsChunksExactRun p 32 t
cut t p e r z runs =
    let size : chunks_exact_size p.from ≡ 32 = ap (λ (i : ChunksExact ℕ). chunks_exact_size i) e ∙ z in
    let rest : chunks_exact_rest p.from ≡ t = ap (λ (i : ChunksExact ℕ). chunks_exact_rest i) e ∙ r in
    subst (λ (n : ℕ). IsChunksExactRun p n t) size (subst (λ (l : List ℕ). IsChunksExactRun p (chunks_exact_size p.from) l) rest (runs (omega arith)))

module _ {S : Type 0} {steps : S → Option (Bor (List ℕ)) → S → Type 0} (t : List ℕ) (p : Run steps) (cuts : IsChunksExactRun p 32 t) where
  -- what was given at place k is entry k
  given : (k : ℕ) (x : Bor (List ℕ)) → p.at k ≡ Some x → Entry t k x.now
  given k x e j b =
      let part = subst (λ o. IfSome o (λ y. (length y.now ≡ 32) × (k * 32 + 32 ≤ length t) × IsSubsliceAt 32 t (k * 32) y.now)) e (cuts.2 k) in
      part.2.2 j 0 b

  item : (k : ℕ) (d : Bor (List ℕ)) → k < p.len → p.at k ≡ Some (get_or p.items k d)
  item k d h = go (p.at k) (p.reads k d h)
    where
      go : (o : Option (Bor (List ℕ))) → option_map (λ y. y) o ≡ Some (get_or p.items k d) → o ≡ Some (get_or p.items k d)
      go None e = cc
      go (Some y) e = e

  some_item : 0 < p.len → Bor (List ℕ)
  some_item h = go p.items (omega (arith, p.long))
    where
      go : (l : List (Bor (List ℕ))) → 0 < length l → Bor (List ℕ)
      go [] b = absurd (omega arith)
      go (x ∷ l) b = x

  below : (k : ℕ) → k < p.len → k < label_count t
  below k h = omega (arith, cuts.0)

  -- the test of two entries, one behind the other
  two : (k : ℕ) (d : Bor (List ℕ)) → k + 1 < p.len → ltb (get_or (get_or p.items k d).now 0 0) (get_or (get_or p.items (k + 1) d).now 0 0) ≡ label_ascends t k
  two k d h =
      ap₂ ltb (entry_area t _ k (given k (get_or p.items k d) (item k d (omega arith))))
      (entry_area t _ (k + 1) (given (k + 1) (get_or p.items (k + 1) d) (item (k + 1) d h)))

  module _ {F : Type 0} (g : Mut F (Bor (List ℕ) × Unit {0}) Bool) (f : F) (on : List ℕ → Bool) (test : ℕ → Bool)
      (computes : (x : Bor (List ℕ)) (b : Bool) (q : F) → Called g f (x, tt) b q → (q ≡ f) × (b ≡ on x.now))
      (same : (k : ℕ) (e : List ℕ) → Entry t k e → on e ≡ test k) where
    told : (k : ℕ) (x : Bor (List ℕ)) (b : Bool) → p.at k ≡ Some x → Called g f (x, tt) b f → test k ≡ b
    told k x b e c = sym ((computes x b f c).1 ∙ same k x.now (given k x e))

    keeps : (a : Bor (List ℕ) × Unit {0}) (b : Bool) (q : F) → Called g f a b q → q ≡ f
    keeps a b q c = (computes a.0 b q c).0

    -- where each answer is the same, or one is known, at a place that was reached
    all_told : (b : Bool) → AllItemsGive p g f b → (k : ℕ) → k < p.len → test k ≡ b
    all_told b m k h =
        let e = item k (some_item (omega arith)) h in
        told k (get_or p.items k (some_item (omega arith))) b e (subst (λ o. IfSome o (λ x. Called g f (x, tt) b f)) e (m keeps k))

    one_told : (b : Bool) (k : ℕ) (o : Option (Bor (List ℕ))) → p.at k ≡ o → IsSomeAnd o (λ x. Called g f (x, tt) b f) → test k ≡ b
    one_told b k None e m = absurd m
    one_told b k (Some x) e m = told k x b e m

    pub each_entry : (r : Bool) → MatchBool r (IsTrue p.whole × AllItemsGive p g f true) (AnyItemGives p g f false) → r ≡ each_below (label_count t) test
    each_entry true m = sym (is_true _ (each_by test (label_count t) (λ k h. holds (all_told true m.1 k (omega (arith, cuts.1 m.0))))))
    each_entry false m = let h = m keeps in each_stop test (label_count t) h.0 (below h.0 h.1) (one_told false h.0 (p.at h.0) refl h.2)

    pub first_entry : (r : Option ℕ) → MatchOption r (IsTrue p.whole × AllItemsGive p g f false) (λ i. (p.len ≡ i + 1) × IsFirstToGive p g f true false i)
        → MatchOption r (first_below (label_count t) test ≡ label_count t) (λ i. (i < label_count t) × (first_below (label_count t) test ≡ i))
    first_entry None m = first_none test (label_count t) (λ k h. all_told false m.1 k (omega (arith, cuts.1 m.0)))
    first_entry (Some i) m =
        let h = m.1 keeps in
        let inside : i < label_count t = below i (omega (arith, m.0)) in
        (inside, first_is test (label_count t) i inside (one_told true i (p.at i) refl h.0) (λ k b. one_told false k (p.at k) refl (h.1 k b)))

  pub entries_ascend : (r : Bool) → OnTrue r (IsTrue p.whole) → IsSortedAnswer (λ (x y : Bor (List ℕ)). ltb (get_or x.now 0 0) (get_or y.now 0 0)) p.items r → r ≡ labels_ascend t
  unfolding labels_ascend
  entries_ascend true w m = sym (is_true _ (each_by (label_ascends t) (label_count t - 1) (λ k h.
      let long : p.len ≡ label_count t = cuts.1 w in
      let d = some_item (omega arith) in
      holds (sym (two k d (omega arith)) ∙ m.0 k d (omega (arith, p.long))))))
  entries_ascend false w m =
      let h = m.0 in
      let inside : h.0 + 1 < p.len = omega (arith, p.long, h.1) in
      let d = some_item (omega arith) in
      each_stop (label_ascends t) (label_count t - 1) h.0 (omega (arith, below (h.0 + 1) inside)) (sym (two h.0 d inside) ∙ h.2 d)
