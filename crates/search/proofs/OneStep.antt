-- One step from each area of a set, by the images of the structure and of its transpose.
-- Assumes nothing.
use Prim.Native.Nat.{ℕ, ◌<◌}
use mathlib.Core.Path.{◌≡◌, sym, ap, ap₂, subst, ◌∙◌}
use mathlib.Core.Logic.{◌⊎◌, inl, inr}
use mathlib.Core.Bool.{Bool, ◌&&◌, ◌||◌}
use lib.Dec.{T}
use Rattle.bits.specs.Bits.{bit, places, union, intersection}
use Rattle.bits.proofs.Laws.{word_bit, word_is, union_bit, union_fits, intersection_bit}
use Rattle.state.specs.Below.{some_below}
use Rattle.state.specs.Cells.{Pairs, pair}
use Rattle.state.proofs.Below.{some_by, some_at}
use Rattle.state.proofs.Bools.{or_left, or_right, or_cases, and_both, and_left, and_right, same_test}
use Rattle.relations.specs.Relations.{image}
use Rattle.search.specs.Rounds.{move_by, next_to}

module _ (st tr : Pairs) (layer imported exported : ℕ) where
  -- from s to r: out by the structure, in by its transpose, either
  abbrev out : (r s : ℕ) → Bool
  out r s = bit (intersection layer exported) s && pair st s r

  abbrev in' : (r s : ℕ) → Bool
  in' r s = bit layer s && pair tr s r

  abbrev moves : (r s : ℕ) → Bool
  moves r s = bit layer s && move_by st tr (bit imported) (bit exported) s r

  either : (r : ℕ) → r < places → (some_below places (out r) || (some_below places (in' r) && bit imported r)) ≡ some_below places (moves r)
  unfolding move_by
  either r h = same_test _ _ there back
    where
      outward : (s : ℕ) → Bool
      outward s = bit exported s && pair st s r

      inward : (s : ℕ) → Bool
      inward s = bit imported r && pair tr s r

      there : T (some_below places (out r) || (some_below places (in' r) && bit imported r)) → T (some_below places (moves r))
      there t = go (or_cases (some_below places (out r)) _ t)
        where
          go : T (some_below places (out r)) ⊎ T (some_below places (in' r) && bit imported r) → T (some_below places (moves r))
          go (inl p) =
              let q = some_at (out r) places p in
              let s = q.place in
              let both = subst T (intersection_bit layer exported s q.below) (and_left (bit (intersection layer exported) s) (pair st s r) q.met) in
              some_by (moves r) places s q.below
              (and_both (bit layer s) _ (and_left (bit layer s) (bit exported s) both)
              (or_left (outward s) (inward s) (and_both (bit exported s) (pair st s r) (and_right (bit layer s) (bit exported s) both) (and_right (bit (intersection layer exported) s) (pair st s r) q.met))))
          go (inr p) =
              let q = some_at (in' r) places (and_left (some_below places (in' r)) (bit imported r) p) in
              let s = q.place in
              some_by (moves r) places s q.below
              (and_both (bit layer s) _ (and_left (bit layer s) (pair tr s r) q.met)
              (or_right (outward s) (inward s) (and_both (bit imported r) (pair tr s r) (and_right (some_below places (in' r)) (bit imported r) p) (and_right (bit layer s) (pair tr s r) q.met))))

      back : T (some_below places (moves r)) → T (some_below places (out r) || (some_below places (in' r) && bit imported r))
      back t =
          let q = some_at (moves r) places t in
          go q.place q.below (and_left (bit layer q.place) _ q.met) (or_cases (outward q.place) (inward q.place) (and_right (bit layer q.place) (outward q.place || inward q.place) q.met))
        where
          go : (s : ℕ) → s < places → T (bit layer s) → T (outward s) ⊎ T (inward s) → T (some_below places (out r) || (some_below places (in' r) && bit imported r))
          go s l p (inl m) =
              or_left (some_below places (out r)) _
              (some_by (out r) places s l
              (and_both (bit (intersection layer exported) s) (pair st s r)
              (subst T (sym (intersection_bit layer exported s l)) (and_both (bit layer s) (bit exported s) p (and_left (bit exported s) (pair st s r) m)))
              (and_right (bit exported s) (pair st s r) m)))
          go s l p (inr m) =
              or_right (some_below places (out r)) _
              (and_both (some_below places (in' r)) (bit imported r)
              (some_by (in' r) places s l (and_both (bit layer s) (pair tr s r) p (and_right (bit imported r) (pair tr s r) m)))
              (and_left (bit imported r) (pair tr s r) m))

  -- what `next` computes, by what its calls promise
  pub next_is : (inside outward inward wanted all : ℕ)
      → inside ≡ intersection layer exported → outward ≡ image st inside → inward ≡ image tr layer → wanted ≡ intersection inward imported
      → all ≡ union outward wanted → all ≡ next_to (move_by st tr (bit imported) (bit exported)) layer
  unfolding next_to image
  next_is inside outward inward wanted all e0 e1 e2 e3 e4 =
      rw (e4, e3, e2, e1, e0)
      (word_is places _ _ (union_fits (image st (intersection layer exported)) (intersection (image tr layer) imported))
      (λ r h.
      union_bit (image st (intersection layer exported)) (intersection (image tr layer) imported) r h
      ∙ ap₂ ◌||◌ (word_bit places _ r h) (intersection_bit (image tr layer) imported r h ∙ ap (λ (b : Bool). b && bit imported r) (word_bit places _ r h))
      ∙ either r h))
