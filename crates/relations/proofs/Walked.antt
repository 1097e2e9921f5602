-- A walk over the places of a set, the lowest first: what is found and what the places that are left lead to is, at each turn, where the whole set
-- leads.
-- Assumes nothing.
use Prim.Native.Nat.{ℕ, ◌^◌, ◌<◌}
use mathlib.Core.Path.{◌≡◌, refl, sym, ap, subst, ◌∙◌}
use mathlib.Core.Logic.{◌⊎◌, inl, inr}
use mathlib.Core.Bool.{Bool, false, ◌&&◌, ◌||◌, cond, or_assoc, or-false}
use native.Mathlib.Decide.{ℕ_discrete}
use borrow.Author.Tests.{eq-eqb, ne_eqb}
use lib.Dec.{T}
use lib.Pow.{pow_pos}
use lib.ListN.{get_or}
use Rattle.bits.specs.Bits.{bit, places, union, lowest, without_lowest, Next}
use Rattle.bits.specs.Rows.{Rows, cells_of}
use Rattle.bits.proofs.Laws.{bit_zero, word_bit, word_fits, equal_bits, union_bit, union_fits, lowest_is_right, lowest_inside, without_lowest_bit, without_lowest_fits}
use Rattle.state.specs.Below.{some_below}
use Rattle.state.specs.Cells.{pair}
use Rattle.state.proofs.Below.{some_by, some_at}
use Rattle.state.proofs.Bools.{or_left, or_right, or_cases, and_both, and_left, and_right, same_test, is_false, holds, fails}
use Rattle.relations.specs.Relations.{image}
use Rattle.relations.proofs.Laws.{pair_bit}

module _ (rows : Rows) where
  -- area i of the set leads to j
  abbrev leads : (set j i : ℕ) → Bool
  leads set j i = bit set i && pair (cells_of rows) i j

  image_bit : (set j : ℕ) → j < places → bit (image (cells_of rows) set) j ≡ some_below places (leads set j)
  unfolding image
  image_bit set j h = word_bit places _ j h

  -- a set without areas leads nowhere
  image_none : (j : ℕ) → j < places → bit (image (cells_of rows) 0) j ≡ false
  image_none j h = image_bit 0 j h ∙ is_false _ none
    where
      none : T (some_below places (leads 0 j)) → ⊥
      none t = let q = some_at (leads 0 j) places t in fails (bit_zero q.place) (and_left (bit 0 q.place) _ q.met)

  -- where a set leads: where its lowest area does, and where the others do
  image_more : (set j : ℕ) → set < 2 ^ places → (set ≡ 0 → ⊥) → j < places
      → bit (image (cells_of rows) set) j ≡ (bit (get_or rows (lowest set) 0) j || bit (image (cells_of rows) (without_lowest set)) j)
  image_more set j fits some h =
      image_bit set j h ∙ same_test (some_below places (leads set j)) (here || some_below places (leads others j)) there back
      ∙ ap (λ (b : Bool). here || b) (sym (image_bit others j h))
    where
      low : ℕ
      low = lowest set

      others : ℕ
      others = without_lowest set

      here : Bool
      here = bit (get_or rows low 0) j

      inside : low < places
      inside = lowest_inside set fits some

      -- another area of the set is one of the others
      kept : (i : ℕ) → i < places → (i ≡ low → ⊥) → bit others i ≡ bit set i
      kept i l ne = without_lowest_bit set i l ∙ ap (λ (b : Bool). cond b false (bit set i)) (ne_eqb i low ne)

      gone : bit others low ≡ false
      gone = without_lowest_bit set low inside ∙ ap (λ (b : Bool). cond b false (bit set low)) (eq-eqb low low refl)

      there : T (some_below places (leads set j)) → T (here || some_below places (leads others j))
      there t = let q = some_at (leads set j) places t in go q.place q.below q.met (ℕ_discrete q.place low)
        where
          go : (i : ℕ) → i < places → T (leads set j i) → Dec (i ≡ low) → T (here || some_below places (leads others j))
          go i l m (yes e) = or_left here _ (subst T (pair_bit rows low j h) (rw e at (and_right (bit set i) (pair (cells_of rows) i j) m)))
          go i l m (no e) =
              or_right here _
              (some_by (leads others j) places i l
              (and_both (bit others i) _ (subst T (sym (kept i l e)) (and_left (bit set i) _ m)) (and_right (bit set i) (pair (cells_of rows) i j) m)))

      back : T (here || some_below places (leads others j)) → T (some_below places (leads set j))
      back t = go (or_cases here (some_below places (leads others j)) t)
        where
          at : (i : ℕ) → i < places → T (leads others j i) → Dec (i ≡ low) → T (some_below places (leads set j))
          at i l m (yes e) = absurd (fails gone (rw e at (and_left (bit others i) _ m)))
          at i l m (no e) =
              some_by (leads set j) places i l
              (and_both (bit set i) _ (subst T (kept i l e) (and_left (bit others i) _ m)) (and_right (bit others i) (pair (cells_of rows) i j) m))

          go : T here ⊎ T (some_below places (leads others j)) → T (some_below places (leads set j))
          go (inl p) =
              some_by (leads set j) places low inside
              (and_both (bit set low) _ (holds ((lowest_is_right set).is_set inside)) (subst T (sym (pair_bit rows low j h)) p))
          go (inr p) = let q = some_at (leads others j) places p in at q.place q.below q.met (ℕ_discrete q.place low)

-- what a loop has found in `out`, with the areas of `rest` still to walk
pub record Walked (rows : Rows) (set rest out : ℕ) : Type 0 where
  pub left : rest < 2 ^ places
  pub fits : out < 2 ^ places
  pub each : (j : ℕ) → j < places → (bit out j || bit (image (cells_of rows) rest) j) ≡ bit (image (cells_of rows) set) j

module _ (rows : Rows) (set : ℕ) where
  all_left : set < 2 ^ places → Walked rows set set 0
  all_left h = record { left = h; fits = pow_pos places; each = λ j l. ap (λ (b : Bool). b || bit (image (cells_of rows) set) j) (bit_zero j) }

  pub walked_none : {rest : ℕ} → rest ≡ set → set < 2 ^ places → Walked rows set rest 0
  walked_none e h = rw e (all_left h)

  without : (rest out : ℕ) → (rest ≡ 0 → ⊥) → Walked rows set rest out
      → Walked rows set (without_lowest rest) (union out (get_or rows (lowest rest) 0))
  without rest out some w =
      record {
        left = without_lowest_fits rest;
        fits = union_fits out (get_or rows (lowest rest) 0);
        each = λ j l.
            ap (λ (b : Bool). b || bit (image (cells_of rows) (without_lowest rest)) j) (union_bit out (get_or rows (lowest rest) 0) j l)
            ∙ or_assoc (bit out j) (bit (get_or rows (lowest rest) 0) j) (bit (image (cells_of rows) (without_lowest rest)) j)
            ∙ ap (λ (b : Bool). bit out j || b) (sym (image_more rows rest j w.left some l)) ∙ w.each j l;
      }

  pub walked_more : {rest area left out more : ℕ} → Next rest area left → more ≡ union out (get_or rows area 0) → Walked rows set rest out
      → Walked rows set left more
  walked_more {rest = rest} {out = out} n e w = rw (n.left_is, e, n.place_is) (without rest out n.some w)

  pub walked_all : (rest out : ℕ) → rest ≡ 0 → Walked rows set rest out → out ≡ image (cells_of rows) set
  unfolding image
  walked_all rest out none w =
      equal_bits places out (image (cells_of rows) set) w.fits (word_fits places _)
      (λ j l. sym (or-false (bit out j)) ∙ ap (λ (b : Bool). bit out j || b) (sym (ap (λ (r : ℕ). bit (image (cells_of rows) r) j) none ∙ image_none rows j l)) ∙ w.each j l)
