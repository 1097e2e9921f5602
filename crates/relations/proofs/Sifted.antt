-- A walk over the places of a set, the lowest first, in which those whose row meets another set are kept: what is kept, and what the places that are
-- left would give, is at each turn what the whole set gives.
-- Assumes nothing.
use Prim.Native.Nat.{ℕ, ◌^◌, ◌<◌}
use mathlib.Core.Path.{◌≡◌, refl, sym, ap, ap₂, subst, ◌∙◌}
use mathlib.Core.Bool.{Bool, true, false, ◌&&◌, ◌||◌, not, cond, or-false, and_comm}
use native.Mathlib.Decide.{ℕ_discrete}
use borrow.Author.Tests.{eq-eqb, ne_eqb}
use lib.Dec.{T}
use lib.Pow.{pow_pos}
use lib.ListN.{get_or}
use Rattle.bits.specs.Bits.{bit, places, intersection, with_bit, is_empty, lowest, without_lowest, Next}
use Rattle.bits.specs.Rows.{Rows, cells_of}
use Rattle.bits.proofs.Laws.{bit_zero, word_bit, equal_bits, with_bit_bit, with_bit_fits, intersection_bit, intersection_fits, empty_decided, lowest_is_right, lowest_inside, without_lowest_bit, without_lowest_fits}
use Rattle.state.specs.Below.{some_below}
use Rattle.state.specs.Cells.{pair}
use Rattle.state.proofs.Below.{some_by, some_at}
use Rattle.state.proofs.Bools.{and_both, and_left, and_right, same_test, is_false, fails, not_so, so_not, not_not}
use Rattle.relations.specs.Relations.{transpose, image}
use Rattle.relations.proofs.Laws.{pair_bit, transpose_reads}

module _ (rows : Rows) (set : ℕ) where
  -- the row of j meets the set
  abbrev pub meets : ℕ → Bool
  meets j = not (is_empty (intersection (get_or rows j 0) set))

  -- area i of the set leads to j, turned round
  abbrev leads : (j i : ℕ) → Bool
  leads j i = bit set i && pair (transpose (cells_of rows)) i j

  turned : (j i : ℕ) → j < places → i < places → pair (transpose (cells_of rows)) i j ≡ bit (get_or rows j 0) i
  turned j i hj hi = transpose_reads (cells_of rows) i j hi hj ∙ pair_bit rows j i hi

  meets_bit : (j : ℕ) → j < places → bit (image (transpose (cells_of rows)) set) j ≡ meets j
  unfolding image
  meets_bit j hj = word_bit places _ j hj ∙ same_test (some_below places (leads j)) (meets j) there back
    where
      row : ℕ
      row = get_or rows j 0

      common : ℕ
      common = intersection row set

      there : T (some_below places (leads j)) → T (meets j)
      there t =
          let q = some_at (leads j) places t in
          let i = q.place in
          so_not (is_empty common)
          (λ e.
          fails ((empty_decided common (intersection_fits row set)).0 e i q.below)
          (subst T (sym (intersection_bit row set i q.below))
          (and_both (bit row i) (bit set i) (subst T (turned j i hj q.below) (and_right (bit set i) _ q.met)) (and_left (bit set i) _ q.met))))

      back : T (meets j) → T (some_below places (leads j))
      back t = not_not (some_below places (leads j)) (λ none. not_so (is_empty common) t ((empty_decided common (intersection_fits row set)).1 (λ i hi. is_false (bit common i) (at none i hi))))
        where
          at : T (not (some_below places (leads j))) → (i : ℕ) → i < places → T (bit common i) → ⊥
          at none i hi p =
              let both = subst T (intersection_bit row set i hi) p in
              not_so (some_below places (leads j)) none
              (some_by (leads j) places i hi
              (and_both (bit set i) _ (and_right (bit row i) (bit set i) both) (subst T (sym (turned j i hj hi)) (and_left (bit row i) (bit set i) both))))

-- what a loop has kept in `out`, with the areas of `rest` still to walk
pub record Sifted (rows : Rows) (set within rest out : ℕ) : Type 0 where
  pub left : rest < 2 ^ places
  pub fits : out < 2 ^ places
  pub each : (j : ℕ) → j < places → (bit out j || (bit rest j && meets rows set j)) ≡ (bit within j && meets rows set j)

module _ (rows : Rows) (set within : ℕ) where
  all_left : within < 2 ^ places → Sifted rows set within within 0
  all_left h = record { left = h; fits = pow_pos places; each = λ j l. ap (λ (b : Bool). b || (bit within j && meets rows set j)) (bit_zero j) }

  pub sifted_none : {rest : ℕ} → rest ≡ within → within < 2 ^ places → Sifted rows set within rest 0
  sifted_none e h = rw e (all_left h)

  -- the lowest area: kept where its row meets the set
  here : (o w m : Bool) → (o || (true && m)) ≡ (w && m) → (m || (false && m)) ≡ (w && m)
  here o w true e = kept o e
    where
      kept : (o : Bool) → (o || true) ≡ (w && true) → true ≡ (w && true)
      kept true e = e
      kept false e = e
  here o true false e = refl
  here o false false e = refl

  without : (rest out : ℕ) → (rest ≡ 0 → ⊥) → Sifted rows set within rest out
      → Sifted rows set within (without_lowest rest) (with_bit out (lowest rest) (meets rows set (lowest rest)))
  without rest out some w =
      record {
        left = without_lowest_fits rest;
        fits = with_bit_fits out (lowest rest) (meets rows set (lowest rest));
        each = λ j l. at j l (ℕ_discrete j (lowest rest));
      }
    where
      low : ℕ
      low = lowest rest

      goal : ℕ → Type 0
      goal j = (bit (with_bit out low (meets rows set low)) j || (bit (without_lowest rest) j && meets rows set j)) ≡ (bit within j && meets rows set j)

      inside : low < places
      inside = lowest_inside rest w.left some

      lowest_kept : goal low
      lowest_kept =
          ap₂ (λ (a b : Bool). a || (b && meets rows set low))
          (with_bit_bit out low (meets rows set low) low inside ∙ ap (λ (b : Bool). cond b (meets rows set low) (bit out low)) (eq-eqb low low refl))
          (without_lowest_bit rest low inside ∙ ap (λ (b : Bool). cond b false (bit rest low)) (eq-eqb low low refl))
          ∙ here (bit out low) (bit within low) (meets rows set low)
          (ap (λ (b : Bool). bit out low || (b && meets rows set low)) (sym ((lowest_is_right rest).is_set inside)) ∙ w.each low inside)

      at : (j : ℕ) → j < places → Dec (j ≡ low) → goal j
      at j l (yes e) = subst goal (sym e) lowest_kept
      at j l (no ne) =
          ap₂ (λ (a b : Bool). a || (b && meets rows set j))
          (with_bit_bit out low (meets rows set low) j l ∙ ap (λ (b : Bool). cond b (meets rows set low) (bit out j)) (ne_eqb j low ne))
          (without_lowest_bit rest j l ∙ ap (λ (b : Bool). cond b false (bit rest j)) (ne_eqb j low ne))
          ∙ w.each j l

  pub sifted_more : {rest area left out common more : ℕ} {none : Bool} → Next rest area left → common ≡ intersection (get_or rows area 0) set
      → none ≡ is_empty common → more ≡ with_bit out area (not none) → Sifted rows set within rest out → Sifted rows set within left more
  sifted_more {rest = rest} {out = out} n ec en em w = rw (n.left_is, em, en, ec, n.place_is) (without rest out n.some w)

  pub sifted_all : (rest out : ℕ) → rest ≡ 0 → Sifted rows set within rest out → out ≡ intersection (image (transpose (cells_of rows)) set) within
  sifted_all rest out none w =
      equal_bits places out (intersection (image (transpose (cells_of rows)) set) within) w.fits (intersection_fits (image (transpose (cells_of rows)) set) within)
      (λ j l.
      sym (or-false (bit out j))
      ∙ ap (λ (b : Bool). bit out j || (b && meets rows set j)) (sym (ap (λ (r : ℕ). bit r j) none ∙ bit_zero j))
      ∙ w.each j l ∙ and_comm (bit within j) (meets rows set j)
      ∙ ap (λ (b : Bool). b && bit within j) (sym (meets_bit rows set j l))
      ∙ sym (intersection_bit (image (transpose (cells_of rows)) set) within j l))
