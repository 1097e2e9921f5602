-- The walk on rows of bits: which areas lead to the last, the lowest of them at hand, and what is at hand behind it.
--     leading_none, leading_bit, leading_fits    the rows of those that lead to it
--     open_some, open_lowest                     those of them that are at hand
--     onward, last_area                          one area of the walk, and what is left of it; its last area
--     Laying                                     a loop that lays the walk area by area, and what it has laid
--     walked_none, walked_more, walked_all       before the first turn, one turn more, and the last area behind the last
-- Assumes nothing.
use Prim.Native.Nat.{ℕ, suc, ◌-◌, ◌^◌, ◌<◌}
use mathlib.Core.Path.{◌≡◌, refl, sym, ap, ap₂, subst, ◌∙◌}
use mathlib.Core.Bool.{Bool, true, false, ◌&&◌, not, cond}
use mathlib.Core.List.{List, [], ◌∷◌, ◌++◌, append_assoc}
use native.Mathlib.Omega.{arith}
use borrow.Author.Tests.{eqb-true, eq-eqb}
use lib.Dec.{T, eqb}
use lib.ListN.{length}
use Rattle.bits.specs.Bits.{bit, places, with_bit, intersection, is_empty, lowest}
use Rattle.bits.proofs.Laws.{bit_zero, word_fits, word_bit, same_word, with_bit_bit, intersection_bit, intersection_fits}
use Rattle.state.specs.Below.{some_below}
use Rattle.state.proofs.Below.{some_by, some_at, some_same, first_found}
use Rattle.state.proofs.Bools.{and_both, and_left, and_right, same_test, is_true, holds}
use Rattle.search.specs.Rounds.{next_to}
use Rattle.chains.specs.First.{leads_in, is_open, lowest_open, walk}
use Rattle.chains.proofs.Laws.{same_walk}
use Rattle.output.proofs.Placing.{Placed, placed_none, placed_then}
use Rattle.chain_finder.specs.Parts.{leading_row}
use Rattle.chain_finder.proofs.Lowest.{lowest_first, some_place}

module _ (move : ℕ → ℕ → Bool) (a : ℕ) where
  -- ---- the areas from which n steps lead to area a
  -- in no step the area alone does
  pub leading_none : with_bit 0 a true ≡ leading_row move a 0
  unfolding with_bit leading_row leads_in
  leading_none = same_word places _ _ (λ s h. ap (λ (b : Bool). cond (eqb s a) true b) (bit_zero s) ∙ same (eqb s a))
    where
      same : (b : Bool) → cond b true false ≡ b
      same true = refl
      same false = refl

  pub leading_bit : (n s : ℕ) → s < places → bit (leading_row move a n) s ≡ leads_in move a n s
  unfolding leading_row
  leading_bit n s h = word_bit places _ s h

  pub leading_fits : (n : ℕ) → leading_row move a n < 2 ^ places
  unfolding leading_row
  leading_fits n = word_fits places _

  open_bit : (n hand s : ℕ) → s < places → bit (intersection hand (leading_row move a n)) s ≡ (bit hand s && leads_in move a n s)
  open_bit n hand s h = intersection_bit hand (leading_row move a n) s h ∙ ap (λ (b : Bool). bit hand s && b) (leading_bit n s h)

  pub open_some : (n hand : ℕ) → is_open move a n (bit hand) ≡ not (is_empty (intersection hand (leading_row move a n)))
  open_some n hand = some_place _ _ (open_bit n hand) (intersection_fits hand (leading_row move a n))

  open_lowest : (n hand : ℕ) → lowest (intersection hand (leading_row move a n)) ≡ lowest_open move a n (bit hand)
  open_lowest n hand = lowest_first _ _ (open_bit n hand)

  -- ---- the areas one step from area s alone
  from_one : (s r : ℕ) → s < places → r < places → bit (next_to move (with_bit 0 s true)) r ≡ move s r
  unfolding next_to
  from_one s r hs hr = word_bit places _ r hr ∙ same_test (some_below places near) (move s r) there back
    where
      only : (q : ℕ) → q < places → bit (with_bit 0 s true) q ≡ cond (eqb q s) true false
      only q h = with_bit_bit 0 s true q h ∙ ap (λ (b : Bool). cond (eqb q s) true b) (bit_zero q)

      near : ℕ → Bool
      near q = bit (with_bit 0 s true) q && move q r

      there : T (some_below places near) → T (move s r)
      there t =
          let f = some_at near places t in
          let q = f.place in
          subst (λ (p : ℕ). T (move p r)) (same q (subst T (only q f.below) (and_left (bit (with_bit 0 s true) q) (move q r) f.met)))
          (and_right (bit (with_bit 0 s true) q) (move q r) f.met)
        where
          same : (q : ℕ) → T (cond (eqb q s) true false) → q ≡ s
          same q t = go (eqb q s) refl t
            where
              go : (b : Bool) → eqb q s ≡ b → T (cond b true false) → q ≡ s
              go true e t = eqb-true q s e
              go false e t = absurd t

      back : T (move s r) → T (some_below places near)
      back t =
          some_by near places s hs
          (and_both (bit (with_bit 0 s true) s) (move s r) (holds (only s hs ∙ ap (λ (b : Bool). cond b true false) (eq-eqb s s refl))) t)

  -- ---- one area of the walk, and what is left of it
  -- what is at hand behind the lowest that leads on
  abbrev behind : (n hand : ℕ) → ℕ → Bool
  behind n hand = bit (next_to move (with_bit 0 (lowest_open move a n (bit hand)) true))

  onward : (n hand : ℕ) → is_open move a (suc n) (bit hand) ≡ true
      → (walk move a (suc n) (bit hand) ≡ lowest_open move a (suc n) (bit hand) ∷ walk move a n (behind (suc n) hand))
      × (is_open move a n (behind (suc n) hand) ≡ true)
  unfolding walk leads_in
  onward n hand t =
      let s = lowest_open move a (suc n) (bit hand) in
      let found = first_found (λ s. bit hand s && leads_in move a (suc n) s) places (holds t) in
      let near : (r : ℕ) → r < places → move s r ≡ behind (suc n) hand r = λ r h. sym (from_one s r found.0 h) in
      let leads : is_open move a n (move s) ≡ true = is_true _ (and_right (bit hand s) (leads_in move a (suc n) s) found.1) in (
        ap (λ (l : List ℕ). s ∷ l) (same_walk (move s) (behind (suc n) hand) move move near (λ p r hp hr. refl) a n leads),
        some_same _ _ places (λ r h. ap (λ (b : Bool). b && leads_in move a n r) (sym (near r h))) ∙ leads,
      )

  -- where no step is left, the area itself is
  last_area : (hand : ℕ → Bool) → is_open move a 0 hand ≡ true → walk move a 0 hand ≡ a ∷ []
  unfolding walk leads_in
  last_area hand t =
      let s = lowest_open move a 0 hand in
      let found = first_found (λ s. hand s && eqb s a) places (holds t) in
      ap (λ (r : ℕ). r ∷ []) (eqb-true s a (is_true _ (and_right (hand s) (eqb s a) found.1)))

  -- ---- a loop that lays the walk from the front of a buffer, but for its last area; so many steps are left
  pub record Laying (n : ℕ) (start : ℕ → Bool) (b₀ : List ℕ) (left hand end : ℕ) (b : List ℕ) : Type 0 where
    pub known : length b₀ < 2 ^ 64
    pub done : List ℕ
    pub split : walk move a n start ≡ done ++ walk move a left (bit hand)
    pub leads : is_open move a left (bit hand) ≡ true
    pub placed : Placed done 0 b₀ end b

  pub walked_none : (n left defined : ℕ) (b₀ : List ℕ) → left ≡ n → length b₀ < 2 ^ 64 → is_open move a n (bit defined) ≡ true
      → Laying n (bit defined) b₀ left defined 0 b₀
  walked_none n left defined b₀ e known t =
      rw e record { known = known; done = []; split = refl; leads = t; placed = placed_none 0 b₀ (omega arith) }

  module _ (n : ℕ) (start : ℕ → Bool) (b₀ : List ℕ) (left hand end : ℕ) (b : List ℕ) (w : Laying n start b₀ left hand end b) where
    -- one turn, by what the calls promise
    pub walked_more : (row found next last : ℕ) (c : List ℕ) (only new : ℕ) → 0 < left
        → row ≡ leading_row move a left → found ≡ intersection hand row → next ≡ lowest found → Placed (next ∷ []) end b last c
        → only ≡ with_bit 0 next true → new ≡ next_to move only → Laying n start b₀ (left - 1) new last c
    walked_more row found next last c only new h er ef en p eo ew =
        go (left - 1) (omega arith)
      where
        go : (m : ℕ) → left ≡ suc m → Laying n start b₀ m new last c
        go m same =
            let lowest_is : next ≡ lowest_open move a (suc m) (bit hand) =
            en ∙ ap lowest (ef ∙ ap (intersection hand) (er ∙ ap (leading_row move a) same)) ∙ open_lowest (suc m) hand in
            let hand_is : behind (suc m) hand ≡ bit new = ap bit (sym (ew ∙ ap (next_to move) (eo ∙ ap (λ (s : ℕ). with_bit 0 s true) lowest_is))) in
            let on = onward m hand (rw same at w.leads) in
            let more : walk move a (suc m) (bit hand) ≡ next ∷ walk move a m (bit new) =
            on.0 ∙ ap₂ (λ (s : ℕ) (f : ℕ → Bool). s ∷ walk move a m f) (sym lowest_is) hand_is in
            record {
              known = w.known;
              done = w.done ++ (next ∷ []);
              split = w.split ∙ ap (λ (k : ℕ). w.done ++ walk move a k (bit hand)) same ∙ ap (λ (l : List ℕ). w.done ++ l) more
                  ∙ sym (append_assoc w.done (next ∷ []) (walk move a m (bit new)));
              leads = subst (λ (f : ℕ → Bool). is_open move a m f ≡ true) hand_is on.1;
              placed = placed_then w.done (next ∷ []) 0 b₀ w.known end b last c w.placed p;
            }

    pub walked_all : (last : ℕ) (c : List ℕ) → left ≡ 0 → Placed (a ∷ []) end b last c → Placed (walk move a n start) 0 b₀ last c
    walked_all last c none p =
        rw
        (w.split ∙ ap (λ (k : ℕ). w.done ++ walk move a k (bit hand)) none
        ∙ ap (λ (l : List ℕ). w.done ++ l) (last_area (bit hand) (subst (λ (k : ℕ). is_open move a k (bit hand) ≡ true) none w.leads)))
        (placed_then w.done (a ∷ []) 0 b₀ w.known end b last c w.placed p)
