-- The search in layers, as rows: the areas that are reached within n steps, and those of them that are reached first in n. The next layer is one
-- step from the last, without what is reached already; a layer without an area ends the search; and an answer that is found stays.
-- Assumes nothing.
use Prim.Native.Nat.{ℕ, zero, suc, ◌+◌, ◌-◌, ◌^◌, ◌≤◌, ◌<◌}
use mathlib.Core.Path.{◌≡◌, refl, sym, ap, ap₂, subst, ◌∙◌}
use mathlib.Core.Logic.{◌⊎◌, inl, inr}
use mathlib.Core.Bool.{Bool, true, false, ◌&&◌, ◌||◌, not, cond}
use native.Mathlib.Omega.{arith}
use native.Mathlib.Nat.{add-zero, add-suc}
use native.Mathlib.Numerals.{add-one}
use native.Mathlib.Decide.{dec_lt}
use native.Mathlib.Nat.{le_refl}
use borrow.Author.Tests.{eqb-true, eq-eqb}
use lib.Dec.{T, T_not, not_T, eqb}
use lib.Seq.{ext_get_or}
use Rattle.std.proofs.Common.{Some, None, is_some}
use Rattle.bits.specs.Bits.{bit, places, word, with_bit, union, difference, is_subset}
use Rattle.bits.proofs.Laws.{bit_zero, bit_past, with_bit_bit, word_bit, word_fits, word_is, same_word, difference_bit, difference_fits, subset_decided}
use Rattle.state.specs.Below.{some_below, first_below, found_below}
use Rattle.state.proofs.Below.{some_by, some_at, none_at, found_is, found_none, first_or_none}
use Rattle.state.proofs.Bools.{and_both, and_left, and_right, same_test, is_true, is_false, not_same, holds, fails, test}
use Rattle.access.specs.Answer.{Answer, longest, Areas, has, reached, answer_within, next_answer}
use Rattle.access.specs.Chain.{Chain}
use Rattle.access.specs.Claims.{is_steps, RightWithin}
use Rattle.access.proofs.Reach.{chain_of, reached_by, reached_area, reached_more, reached_next, reached_back, has_tabulate}
use Rattle.access.proofs.Saturate.{reached_length, Stable, stable_from}
use Rattle.access.proofs.Laws.{reached_is_steps, answer_within_is_right}
use Rattle.search.specs.Rounds.{next_to, all_within, reachable}

module _ (start : ℕ → Bool) (move : ℕ → ℕ → Bool) where
  -- the areas reached within n steps, and those reached first in n
  abbrev pub reached_row : ℕ → ℕ
  reached_row n = word places (has (reached start move n))

  abbrev near : (n a : ℕ) → Bool
  near n a = has (reached start move n) a

  unfoldable pub layer_row : ℕ → ℕ
  layer_row zero = reached_row zero
  layer_row (suc n) = difference (reached_row (suc n)) (reached_row n)

  -- a bit of the areas reached, for any number
  pub reached_bit : (n a : ℕ) → bit (reached_row n) a ≡ near n a
  reached_bit n a = go (dec_lt a places)
    where
      go : Dec (a < places) → bit (reached_row n) a ≡ near n a
      go (yes h) = word_bit places _ a h
      go (no h) = bit_past places (reached_row n) a (word_fits places _) (omega arith) ∙ sym (is_false (near n a) (λ t. h (reached_area start move n a t)))

  layer_bit : (n a : ℕ) → a < places → bit (layer_row (suc n)) a ≡ (near (suc n) a && not (near n a))
  unfolding layer_row
  layer_bit n a h = difference_bit (reached_row (suc n)) (reached_row n) a h ∙ ap₂ (λ (x y : Bool). x && not y) (reached_bit (suc n) a) (reached_bit n a)

  layer_reached : (n a : ℕ) → a < places → T (bit (layer_row n) a) → T (near n a)
  unfolding layer_row
  layer_reached zero a h t = subst T (reached_bit zero a) t
  layer_reached (suc n) a h t = and_left (near (suc n) a) _ (subst T (layer_bit n a h) t)

  -- an area with a step to one that is not reached is of the last layer
  in_layer : (n s r : ℕ) → T (near n s) → r < places → T (move s r) → (T (near n r) → ⊥) → T (bit (layer_row n) s)
  unfolding layer_row
  in_layer zero s r t h m far = subst T (sym (reached_bit zero s)) t
  in_layer (suc n) s r t h m far =
      subst T (sym (layer_bit n s (reached_area start move (suc n) s t)))
      (and_both (near (suc n) s) _ t (not_T (near n s) (λ before. far (reached_next start move n s r before h m))))

  -- one round: what is one step from the layer and not reached is the next layer
  next_row : (n : ℕ) → difference (next_to move (layer_row n)) (reached_row n) ≡ layer_row (suc n)
  unfolding layer_row difference next_to
  next_row n = same_word places _ _ (λ a h. ap₂ (λ (x y : Bool). x && not y) (word_bit places _ a h) (reached_bit n a) ∙ each a h ∙ sym (ap₂ (λ (x y : Bool). x && not y) (reached_bit (suc n) a) (reached_bit n a)))
    where
      each : (a : ℕ) → a < places → (some_below places (λ s. bit (layer_row n) s && move s a) && not (near n a)) ≡ (near (suc n) a && not (near n a))
      each a h = same_test (found && not (near n a)) (near (suc n) a && not (near n a)) there back
        where
          found : Bool
          found = some_below places (λ s. bit (layer_row n) s && move s a)

          there : T (found && not (near n a)) → T (near (suc n) a && not (near n a))
          there t =
              let q = some_at (λ s. bit (layer_row n) s && move s a) places (and_left found (not (near n a)) t) in
              and_both (near (suc n) a) (not (near n a))
              (reached_next start move n q.place a (layer_reached n q.place q.below (and_left (bit (layer_row n) q.place) (move q.place a) q.met)) h
              (and_right (bit (layer_row n) q.place) (move q.place a) q.met)) (and_right found (not (near n a)) t)

          from : T (not (near n a)) → T (near n a) ⊎ ((s : ℕ) × T (near n s) × T (move s a)) → T found
          from far (inl t) = absurd (T_not (near n a) far t)
          from far (inr r) =
              some_by (λ s. bit (layer_row n) s && move s a) places r.0 (reached_area start move n r.0 r.1)
              (and_both (bit (layer_row n) r.0) (move r.0 a) (in_layer n r.0 a r.1 h r.2 (T_not (near n a) far)) r.2)

          back : T (near (suc n) a && not (near n a)) → T (found && not (near n a))
          back t =
              let far = and_right (near (suc n) a) (not (near n a)) t in
              and_both found (not (near n a)) (from far (reached_back start move n a (and_left (near (suc n) a) (not (near n a)) t))) far

  -- the areas reached, and the new layer, are those reached next
  reached_row_lem : (n : ℕ) → union (reached_row n) (layer_row (suc n)) ≡ reached_row (suc n)
  unfolding union
  reached_row_lem n = same_word places _ _ (λ a h. ap₂ ◌||◌ (reached_bit n a) (layer_bit n a h) ∙ both (near n a) (near (suc n) a) (reached_more start move n a))
    where
      both : (x y : Bool) → (T x → T y) → (x || (y && not x)) ≡ y
      both true true f = refl
      both true false f = absurd (f tt)
      both false true f = refl
      both false false f = refl

  -- ---- the same for the values of the code
  pub round : (n near new areas all : ℕ) → areas ≡ layer_row n → all ≡ reached_row n → near ≡ next_to move areas → new ≡ difference near all
      → new ≡ layer_row (suc n)
  round n near new areas all la re ne e = e ∙ ap₂ difference (ne ∙ ap (next_to move) la) re ∙ next_row n

  pub reach : (n new all more : ℕ) → all ≡ reached_row n → new ≡ layer_row (suc n) → more ≡ union all new → more ≡ reached_row (n + 1)
  reach n new all more re la e = e ∙ ap₂ union re la ∙ reached_row_lem n ∙ ap reached_row (sym (add-one n))

  -- ---- the end
  later : (n m a : ℕ) → n ≤ m → T (near n a) → T (near m a)
  later n m a h t = let c = chain_of start move n a t in reached_by start move m c.2 (omega (arith, c.1))

  -- a layer without an area: nothing more is reached
  still : (n : ℕ) → layer_row (suc n) ≡ 0 → Stable start move n
  still n e =
      ext_get_or false (reached start move (suc n)) (reached start move n) (reached_length start move (suc n) ∙ sym (reached_length start move n))
      (λ a h. same_test (near (suc n) a) (near n a) (λ t. go a (reached_area start move (suc n) a t) t (test (near n a))) (reached_more start move n a))
    where
      go : (a : ℕ) → a < places → T (near (suc n) a) → T (near n a) ⊎ (near n a ≡ false) → T (near n a)
      go a h t (inl before) = before
      go a h t (inr far) =
          absurd (fails (sym (layer_bit n a h) ∙ ap (λ (r : ℕ). bit r a) e ∙ bit_zero a) (and_both (near (suc n) a) _ t (not_T (near n a) (fails far))))

  pub all_reached : (n : ℕ) → n ≤ longest → layer_row (suc n) ≡ 0 → reached_row n ≡ reachable start move
  unfolding reachable
  all_reached n h e =
      let more : n + (longest - n) ≡ longest = omega arith in
      ap (λ (l : Areas). word places (has l)) (sym (stable_from start move n (longest - n) (still n e)) ∙ ap (reached start move) more)

  pub last_reached : (n : ℕ) → n ≡ longest → reached_row n ≡ reachable start move
  unfolding reachable
  last_reached n e = ap reached_row e

  -- what is reached so far is reached at all
  pub early : (n wanted : ℕ) → n ≤ longest → is_subset wanted (reached_row n) ≡ true → is_subset wanted (reachable start move) ≡ true
  unfolding reachable
  early n wanted h e =
      is_true _ ((subset_decided wanted (reachable start move)).1
      (λ k l t. subst T (sym (reached_bit longest k)) (later n longest k h (subst T (reached_bit n k) ((subset_decided wanted (reached_row n)).0 (holds e) k l t)))))

  -- ---- the answer for one area
  steps_stay : (n m a k : ℕ) → answer_within start move n a ≡ Some k → answer_within start move (n + m) a ≡ Some k
  unfolding answer_within
  steps_stay n zero a k e = ap (λ (j : ℕ). answer_within start move j a) (add-zero n) ∙ e
  steps_stay n (suc m) a k e =
      ap (λ (j : ℕ). answer_within start move j a) (add-suc n m)
      ∙ ap (λ (x : Answer). next_answer x (n + m) (near (suc (n + m)) a)) (steps_stay n m a k e)

  unanswered : (n a : ℕ) → near n a ≡ false → answer_within start move n a ≡ None
  unanswered n a e = go (answer_within start move n a) (sym (reached_is_steps start move n a) ∙ e)
    where
      go : (x : Answer) → is_steps x ≡ false → x ≡ None
      go (Some k) q = absurd (fails q tt)
      go None q = refl

  -- ---- whether each wanted area is reached
  -- within n steps, by what the search finds
  pub within_now : (n wanted all : ℕ) (r v : Bool) → all ≡ reached_row n → r ≡ is_subset wanted all → r ≡ v → all_within start move wanted n ≡ v
  unfolding all_within
  within_now n wanted all r v e p t = sym (p ∙ ap (is_subset wanted) e) ∙ t

  -- they are within n steps, and not within fewer
  pub found_steps : (n wanted : ℕ) → n ≤ longest → some_below n (all_within start move wanted) ≡ false → all_within start move wanted n ≡ true
      → Some n ≡ found_below (suc longest) (all_within start move wanted)
  found_steps n wanted h none t = sym (found_is (all_within start move wanted) (suc longest) n (omega arith) t (none_at (all_within start move wanted) n none))

  -- all that is reached is reached within n steps, and they are not
  pub found_no_steps : (n wanted : ℕ) → reached_row n ≡ reachable start move → all_within start move wanted n ≡ false
      → None ≡ found_below (suc longest) (all_within start move wanted)
  unfolding all_within
  found_no_steps n wanted e far = sym (found_none (all_within start move wanted) (suc longest) (λ k h. is_false _ (λ t. fails never (holds (early k wanted (omega arith) (is_true _ t))))))
    where
      never : is_subset wanted (reachable start move) ≡ false
      never = ap (is_subset wanted) (sym e) ∙ far

  -- they are within some number of steps where they are reached at all
  pub some_within : (wanted : ℕ) → some_below (suc longest) (all_within start move wanted) ≡ is_subset wanted (reachable start move)
  unfolding all_within reachable
  some_within wanted = same_test _ _ there back
    where
      there : T (some_below (suc longest) (all_within start move wanted)) → T (is_subset wanted (reachable start move))
      there t =
          let s = some_at (all_within start move wanted) (suc longest) t in
          let b : s.place < suc longest = s.below in
          holds (early s.place wanted (omega arith) (is_true _ s.met))

      back : T (is_subset wanted (reachable start move)) → T (some_below (suc longest) (all_within start move wanted))
      back t = some_by (all_within start move wanted) (suc longest) longest (omega arith) t

  -- one area is within n steps where it is reached in them
  pub one_within : (a n : ℕ) → a < places → all_within start move (with_bit 0 a true) n ≡ near n a
  unfolding all_within
  one_within a n h = same_test _ _ there back
    where
      one : (k : ℕ) → k < places → bit (with_bit 0 a true) k ≡ cond (eqb k a) true (bit 0 k)
      one k l = with_bit_bit 0 a true k l

      there : T (is_subset (with_bit 0 a true) (reached_row n)) → T (near n a)
      there t = subst T (reached_bit n a) ((subset_decided (with_bit 0 a true) (reached_row n)).0 t a h (subst T (sym (one a h ∙ ap (λ (b : Bool). cond b true (bit 0 a)) (eq-eqb a a refl))) tt))

      back : T (near n a) → T (is_subset (with_bit 0 a true) (reached_row n))
      back t = (subset_decided (with_bit 0 a true) (reached_row n)).1 (λ k l p. subst T (sym (reached_bit n k)) (go k (test (eqb k a)) (subst T (one k l) p)))
        where
          go : (k : ℕ) → T (eqb k a) ⊎ (eqb k a ≡ false) → T (cond (eqb k a) true (bit 0 k)) → T (near n k)
          go k (inl e) p = subst (λ (m : ℕ). T (near n m)) (sym (eqb-true k a (is_true _ e))) t
          go k (inr e) p = absurd (fails (bit_zero k) (rw e at p))

  pub found_first : (a : ℕ) → bit (reached_row 0) a ≡ true → Some 0 ≡ answer_within start move longest a
  unfolding longest answer_within
  found_first a t =
      let first : answer_within start move 0 a ≡ Some 0 = ap (λ (b : Bool). cond b (Some 0) None) (sym (reached_bit 0 a) ∙ t) in
      sym (steps_stay 0 longest a 0 first)

  pub found_now : (n a : ℕ) → n < longest → bit (reached_row n) a ≡ false → bit (layer_row (suc n)) a ≡ true
      → Some (n + 1) ≡ answer_within start move longest a
  unfolding answer_within layer_row
  found_now n a hn far t =
      let h : a < places = inside (dec_lt a places) in
      let here : near (suc n) a ≡ true = is_true _ (layer_reached (suc n) a h (holds t)) in
      let first : answer_within start move (suc n) a ≡ Some (suc n) = ap₂ (λ (x : Answer) (b : Bool). next_answer x n b) (unanswered n a (sym (reached_bit n a) ∙ far)) here in
      let more : suc n + (longest - suc n) ≡ longest = omega arith in
      ap Some (add-one n) ∙ sym (sym (ap (λ (j : ℕ). answer_within start move j a) more) ∙ steps_stay (suc n) (longest - suc n) a (suc n) first)
    where
      inside : Dec (a < places) → a < places
      inside (yes h) = h
      inside (no h) = absurd (fails (bit_past places (layer_row (suc n)) a (difference_fits _ _) (omega arith)) (holds t))

  pub never : (n a : ℕ) → bit (reached_row n) a ≡ false → reached_row n ≡ reachable start move → None ≡ answer_within start move longest a
  unfolding reachable
  never n a far e = sym (unanswered longest a (sym (reached_bit longest a) ∙ ap (λ (r : ℕ). bit r a) (sym e) ∙ far))

-- ---- the answer as the first number of steps that reaches the area
pub answer_found : (start : ℕ → Bool) (move : ℕ → ℕ → Bool) (n a : ℕ) → answer_within start move n a ≡ found_below (suc n) (λ m. has (reached start move m) a)
answer_found start move n a = go (answer_within start move n a) (answer_within_is_right start move n a)
  where
    near : ℕ → Bool
    near m = has (reached start move m) a

    far : (k m : ℕ) → m < k → ((j : ℕ) → Chain start move j a → k ≤ j) → near m ≡ false
    far k m h least =
        is_false _ (λ t.
        let c = chain_of start move m a t in
        let l = least c.0 c.2 in
        omega (arith, c.1))

    go : (x : Answer) → RightWithin start move n a x → x ≡ found_below (suc n) near
    go (Some k) r =
        let short : k ≤ n = r.short in
        sym (found_is near (suc n) k (omega arith) (is_true _ (reached_by start move k r.shortest.chain (le_refl k))) (λ m h. far k m h r.shortest.least))
    go None r =
        sym (found_none near (suc n) (λ k h. is_false _ (λ t.
        let c = chain_of start move k a t in
        r c.0 (omega (arith, c.1)) c.2)))

-- a number is found where some number meets the test
pub found_some : (f : ℕ → Bool) (n : ℕ) → is_some (found_below n f) ≡ some_below n f
found_some f n = go (eqb (first_below n f) n) ∙ ap not (first_or_none f n) ∙ not_same (some_below n f)
  where
    go : (b : Bool) → is_some (cond b None (Some (first_below n f))) ≡ not b
    go true = refl
    go false = refl

-- the first layer is the areas that define the object
pub first_row : (defined : ℕ) (move : ℕ → ℕ → Bool) → defined < 2 ^ places → defined ≡ reached_row (bit defined) move 0
unfolding reached
first_row defined move h = word_is places defined _ h (λ k hk. sym (has_tabulate (bit defined) k hk))
