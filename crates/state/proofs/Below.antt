-- `each_below`, `count_below`, `some_below` and `first_below`: one number more, for a loop, and what they say.
--     each_none, each_more, each_goes      before the first turn, one turn more, and one more that meets the test
--     each_add                             so many numbers more
--     each_at, each_by                     each number meets the test
--     each_stop, each_done                 a number that does not, and none left
--     count_none, count_more               before the first turn, and one turn more
--     count_one, one_counted               a count of one is exactly one number
--     some_none, some_more                 no number, and one number more
--     some_goes                            one number more that does not meet the test
--     some_at, some_by                     some number meets the test
--     some_stop, some_done                 a number that does, and none left
--     first_is, first_none, first_met_lem  the number that meets it while none before does, none at all, and that it does meet it
--     first_under, first_within            none before it meets it, and it is below n, or n
--     none_at                              where none meets the test, each does not
--     first_found, first_or_none           where some number meets the test, the first does, and else it is n
--     found_is, found_none                 the same two of `found_below`
--     some_same, first_same                of two tests that agree below n
-- Assumes nothing.
use Prim.Native.Nat.{ℕ, zero, suc, ◌+◌, ◌≤◌, ◌<◌}
use mathlib.Core.Path.{◌≡◌, refl, sym, ap, ap₂, subst, ◌∙◌}
use mathlib.Core.Logic.{◌⊎◌, inl, inr}
use mathlib.Core.Bool.{Bool, true, false, ◌&&◌, ◌||◌, not, cond, and-true, and_assoc}
use native.Mathlib.Nat.{not-suc-le-zero, add-zero, add-suc}
use native.Mathlib.Numerals.{add-one}
use native.Mathlib.Omega.{arith}
use native.Mathlib.Decide.{ℕ_discrete, dec_lt}
use borrow.Author.Tests.{eq-eqb, ne_eqb}
use lib.Dec.{T, eqb}
use Rattle.state.proofs.Bools.{or_left, or_right, or_cases, and_both, and_left, and_right, same_test, is_true, is_false, holds, fails, test}
use Rattle.std.proofs.Common.{Some as Found, None as NotFound}
use Rattle.state.specs.Below.{each_below, count_below, some_below, first_from, first_below, found_below}

module _ (f : ℕ → Bool) where
  pub each_none : each_below 0 f ≡ true
  unfolding each_below
  each_none = refl

  pub each_more : (n : ℕ) → each_below (n + 1) f ≡ each_below n f && f n
  unfolding each_below
  each_more n = rw (add-one n) refl

  -- so many numbers more
  pub each_add : (n m : ℕ) → each_below (n + m) f ≡ (each_below n f && each_below m (λ i. f (n + i)))
  unfolding each_below
  each_add n zero = ap (λ (k : ℕ). each_below k f) (add-zero n) ∙ sym (and-true (each_below n f))
  each_add n (suc m) =
      ap (λ (k : ℕ). each_below k f) (add-suc n m)
      ∙ ap (λ (b : Bool). b && f (n + m)) (each_add n m)
      ∙ and_assoc (each_below n f) (each_below m (λ i. f (n + i))) (f (n + m))

  -- a loop that carries the test along
  pub each_step : (n : ℕ) (fits : Bool) (new : Bool) → fits ≡ each_below n f → new ≡ f n → fits && new ≡ each_below (n + 1) f
  each_step n fits new e h = ap₂ ◌&&◌ e h ∙ sym (each_more n)

  pub each_end : (n k : ℕ) (fits : Bool) → k ≡ n → fits ≡ each_below k f → fits ≡ each_below n f
  each_end n k fits same e = e ∙ ap (λ (m : ℕ). each_below m f) same

  -- a loop that stops where the test fails
  pub each_goes : (n : ℕ) → each_below n f ≡ true → f n ≡ true → each_below (n + 1) f ≡ true
  each_goes n e h = each_more n ∙ ap₂ ◌&&◌ e h

  pub each_at : (n : ℕ) → T (each_below n f) → (k : ℕ) → k < n → T (f k)
  unfolding each_below
  each_at zero t k h = absurd (not-suc-le-zero h)
  each_at (suc n) t k h = go (each_at n (and_left (each_below n f) (f n) t) k) (ℕ_discrete k n)
    where
      go : (k < n → T (f k)) → Dec (k ≡ n) → T (f k)
      go before (yes e) = rw e (and_right (each_below n f) (f n) t)
      go before (no ne) = before (omega arith)

  pub each_by : (n : ℕ) → ((k : ℕ) → k < n → T (f k)) → T (each_below n f)
  unfolding each_below
  each_by zero each = tt
  each_by (suc n) each = and_both (each_below n f) (f n) (each_by n (λ k h. each k (omega arith))) (each n (omega arith))

  pub each_stop : (n k : ℕ) → k < n → f k ≡ false → false ≡ each_below n f
  each_stop n k h e = sym (is_false (each_below n f) (λ t. fails e (each_at n t k h)))

  pub each_done : (n k : ℕ) → k ≤ n → n ≤ k → each_below k f ≡ true → true ≡ each_below n f
  each_done n k below above e = let same : k ≡ n = omega arith in sym (subst (λ (m : ℕ). each_below m f ≡ true) same e)

  pub count_none : count_below 0 f ≡ 0
  unfolding count_below
  count_none = refl

  pub count_more : (n : ℕ) → count_below (n + 1) f ≡ count_below n f + cond (f n) 1 0
  unfolding count_below
  count_more n = rw (add-one n) refl

  -- exactly one number below n meets the test
  pub record Single (n : ℕ) : Type 0 where
    pub place : ℕ
    pub below : place < n
    pub met : T (f place)
    pub only : (k : ℕ) → k < n → T (f k) → k ≡ place

  -- one number more: it meets the test, or it does not
  next_met : (n : ℕ) → T (f n) → count_below (suc n) f ≡ suc (count_below n f)
  unfolding count_below
  next_met n t = rw (is_true (f n) t) (add-one (count_below n f))

  next_not : (n : ℕ) → f n ≡ false → count_below (suc n) f ≡ count_below n f
  unfolding count_below
  next_not n e = rw e (omega arith)

  none_counted : (n : ℕ) → count_below n f ≡ 0 → (k : ℕ) → k < n → T (f k) → ⊥
  none_counted zero e k h t = not-suc-le-zero h
  none_counted (suc n) e k h t = go (none_counted n) (test (f n)) (ℕ_discrete k n)
    where
      go : (count_below n f ≡ 0 → (k : ℕ) → k < n → T (f k) → ⊥) → T (f n) ⊎ (f n ≡ false) → Dec (k ≡ n) → ⊥
      go before (inl m) q = omega (arith, next_met n m)
      go before (inr q) (yes same) = fails q (rw same at t)
      go before (inr q) (no other) = before (sym (next_not n q) ∙ e) k (omega arith) t

  count_zero : (n : ℕ) → ((k : ℕ) → k < n → T (f k) → ⊥) → count_below n f ≡ 0
  count_zero zero none = count_none
  count_zero (suc n) none = next_not n (is_false (f n) (none n (omega arith))) ∙ count_zero n (λ k h. none k (omega arith))

  pub count_one : (n : ℕ) → count_below n f ≡ 1 → Single n
  count_one zero e = absurd (omega (arith, count_none))
  count_one (suc n) e = go (count_one n) (test (f n))
    where
      last : T (f n) → count_below n f ≡ 0 → (k : ℕ) → k < suc n → T (f k) → Dec (k ≡ n) → k ≡ n
      last m z k h t (yes q) = q
      last m z k h t (no q) = absurd (none_counted n z k (omega arith) t)

      before : f n ≡ false → (s : Single n) → (k : ℕ) → k < suc n → T (f k) → Dec (k ≡ n) → k ≡ s.place
      before q s k h t (yes same) = absurd (fails q (rw same at t))
      before q s k h t (no other) = s.only k (omega arith) t

      go : (count_below n f ≡ 1 → Single n) → T (f n) ⊎ (f n ≡ false) → Single (suc n)
      go rest (inl m) =
          let z : count_below n f ≡ 0 = omega (arith, next_met n m) in
          record { place = n; below = omega arith; met = m; only = λ k h t. last m z k h t (ℕ_discrete k n) }
      go rest (inr q) =
          let s = rest (sym (next_not n q) ∙ e) in
          let b : s.place < n = s.below in
          record { place = s.place; below = omega arith; met = s.met; only = λ k h t. before q s k h t (ℕ_discrete k n) }

  pub one_counted : (n : ℕ) → Single n → count_below n f ≡ 1
  one_counted zero s = absurd (not-suc-le-zero s.below)
  one_counted (suc n) s = go (one_counted n) (test (f n))
    where
      go : (Single n → count_below n f ≡ 1) → T (f n) ⊎ (f n ≡ false) → count_below (suc n) f ≡ 1
      go rest (inl m) =
          let here : n ≡ s.place = s.only n (omega arith) m in
          next_met n m ∙ ap suc (count_zero n (λ k h t. let at : k ≡ s.place = s.only k (omega arith) t in omega arith))
      go rest (inr q) = next_not n q ∙ rest (record { place = s.place; below = earlier (ℕ_discrete s.place n); met = s.met; only = λ k h. s.only k (omega arith) })
        where
          earlier : Dec (s.place ≡ n) → s.place < n
          earlier (yes e) = absurd (fails q (rw e at s.met))
          earlier (no ne) = let b : s.place < suc n = s.below in omega arith

  -- ---- some number
  pub record Some (n : ℕ) : Type 0 where
    pub place : ℕ
    pub below : place < n
    pub met : T (f place)

  pub some_none : some_below 0 f ≡ false
  unfolding some_below
  some_none = refl

  pub some_more : (n : ℕ) → some_below (suc n) f ≡ (some_below n f || f n)
  unfolding some_below
  some_more n = refl

  pub some_by : (n k : ℕ) → k < n → T (f k) → T (some_below n f)
  unfolding some_below
  some_by zero k h t = absurd (not-suc-le-zero h)
  some_by (suc n) k h t = go (some_by n k) (ℕ_discrete k n)
    where
      go : (k < n → T (f k) → T (some_below n f)) → Dec (k ≡ n) → T (some_below n f || f n)
      go before (yes e) = or_right (some_below n f) (f n) (rw e at t)
      go before (no ne) = or_left (some_below n f) (f n) (before (omega arith) t)

  -- no number so far: one more, the first that does, and the end
  pub some_goes : (n : ℕ) → some_below n f ≡ false → f n ≡ false → some_below (n + 1) f ≡ false
  some_goes n e h = rw (add-one n, some_more n, e) h

  pub some_stop : (n k : ℕ) → k < n → f k ≡ true → true ≡ some_below n f
  some_stop n k h e = sym (is_true (some_below n f) (some_by n k h (holds e)))

  pub some_done : (n k : ℕ) → k ≤ n → n ≤ k → some_below k f ≡ false → false ≡ some_below n f
  some_done n k below above e = let same : k ≡ n = omega arith in sym (subst (λ (m : ℕ). some_below m f ≡ false) same e)

  pub some_at : (n : ℕ) → T (some_below n f) → Some n
  unfolding some_below
  some_at zero t = absurd t
  some_at (suc n) t = go (some_at n) (or_cases (some_below n f) (f n) t)
    where
      go : (T (some_below n f) → Some n) → T (some_below n f) ⊎ T (f n) → Some (suc n)
      go before (inl s) =
          let found = before s in
          let b : found.place < n = found.below in
          record { place = found.place; below = omega arith; met = found.met }
      go before (inr m) = record { place = n; below = omega arith; met = m }

  -- ---- the first number, of those from k on
  from_none : (n k : ℕ) → ((m : ℕ) → k ≤ m → m < k + n → f m ≡ false) → first_from f n k ≡ k + n
  unfolding first_from
  from_none zero k none = omega arith
  from_none (suc n) k none =
      let later : first_from f n (k + 1) ≡ k + 1 + n = from_none n (k + 1) (λ m a b. none m (omega arith) (omega arith)) in
      rw (none k (omega arith) (omega arith)) (omega arith)

  from_is : (n k m : ℕ) → k ≤ m → m < k + n → f m ≡ true → ((j : ℕ) → k ≤ j → j < m → f j ≡ false) → first_from f n k ≡ m
  unfolding first_from
  from_is zero k m a b t none = absurd (omega arith)
  from_is (suc n) k m a b t none = go (from_is n (k + 1) m) (ℕ_discrete k m)
    where
      go : (k + 1 ≤ m → m < k + 1 + n → f m ≡ true → ((j : ℕ) → k + 1 ≤ j → j < m → f j ≡ false) → first_from f n (k + 1) ≡ m)
          → Dec (k ≡ m) → cond (f k) k (first_from f n (k + 1)) ≡ m
      go later (yes e) = let met : f k ≡ true = rw e t in rw met e
      go later (no ne) = rw (none k (omega arith) (omega arith)) (later (omega arith) (omega arith) t (λ j c d. none j (omega arith) d))

  from_met : (n k : ℕ) → first_from f n k < k + n → f (first_from f n k) ≡ true
  unfolding first_from
  from_met zero k h = absurd (omega arith)
  from_met (suc n) k h = go (from_met n (k + 1)) (test (f k)) h
    where
      first : ℕ
      first = cond (f k) k (first_from f n (k + 1))

      go : (first_from f n (k + 1) < k + 1 + n → f (first_from f n (k + 1)) ≡ true) → T (f k) ⊎ (f k ≡ false) → first < k + suc n → f first ≡ true
      go later (inl t) h = rw (is_true (f k) t) (is_true (f k) t)
      go later (inr e) h = let l : first_from f n (k + 1) < k + suc n = rw e at h in rw e (later (omega arith))

  from_under : (n k m : ℕ) → k ≤ m → m < first_from f n k → f m ≡ false
  unfolding first_from
  from_under zero k m a h = absurd (omega arith)
  from_under (suc n) k m a h = go (from_under n (k + 1) m) (test (f k)) (ℕ_discrete k m) h
    where
      first : ℕ
      first = cond (f k) k (first_from f n (k + 1))

      go : (k + 1 ≤ m → m < first_from f n (k + 1) → f m ≡ false) → T (f k) ⊎ (f k ≡ false) → Dec (k ≡ m) → m < first → f m ≡ false
      go later (inl t) same h = let l : m < k = rw (is_true (f k) t) at h in absurd (omega arith)
      go later (inr e) (yes s) h = rw s at e
      go later (inr e) (no s) h = let l : m < first_from f n (k + 1) = rw e at h in later (omega arith) l

  from_within : (n k : ℕ) → first_from f n k ≤ k + n
  unfolding first_from
  from_within zero k = omega arith
  from_within (suc n) k = go (f k) (from_within n (k + 1))
    where
      go : (v : Bool) → first_from f n (k + 1) ≤ k + 1 + n → cond v k (first_from f n (k + 1)) ≤ k + suc n
      go true later = omega arith
      go false later = omega arith

  -- and of those below n
  pub first_none : (n : ℕ) → ((k : ℕ) → k < n → f k ≡ false) → first_below n f ≡ n
  first_none n none = from_none n 0 (λ m a b. none m (omega arith)) ∙ omega arith

  pub first_is : (n k : ℕ) → k < n → f k ≡ true → ((m : ℕ) → m < k → f m ≡ false) → first_below n f ≡ k
  first_is n k h t none = from_is n 0 k (omega arith) (omega arith) t (λ j a b. none j b)

  pub first_met_lem : (n : ℕ) → first_below n f < n → f (first_below n f) ≡ true
  first_met_lem n h = from_met n 0 (omega arith)

  pub first_under : (n m : ℕ) → m < first_below n f → f m ≡ false
  first_under n m h = from_under n 0 m (omega arith) h

  pub first_within : (n : ℕ) → first_below n f ≤ n
  first_within n = let h : first_below n f ≤ 0 + n = from_within n 0 in omega arith

  -- where none meets the test, each does not
  pub none_at : (n : ℕ) → some_below n f ≡ false → (k : ℕ) → k < n → f k ≡ false
  none_at n none k h = is_false (f k) (λ t. fails none (some_by n k h t))

  -- where some number meets the test, the first is below n and meets it
  pub first_found : (n : ℕ) → T (some_below n f) → (first_below n f < n) × T (f (first_below n f))
  first_found n t = (inside, holds (first_met_lem n inside))
    where
      inside : first_below n f < n
      inside = go (dec_lt (first_below n f) n)
        where
          go : Dec (first_below n f < n) → first_below n f < n
          go (yes h) = h
          go (no h) =
              let s = some_at n t in
              let b : s.place < n = s.below in
              absurd (fails (first_under n s.place (omega arith)) s.met)

-- the first is n exactly where none meets the test
pub first_or_none : (f : ℕ → Bool) (n : ℕ) → eqb (first_below n f) n ≡ not (some_below n f)
first_or_none f n = go (test (some_below n f))
  where
    go : T (some_below n f) ⊎ (some_below n f ≡ false) → eqb (first_below n f) n ≡ not (some_below n f)
    go (inl t) =
        let found : first_below n f < n = (first_found f n t).0 in
        ne_eqb (first_below n f) n (λ e. omega arith) ∙ sym (ap not (is_true (some_below n f) t))
    go (inr none) = eq-eqb (first_below n f) n (first_none f n (none_at f n none)) ∙ sym (ap not none)

-- ---- the first number that meets the test, if one does
one_found : (n k r : ℕ) → r ≡ k → k < n → cond (eqb r n) NotFound (Found r) ≡ Found k
one_found n k r e h = ap (λ (b : Bool). cond b NotFound (Found r)) (ne_eqb r n (λ m. omega arith)) ∙ ap Found e

none_found : (n r : ℕ) → r ≡ n → cond (eqb r n) NotFound (Found r) ≡ NotFound
none_found n r e = ap (λ (b : Bool). cond b NotFound (Found r)) (eq-eqb r n e)

pub found_is : (f : ℕ → Bool) (n k : ℕ) → k < n → f k ≡ true → ((m : ℕ) → m < k → f m ≡ false) → found_below n f ≡ Found k
found_is f n k h t none = one_found n k (first_below n f) (first_is f n k h t none) h

pub found_none : (f : ℕ → Bool) (n : ℕ) → ((k : ℕ) → k < n → f k ≡ false) → found_below n f ≡ NotFound
found_none f n none = none_found n (first_below n f) (first_none f n none)

-- ---- two tests that agree below n
pub some_same : (f g : ℕ → Bool) (n : ℕ) → ((k : ℕ) → k < n → f k ≡ g k) → some_below n f ≡ some_below n g
some_same f g n same = same_test (some_below n f) (some_below n g) (there f g same) (there g f (λ k h. sym (same k h)))
  where
    there : (f g : ℕ → Bool) → ((k : ℕ) → k < n → f k ≡ g k) → T (some_below n f) → T (some_below n g)
    there f g same t = let s = some_at f n t in some_by g n s.place s.below (subst T (same s.place s.below) s.met)

-- have the same first, where one is found
pub first_same : (f g : ℕ → Bool) (n : ℕ) → ((k : ℕ) → k < n → f k ≡ g k) → T (some_below n f) → first_below n f ≡ first_below n g
first_same f g n same t =
    let found = first_found f n t in
    let at : first_below n f < n = found.0 in
    sym (first_is g n (first_below n f) at (sym (same (first_below n f) at) ∙ is_true _ found.1) (λ m h. sym (same m (omega arith)) ∙ first_under f n m h))
