-- A walk along cells that are set: what it has found after some cells, and that it finds exactly what is there.
--     some_take_more                 one cell more, for a loop
--     some_found, some_there         what a walk found is there, and what is there is found
--     count_more, count_within       one cell more, and no more than there are cells
-- Assumes nothing.
use Prim.Native.Nat.{ℕ, zero, suc, ◌+◌, ◌≤◌, ◌<◌}
use mathlib.Core.Path.{◌≡◌, refl, sym, ap, ◌∙◌}
use mathlib.Core.Logic.{◌⊎◌, inl, inr}
use mathlib.Core.Bool.{Bool, true, false, ◌&&◌, ◌||◌, or_assoc, or-false}
use mathlib.Core.List.{List, [], ◌∷◌}
use native.Mathlib.Nat.{not-suc-le-zero, le_of_suc-le-suc, zero-add, add-zero, add-suc, suc-add}
use native.Mathlib.Numerals.{add-one}
use native.Mathlib.Omega.{arith}
use lib.Dec.{T}
use lib.ListN.{length, get_or, take}
use mir.Val.{bool_byte}
use Rattle.state.specs.Walk.{some_from, count}
use Rattle.state.proofs.Bools.{or_left, or_right, or_cases}

module _ (f : ℕ → Bool) where
  -- the list starts at number i, and its cell k is that of number a
  some_from_more : (i k a : ℕ) (l : List Bool) → i + k ≡ a → k < length l →
      some_from i (take (suc k) l) f ≡ some_from i (take k l) f || (get_or l k false && f a)
  unfolding some_from
  some_from_more i k a [] e h = absurd (not-suc-le-zero h)
  some_from_more i zero a (true ∷ l) e h = or-false (f i) ∙ ap f (omega arith)
  some_from_more i zero a (false ∷ l) e h = refl
  some_from_more i (suc k) a (true ∷ l) e h =
      ap (λ (b : Bool). f i || b) (some_from_more (suc i) k a l (omega arith) (le_of_suc-le-suc h)) ∙ sym (or_assoc (f i) _ _)
  some_from_more i (suc k) a (false ∷ l) e h = some_from_more (suc i) k a l (omega arith) (le_of_suc-le-suc h)

  -- nothing is found before the first cell
  pub some_take_none : (l : List Bool) → some_from 0 (take 0 l) f ≡ false
  unfolding some_from
  some_take_none l = refl

  -- one of the first k + 1 meets the test: one of the first k, or number k
  pub some_take_more : (l : List Bool) (k : ℕ) → k < length l → some_from 0 (take (k + 1) l) f ≡ some_from 0 (take k l) f || (get_or l k false && f k)
  some_take_more l k h = rw (add-one k) (some_from_more 0 k k l (zero-add k) h)

  -- what is found in the rest of a list, counted from its front
  further : (i : ℕ) (b : Bool) (l : List Bool) → ((k : ℕ) × T (get_or l k false) × T (f (suc i + k))) → (k : ℕ) × T (get_or (b ∷ l) k false) × T (f (i + k))
  further i b l r = (suc r.0, r.1, rw (add-suc i r.0) (rw (suc-add i r.0) at r.2))

  found_from : (i : ℕ) (l : List Bool) → T (some_from i l f) → (k : ℕ) × T (get_or l k false) × T (f (i + k))
  unfolding some_from
  found_from i [] t = absurd t
  found_from i (true ∷ l) t = go (found_from (suc i) l) (or_cases (f i) (some_from (suc i) l f) t)
    where
      go : (T (some_from (suc i) l f) → (k : ℕ) × T (get_or l k false) × T (f (suc i + k))) → T (f i) ⊎ T (some_from (suc i) l f) → (k : ℕ) × T (get_or (true ∷ l) k false) × T (f (i + k))
      go rest (inl h) = (zero, tt, rw (add-zero i) h)
      go rest (inr h) = further i true l (rest h)
  found_from i (false ∷ l) t = further i false l (found_from (suc i) l t)

  there_from : (i : ℕ) (l : List Bool) (k : ℕ) → T (get_or l k false) → T (f (i + k)) → T (some_from i l f)
  unfolding some_from
  there_from i [] k h t = absurd h
  there_from i (true ∷ l) zero h t = or_left (f i) (some_from (suc i) l f) (rw (add-zero i) at t)
  there_from i (true ∷ l) (suc k) h t = or_right (f i) (some_from (suc i) l f) (there_from (suc i) l k h (rw (suc-add i k) (rw (add-suc i k) at t)))
  there_from i (false ∷ l) zero h t = absurd h
  there_from i (false ∷ l) (suc k) h t = there_from (suc i) l k h (rw (suc-add i k) (rw (add-suc i k) at t))

  pub some_found : (l : List Bool) → T (some_from 0 l f) → (k : ℕ) × T (get_or l k false) × T (f k)
  some_found l t = let r = found_from 0 l t in (r.0, r.1, rw (zero-add r.0) at r.2)

  pub some_there : (l : List Bool) (k : ℕ) → T (get_or l k false) → T (f k) → T (some_from 0 l f)
  some_there l k h t = there_from 0 l k h (rw (zero-add k) t)

-- ---- how many: the first cells, one more, and all of them
pub count_more : (l : List Bool) (k : ℕ) → k < length l → count (take (suc k) l) ≡ count (take k l) + bool_byte (get_or l k false)
unfolding count
count_more [] k h = absurd (not-suc-le-zero h)
count_more (true ∷ l) zero h = refl
count_more (false ∷ l) zero h = refl
count_more (true ∷ l) (suc k) h = ap suc (count_more l k (le_of_suc-le-suc h)) ∙ sym (suc-add (count (take k l)) (bool_byte (get_or l k false)))
count_more (false ∷ l) (suc k) h = count_more l k (le_of_suc-le-suc h)

pub count_within : (l : List Bool) → count l ≤ length l
unfolding count
count_within [] = omega arith
count_within (true ∷ l) = let rest : count l ≤ length l = count_within l in omega arith
count_within (false ∷ l) = let rest : count l ≤ length l = count_within l in omega arith
