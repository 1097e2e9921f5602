-- `tabulate n f` has n cells, cell k is f k, and a list with those cells is that table; so two tables with the same cells are the same.
-- Assumes nothing.
use Prim.Native.Nat.{ℕ, zero, suc, ◌+◌, ◌<◌}
use mathlib.Core.Path.{◌≡◌, refl, sym, ap, ◌∙◌}
use mathlib.Core.List.{List, ◌∷◌}
use native.Mathlib.Nat.{not-suc-le-zero, le_of_suc-le-suc, add-zero, zero-add, add-suc, suc-add}
use lib.ListN.{length, get_or}
use lib.Seq.{ext_get_or}
use Rattle.state.specs.Tabulate.{tabulate, tabulate_from}

module _ {A : Type 0} (f : ℕ → A) where
  length_from : (i n : ℕ) → length (tabulate_from f i n) ≡ n
  unfolding tabulate_from
  length_from i zero = refl
  length_from i (suc n) = ap suc (length_from (suc i) n)

  get_or_from : (i n k : ℕ) (d : A) → k < n → get_or (tabulate_from f i n) k d ≡ f (i + k)
  unfolding tabulate_from
  get_or_from i zero k d h = absurd (not-suc-le-zero h)
  get_or_from i (suc n) zero d h = ap f (sym (add-zero i))
  get_or_from i (suc n) (suc k) d h = get_or_from (suc i) n k d (le_of_suc-le-suc h) ∙ ap f (suc-add i k ∙ sym (add-suc i k))

  pub length_tabulate : (n : ℕ) → length (tabulate n f) ≡ n
  unfolding tabulate
  length_tabulate n = length_from 0 n

  pub get_or_tabulate : (n k : ℕ) (d : A) → k < n → get_or (tabulate n f) k d ≡ f k
  unfolding tabulate
  get_or_tabulate n k d h = get_or_from 0 n k d h ∙ ap f (zero-add k)

  pub tabulate_is : (n : ℕ) (d : A) (l : List A) → length l ≡ n → ((k : ℕ) → k < n → get_or l k d ≡ f k) → l ≡ tabulate n f
  tabulate_is n d l long each =
      ext_get_or d l (tabulate n f) (long ∙ sym (length_tabulate n))
      (λ k h. let h' : k < n = rw long at h in each k h' ∙ sym (get_or_tabulate n k d h'))

-- the first cell, and the others
pub tabulate_more : {A : Type 0} (f : ℕ → A) (n : ℕ) → tabulate (suc n) f ≡ f 0 ∷ tabulate n (λ k. f (suc k))
tabulate_more {A} f n = sym (tabulate_is f (suc n) (f 0) (f 0 ∷ tabulate n (λ k. f (suc k))) (ap suc (length_tabulate (λ k. f (suc k)) n)) each)
  where
    each : (k : ℕ) → k < suc n → get_or (f 0 ∷ tabulate n (λ k. f (suc k))) k (f 0) ≡ f k
    each zero h = refl
    each (suc k) h = get_or_tabulate (λ k. f (suc k)) n k (f 0) (le_of_suc-le-suc h)

pub same_table : {A : Type 0} (f g : ℕ → A) (d : A) (n : ℕ) → ((k : ℕ) → k < n → f k ≡ g k) → tabulate n f ≡ tabulate n g
same_table f g d n each = tabulate_is g n d (tabulate n f) (length_tabulate f n) (λ k h. get_or_tabulate f n k d h ∙ each k h)
