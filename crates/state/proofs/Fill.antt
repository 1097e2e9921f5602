-- A loop that writes an array from the front, one cell a turn. After j turns the cells below j are those of f (Filled), and the others are still
-- those of g (Kept).
--     filled_none, kept_none     before the first turn
--     filled_more, kept_more     one turn more
--     filled_all                 after the last turn the array is f's table
-- Assumes nothing.
use Prim.Native.Nat.{ℕ, zero, suc, ◌+◌, ◌≤◌, ◌<◌}
use mathlib.Core.Path.{◌≡◌, refl, ◌∙◌}
use mathlib.Core.List.{List}
use native.Mathlib.Omega.{arith}
use native.Mathlib.Decide.{ℕ_discrete}
use lib.ListN.{length, get_or, set, replicate, length-set}
use lib.Seq.{get_or-set_same, get_or-set_other}
use Rattle.state.specs.Tabulate.{tabulate}
use Rattle.state.proofs.Tabulate.{tabulate_is}

pub record Filled {A : Type 0} (f : ℕ → A) (d : A) (n j : ℕ) (l : List A) : Type 0 where
  pub long : length l ≡ n
  pub front : (k : ℕ) → k < j → get_or l k d ≡ f k

pub record Kept {A : Type 0} (g : ℕ → A) (d : A) (j : ℕ) (l : List A) : Type 0 where
  pub rest : (k : ℕ) → j ≤ k → get_or l k d ≡ g k

module _ {A : Type 0} (f : ℕ → A) (d : A) (n : ℕ) where
  pub filled_none : (l : List A) → length l ≡ n → Filled f d n 0 l
  filled_none l long = record { long = long; front = λ k h. absurd (omega arith) }

  pub filled_more : (j : ℕ) (l : List A) (v : A) → j < n → v ≡ f j → Filled f d n j l → Filled f d n (j + 1) (set l j v)
  filled_more j l v h e t = record { long = length-set l j v ∙ t.long; front = λ k hk. at k (ℕ_discrete k j) hk }
    where
      at : (k : ℕ) → Dec (k ≡ j) → k < j + 1 → get_or (set l j v) k d ≡ f k
      at k (yes q) hk = rw q (get_or-set_same l j v d (rw t.long h) ∙ e)
      at k (no q) hk = get_or-set_other l j k v d q ∙ t.front k (omega arith)

  -- the count of turns in another form
  pub filled_to : {j : ℕ} (i : ℕ) (l : List A) → j ≡ i → Filled f d n j l → Filled f d n i l
  filled_to i l e t = rw e at t

  pub filled_all : (j : ℕ) (l : List A) → n ≤ j → Filled f d n j l → l ≡ tabulate n f
  filled_all j l h t = tabulate_is f n d l t.long (λ k hk. t.front k (omega arith))

module _ {A : Type 0} (g : ℕ → A) (d : A) where
  pub kept_more : (j : ℕ) (l : List A) (v : A) → Kept g d j l → Kept g d (j + 1) (set l j v)
  kept_more j l v t = record { rest = λ k h. get_or-set_other l j k v d (λ (q : k ≡ j). omega arith) ∙ t.rest k (omega arith) }

-- a repeated value is kept
pub kept_none : {A : Type 0} (d : A) (n : ℕ) → Kept (λ (k : ℕ). d) d 0 (replicate n d)
kept_none d n = record { rest = λ k h. go n k }
  where
    go : (n k : ℕ) → get_or (replicate n d) k d ≡ d
    go zero k = refl
    go (suc n) zero = refl
    go (suc n) (suc k) = go n k
