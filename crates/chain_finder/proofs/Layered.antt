-- The counts that are found layer by layer: after n layers the areas that are reached have the number of their answer, and the others that of 'no
-- access'.
-- Assumes nothing.
use Prim.Native.Nat.{ℕ, suc, ◌+◌, ◌<◌, ◌≤◌}
use mathlib.Core.Path.{◌≡◌, refl, sym, ap, ap₂, ◌∙◌}
use mathlib.Core.Bool.{Bool, true, false, ◌||◌, cond, or-false}
use mathlib.Core.List.{List}
use borrow.Author.Tests.{eqb-true}
use lib.ListN.{length, get_or, replicate, get_or-replicate}
use Rattle.bits.specs.Bits.{bit, places, is_empty}
use Rattle.bits.proofs.Laws.{union_bit, difference_bit}
use Rattle.state.proofs.Bools.{and_right, is_false, holds, not_so}
use Rattle.state.proofs.Tabulate.{length_tabulate, get_or_tabulate, same_table}
use Rattle.state.specs.Tabulate.{tabulate}
use Rattle.access.specs.Answer.{longest, answer_within, unreached, answer_number, counts_within}
use Rattle.search.specs.Rounds.{reachable}
use Rattle.search.proofs.Layers.{reached_row, layer_row, reach, all_reached, last_reached, found_first, found_now, never}
use Rattle.chain_finder.specs.Parts.{counted_as}

module _ (start : ℕ → Bool) (move : ℕ → ℕ → Bool) where
  -- the number of the area's answer
  abbrev number : ℕ → ℕ
  number a = answer_number (answer_within start move longest a)

  -- it is known of an area that is reached within n steps
  abbrev known : (n a : ℕ) → ℕ
  known n a = cond (bit (reached_row start move n) a) (number a) unreached

  unfoldable pub counts_to : ℕ → List ℕ
  counts_to n = tabulate places (known n)

  pub counts_length : (n : ℕ) → length (counts_to n) ≡ places
  unfolding counts_to
  counts_length n = length_tabulate (known n) places

  -- before the first layer no count is known but that of the areas that define the object
  counts_none : counted_as 0 (reached_row start move 0) (replicate places unreached) ≡ counts_to 0
  unfolding counts_to counted_as
  counts_none = same_table _ _ 0 places (λ a h. go a h (bit (reached_row start move 0) a) refl)
    where
      go : (a : ℕ) → a < places → (b : Bool) → bit (reached_row start move 0) a ≡ b
          → cond (bit (reached_row start move 0) a) 0 (get_or (replicate places unreached) a 0) ≡ known 0 a
      go a h true e = rw e (ap answer_number (found_first start move a e))
      go a h false e = rw e (get_or-replicate places a unreached 0 h)

  -- an area of the new layer is not reached before
  was_far : (n a : ℕ) → a < places → bit (layer_row start move (suc n)) a ≡ true → bit (reached_row start move n) a ≡ false
  unfolding layer_row
  was_far n a h e =
      is_false _ (not_so (bit (reached_row start move n) a) (and_right (bit (reached_row start move (suc n)) a) _ (holds (sym (difference_bit _ _ a h) ∙ e))))

  counts_more : (n : ℕ) → n < longest → counted_as (n + 1) (layer_row start move (suc n)) (counts_to n) ≡ counts_to (n + 1)
  unfolding counts_to counted_as
  counts_more n hn = same_table _ _ 0 places (λ a h. go a h (bit (layer_row start move (suc n)) a) refl)
    where
      next : (a : ℕ) → a < places → bit (reached_row start move (n + 1)) a ≡ (bit (reached_row start move n) a || bit (layer_row start move (suc n)) a)
      next a h = ap (λ (r : ℕ). bit r a) (sym (reach start move n _ _ _ refl refl refl)) ∙ union_bit _ _ a h

      go : (a : ℕ) → a < places → (b : Bool) → bit (layer_row start move (suc n)) a ≡ b
          → cond (bit (layer_row start move (suc n)) a) (n + 1) (get_or (counts_to n) a 0) ≡ known (n + 1) a
      go a h true e =
          let far = was_far n a h e in
          rw (next a h, e, far) (ap answer_number (found_now start move n a hn far e))
      go a h false e = rw (next a h, e, or-false (bit (reached_row start move n) a)) (get_or_tabulate (known n) places a 0 h)

  -- once all areas that are reachable are reached, the counts are final
  counts_final : (n : ℕ) → reached_row start move n ≡ reachable start move → counts_to n ≡ counts_within start move longest
  unfolding counts_to counts_within
  counts_final n all = same_table _ _ 0 places (λ a h. go a (bit (reached_row start move n) a) refl)
    where
      go : (a : ℕ) (b : Bool) → bit (reached_row start move n) a ≡ b → known n a ≡ number a
      go a true e = rw e refl
      go a false e = rw e (ap answer_number (never start move n a e all))

  -- ---- the same for the values of the code
  pub start_counts : (defined : ℕ) (counts : List ℕ) → defined ≡ reached_row start move 0 → counts ≡ counted_as 0 defined (replicate places unreached)
      → counts ≡ counts_to 0
  start_counts defined counts d e = e ∙ ap (λ (r : ℕ). counted_as 0 r (replicate places unreached)) d ∙ counts_none

  pub next_counts : (n new : ℕ) (counts more : List ℕ) → n < longest → new ≡ layer_row start move (suc n) → counts ≡ counts_to n
      → more ≡ counted_as (n + 1) new counts → more ≡ counts_to (n + 1)
  next_counts n new counts more h la co e = e ∙ ap₂ (counted_as (n + 1)) la co ∙ counts_more n h

  pub ended_counts : (n new : ℕ) (counts : List ℕ) → n ≤ longest → new ≡ layer_row start move (suc n) → counts ≡ counts_to n → is_empty new ≡ true
      → counts ≡ counts_within start move longest
  ended_counts n new counts h la co none = co ∙ counts_final n (all_reached start move n h (sym la ∙ eqb-true new 0 none))

  pub last_counts : (n : ℕ) (counts : List ℕ) → n ≡ longest → counts ≡ counts_to n → counts ≡ counts_within start move longest
  last_counts n counts h co = co ∙ counts_final n (last_reached start move n h)
