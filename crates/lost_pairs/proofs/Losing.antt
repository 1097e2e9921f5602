-- Objects with a lost pair, and the first lost pair.
--     found_as                    the first number that meets a test, by another that agrees
--     area_is                     the lowest area of a lost pair of an object, by the least counts
--     object_is                   the first object with a lost pair
--     entry_is, entry_none        the first lost pair, or none
--     was_some, was_none          what a choice between a value and none was
-- Assumes nothing.
use Prim.Native.Nat.{ℕ, ◌<◌}
use mathlib.Core.Path.{◌≡◌, refl, sym, ap, ap₂, ◌∙◌}
use mathlib.Core.Logic.{◌⊎◌, inl, inr}
use mathlib.Core.Bool.{Bool, true, false, ◌&&◌, ◌||◌, not, cond}
use mathlib.Core.List.{List}
use native.Mathlib.Omega.{arith}
use borrow.Author.Tests.{lt-ltb, le-ltb}
use lib.Dec.{T, eqb, ltb, ltb→lt}
use lib.ListN.{get_or}
use Rattle.std.proofs.Common.{Some, None}
use Rattle.bits.specs.Bits.{bit, places}
use Rattle.bits.specs.Rows.{Rows, cells_of}
use Rattle.state.specs.Below.{some_below, first_below, found_below}
use Rattle.state.specs.Cells.{pair}
use Rattle.state.specs.Site.{Site}
use Rattle.state.proofs.Below.{none_at, first_found, first_under, first_none, first_met_lem, found_is, found_none}
use Rattle.state.proofs.Bools.{not_same, is_true, holds, fails, test}
use Rattle.relations.proofs.Laws.{pair_bit}
use Rattle.access.specs.Lending.{lending}
use Rattle.access.specs.Answer.{access, unreached, least_counts}
use Rattle.access.proofs.Laws.{access_is_count}
use Rattle.validity.specs.Parts.{lacking}
use Rattle.lost_pairs.specs.Parts.{is_lost_by, loses_by, object_by, area_by, entry_by}

-- ---- the first number that meets a test
module _ (f g : ℕ → Bool) (n : ℕ) (same : (k : ℕ) → k < n → f k ≡ g k) where
  pub found_as : found_below n f ≡ cond (some_below n g) (Some (first_below n g)) None
  found_as = go (test (some_below n g))
    where
      go : T (some_below n g) ⊎ (some_below n g ≡ false) → found_below n f ≡ cond (some_below n g) (Some (first_below n g)) None
      go (inl t) =
          let first = first_found g n t in
          rw (is_true (some_below n g) t)
          (found_is f n (first_below n g) first.0 (same (first_below n g) first.0 ∙ is_true _ first.1)
          (λ m h. same m (omega (arith, first.0, h)) ∙ first_under g n m h))
      go (inr none) = rw none (found_none f n (λ k h. same k h ∙ none_at g n none k h))

some_first : (g : ℕ → Bool) (n : ℕ) → some_below n g ≡ ltb (first_below n g) n
some_first g n = go (test (some_below n g))
  where
    go : T (some_below n g) ⊎ (some_below n g ≡ false) → some_below n g ≡ ltb (first_below n g) n
    go (inl t) = is_true (some_below n g) t ∙ sym (lt-ltb (first_below n g) n (first_found g n t).0)
    go (inr none) =
        let last : first_below n g ≡ n = first_none g n (none_at g n none) in
        none ∙ sym (le-ltb (first_below n g) n (omega arith))

-- ---- a choice between a value and none
module _ {A : Type 0} (y : A) where
  pub was_some : (b : Bool) (x : A) → Some x ≡ cond b (Some y) None → (b ≡ true) × (x ≡ y)
  was_some true x e = (refl, cc)
  was_some false x e = absurd cc

  pub was_none : (b : Bool) → None ≡ cond b (Some y) None → b ≡ false
  was_none true e = absurd cc
  was_none false e = refl

module _ (s : Site) (ps : Rows) where
  -- ---- the first object
  -- an object that lacks access has lost a pair
  lacking_loses : lacking s (cells_of ps) (cells_of ps) ≡ loses_by s (cells_of ps)
  unfolding lacking is_lost_by
  lacking_loses i o = some_below places (λ a. once (pair (cells_of ps) o a) (access (lending s o) a) i)
    where
      once : (p q : Bool) → ((p || p) && not q) ≡ (p && not q)
      once true q = refl
      once false q = refl

  pub object_is : found_below 64 (lacking s (cells_of ps) (cells_of ps)) ≡ cond (ltb (object_by s (cells_of ps)) 64) (Some (object_by s (cells_of ps))) None
  unfolding object_by
  object_is =
      ap (found_below 64) lacking_loses ∙ found_as (loses_by s (cells_of ps)) (loses_by s (cells_of ps)) 64 (λ k h. refl)
      ∙ ap (λ (b : Bool). cond b (Some (first_below 64 (loses_by s (cells_of ps)))) None) (some_first (loses_by s (cells_of ps)) 64)

  -- ---- the lowest area, by the least counts
  module _ (o row : ℕ) (counts : List ℕ) (counted : counts ≡ least_counts (lending s o)) (here : row ≡ get_or ps o 0) where
    -- the areas of the row that lack access
    abbrev lacking_area : ℕ → Bool
    lacking_area a = bit row a && eqb (get_or counts a 0) unreached

    same : (a : ℕ) → a < places → lacking_area a ≡ is_lost_by s (cells_of ps) o a
    unfolding is_lost_by
    same a h =
        sym
        (ap₂ (λ (x y : Bool). x && y) (pair_bit ps o a h ∙ ap (λ (n : ℕ). bit n a) (sym here))
        (ap not (access_is_count (lending s o) a h) ∙ not_same (eqb (get_or (least_counts (lending s o)) a 0) unreached)
        ∙ ap (λ (l : List ℕ). eqb (get_or l a 0) unreached) (sym counted)))

    pub area_is : found_below places lacking_area ≡ cond (loses_by s (cells_of ps) o) (Some (area_by s (cells_of ps) o)) None
    unfolding area_by
    area_is = found_as lacking_area (is_lost_by s (cells_of ps) o) places same

  -- ---- the first pair, by what the calls promise
  pub entry_none : None ≡ found_below 64 (lacking s (cells_of ps) (cells_of ps)) → None ≡ entry_by s (cells_of ps)
  entry_none e = rw (was_none (object_by s (cells_of ps)) (ltb (object_by s (cells_of ps)) 64) (e ∙ object_is)) refl

  module _ (o row : ℕ) (counts : List ℕ) (first : Some o ≡ found_below 64 (lacking s (cells_of ps) (cells_of ps)))
      (counted : counts ≡ least_counts (lending s o)) (here : row ≡ get_or ps o 0) where
    is_first : (ltb (object_by s (cells_of ps)) 64 ≡ true) × (o ≡ object_by s (cells_of ps))
    is_first = was_some (object_by s (cells_of ps)) (ltb (object_by s (cells_of ps)) 64) o (first ∙ object_is)

    it_loses : loses_by s (cells_of ps) o ≡ true
    unfolding object_by
    it_loses =
        ap (loses_by s (cells_of ps)) is_first.1
        ∙ first_met_lem (loses_by s (cells_of ps)) 64 (ltb→lt (object_by s (cells_of ps)) 64 (holds is_first.0))

    pub entry_is : (a : ℕ) → Some a ≡ found_below places (λ a. bit row a && eqb (get_or counts a 0) unreached)
        → Some (record { object = o; area = a }) ≡ entry_by s (cells_of ps)
    entry_is a e =
        let area = was_some (area_by s (cells_of ps) o) (loses_by s (cells_of ps) o) a (e ∙ area_is o row counts counted here) in
        rw is_first.0 (ap Some (ap₂ (λ (o a : ℕ). record { object = o; area = a }) is_first.1 (area.1 ∙ ap (area_by s (cells_of ps)) is_first.1)))

    -- the object has a lost pair, so there is an area
    pub some_area : None ≡ found_below places (λ a. bit row a && eqb (get_or counts a 0) unreached) → ⊥
    some_area e =
        fails (was_none (area_by s (cells_of ps) o) (loses_by s (cells_of ps) o) (e ∙ area_is o row counts counted here)) (holds it_loses)
