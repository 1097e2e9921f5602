-- The tables that are still to come in a walk over the code's tables, and their bytes.
--     left                      the tables from table k on
--     six                       how many there are
--     one_more, none_left       one table more, and none left
-- Assumes nothing.
use Prim.Native.Nat.{ℕ, ◌+◌, ◌≤◌, ◌<◌}
use mathlib.Core.Path.{◌≡◌, sym, ap, ◌∙◌}
use mathlib.Core.List.{List, [], ◌∷◌, map}
use native.Mathlib.Numerals.{add-one}
use native.Mathlib.Omega.{arith}
use lib.ListN.{length, get_or, drop, length-map, drop_of_length-le}
use lib.Seq.{drop-cons}
use Rattle.site_format.specs.Format.{Content, tables, held}
use Rattle.site_format.specs.declared.Table.{Table}

abbrev pub left : List Table → ℕ → List Content
left ts k = map held (drop k ts)

module _ (ts : List Table) (e : map held ts ≡ tables) where
  pub six : length ts ≡ 6
  six = sym (length-map ts held) ∙ ap length e

  pub one_more : (k : ℕ) (t : Table) → k < 6 → left ts k ≡ held (get_or ts k t) ∷ left ts (k + 1)
  one_more k t h =
      let here : k < length ts = omega (arith, six) in
      rw (add-one k) (ap (map held) (drop-cons ts k t here))

  pub none_left : (k : ℕ) → 6 ≤ k → left ts k ≡ []
  none_left k h = let past : length ts ≤ k = omega (arith, six) in ap (map held) (drop_of_length-le ts past)
