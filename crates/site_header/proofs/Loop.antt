-- A walk over the code's tables: what holds so far, and what is asked of the tables that are left, decide.
--     each_held                     a test of each
--     left_from                     the tables that are left
--     one_more, none_left           one table more, and none left
--     placed_more, placed_none      the same of whether they are placed
--     six                           how many there are
-- Assumes nothing.
use Prim.Native.Nat.{ℕ, ◌+◌, ◌≤◌, ◌<◌}
use mathlib.Core.Path.{◌≡◌, refl, sym, ap, ap₂, ◌∙◌}
use mathlib.Core.Bool.{Bool, true, ◌&&◌, and_assoc}
use mathlib.Core.List.{List, [], ◌∷◌, map}
use native.Mathlib.Numerals.{add-one}
use borrow.Author.Tests.{eq-eqb}
use lib.Dec.{eqb}
use lib.ListN.{length, get_or, drop, length-map, drop_of_length-le}
use lib.Seq.{drop-cons}
use Rattle.std.specs.List.{list_all}
use Rattle.site_format.specs.Format.{Content, tables, each_table, held, offset_in, size_in}
use Rattle.site_format.specs.declared.Table.{Table}
use Rattle.site_header.specs.Header.{placed_from}

pub each_held : (ts : List Table) (test : Content → Bool) → list_all (λ t. test (held t)) ts ≡ each_table (map held ts) test
each_held [] test = refl
each_held (t ∷ ts) test = ap (λ (b : Bool). test (held t) && b) (each_held ts test)

abbrev pub left_from : List Table → ℕ → List Content
left_from ts k = map held (drop k ts)

module _ (ts : List Table) (k : ℕ) (t : Table) (fits : Bool) (asked : List Content → Bool) where
  pub one_more : (new rest : Bool) {whole : Bool} → k < length ts → asked (held (get_or ts k t) ∷ left_from ts (k + 1)) ≡ new && rest
      → fits && asked (left_from ts k) ≡ whole → (fits && new) && rest ≡ whole
  one_more new rest h e inv =
      let next : left_from ts k ≡ held (get_or ts k t) ∷ left_from ts (k + 1) = rw (add-one k) (ap (map held) (drop-cons ts k t h)) in
      and_assoc fits new rest ∙ ap (λ (b : Bool). fits && b) (sym (ap asked next ∙ e)) ∙ inv

module _ (ts : List Table) (k : ℕ) (fits : Bool) (asked : List Content → Bool) where
  pub none_left : {whole : Bool} → length ts ≤ k → fits && asked (left_from ts k) ≡ whole → fits && asked [] ≡ whole
  none_left h inv = sym (ap (λ (cs : List Content). fits && asked cs) (ap (map held) (drop_of_length-le ts h))) ∙ inv

module _ (file : List ℕ) (ts : List Table) (k : ℕ) (at : ℕ) where
  abbrev placed : List Content → Bool
  placed cs = placed_from file cs at

  pub placed_more : (size : ℕ) (t : Table) → k < length ts → offset_in file (held (get_or ts k t)) ≡ at → size ≡ size_in file (held (get_or ts k t))
      → placed_from file (left_from ts k) at ≡ placed_from file (left_from ts (k + 1)) (at + size)
  placed_more size t h e s =
      let here = ap₂ (λ (b : Bool) (n : ℕ). b && placed_from file (left_from ts (k + 1)) (at + n)) (eq-eqb _ _ e) (sym s) in
      sym (one_more ts k t true placed true (placed_from file (left_from ts (k + 1)) (at + size)) h here refl)

  pub placed_none : length ts ≤ k → placed_from file (left_from ts k) at ≡ eqb at (length file)
  placed_none h = sym (none_left ts k true placed h refl)

pub six : (ts : List Table) → map held ts ≡ tables → length ts ≡ 6
six ts e = sym (length-map ts held) ∙ ap length e
