-- The claims of specs/Claims.antt and the laws of specs/Laws.antt, each proved under its name. A table is known by its places (Pairs.antt), which ascend.
-- Assumes nothing.
use Prim.Native.Nat.{ℕ, zero, suc, ◌+◌, ◌*◌, ◌-◌, ◌/◌, ◌%◌, ◌≤◌, ◌<◌}
use mathlib.Core.Path.{◌≡◌, refl, sym, ◌∙◌}
use mathlib.Core.Bool.{Bool, true, false, ◌||◌, cond, or-true, or-false}
use mathlib.Core.List.{List}
use native.Mathlib.Numerals.{add-one}
use native.Mathlib.Omega.{arith}
use native.Mathlib.Decide.{dec_lt}
use borrow.Author.Tests.{lt-ltb, le-ltb}
use lib.Dec.{T, ltb, lt→ltb}
use lib.ListN.{length, get_or, get_or-eq_default}
use lib.Seq.{take-length}
use Rattle.state.specs.Cells.{width, pair, put}
use Rattle.state.specs.Below.{some_below}
use Rattle.state.proofs.Bools.{and_both, same_test, holds, fails}
use Rattle.state.proofs.Below.{each_at, each_by, some_none, some_more}
use Rattle.state.proofs.Ascending.{Ascends, ascends_by, at_most}
use Rattle.state.proofs.Laws.{put_same, put_other}
use Rattle.pair_tables.specs.Pairs.{pair_size, pair_count, first_byte, second_byte, pair_fits, pairs_fit, pair_ascends, pairs_ascend, is_pair_of, has_pair, with_some, at_place, table_of}
use Rattle.pair_tables.specs.Claims
use Rattle.pair_tables.specs.Claims.{WithoutOne}
use Rattle.pair_tables.specs.Laws
use Rattle.pair_tables.proofs.Pairs.{place_of, with_length, is_pair, is_pair_by, has_at, has_by, fits_at, earlier_at, earlier_by, TableTo, whole, below, unique}

-- ---- a table put into a relation
pub with_pairs_length : Laws.WithPairsLength
with_pairs_length t cells = with_length (pair_count t) t cells

pub with_pairs_reads : Laws.WithPairsReads
unfolding has_pair with_some
with_pairs_reads bound t cells fit long i j = first (pair_count t) (omega arith)
  where
    step : (n : ℕ) (b c d : Bool) → n < pair_count t → pair (with_some n t cells) i j ≡ (b || c) → is_pair_of t i j n ≡ d
        → pair (put (with_some n t cells) (first_byte t n) (second_byte t n) true) i j ≡ (b || (c || d))
    step n b c true h e q =
        let same = is_pair t i j n (holds q) in
        let range = fits_at bound t fit n h in
        rw (or-true c, or-true b, ← same.0, ← same.1)
        (put_same (with_some n t cells) bound (first_byte t n) (second_byte t n) true (with_length n t cells ∙ long) range.0 range.1)
    step n b c false h e q =
        rw (or-false c) (put_other (with_some n t cells) (first_byte t n) (second_byte t n) i j true (λ x y. fails q (is_pair_by t i j n (sym x) (sym y))) ∙ e)

    first : (n : ℕ) → n ≤ pair_count t → pair (with_some n t cells) i j ≡ (pair cells i j || some_below n (is_pair_of t i j))
    first zero h = rw (some_none (is_pair_of t i j)) (sym (or-false (pair cells i j)))
    first (suc n) h = rw (some_more (is_pair_of t i j) n) (step n (pair cells i j) (some_below n (is_pair_of t i j)) (is_pair_of t i j n) h (first n (omega arith)) refl)

-- ---- the table of a relation
-- a pair is at its place
at_place_lem : (related : ℕ → ℕ → Bool) (i j p : ℕ) → j < width → p ≡ i * width + j → at_place related p ≡ related i j
at_place_lem related i j p h e =
    let row : p / width ≡ i = omega arith in
    let column : p % width ≡ j = omega arith in
    rw (row, column) refl

-- the areas but one, counted: those above the missing one come one earlier
passing : (missing j : ℕ) → ℕ
passing missing j = cond (ltb j missing) j (j - 1)

passing_inside : (m j : ℕ) → m < width → j < width → (j ≡ m → ⊥) → passing m j < 31
unfolding passing
passing_inside m j hm hj ne = go (dec_lt j m)
  where
    go : Dec (j < m) → passing m j < 31
    go (yes h) = rw (lt-ltb j m h) (omega arith)
    go (no h) = rw (le-ltb j m (omega arith)) (omega arith)

passing_up : (m j k : ℕ) → j < k → (j ≡ m → ⊥) → (k ≡ m → ⊥) → passing m j < passing m k
unfolding passing
passing_up m j k h ne nf = go (dec_lt j m) (dec_lt k m)
  where
    go : Dec (j < m) → Dec (k < m) → passing m j < passing m k
    go (yes a) (yes b) = rw (lt-ltb j m a, lt-ltb k m b) h
    go (yes a) (no b) = rw (lt-ltb j m a, le-ltb k m (omega arith)) (omega arith)
    go (no a) (yes b) = absurd (omega arith)
    go (no a) (no b) = rw (le-ltb j m (omega arith), le-ltb k m (omega arith)) (omega arith)

-- a table with the relation's places
module _ (bound : ℕ) (related : ℕ → ℕ → Bool) (t : List ℕ) (o : TableTo related (bound * width) t) where
  first_below : (k : ℕ) → k < pair_count t → first_byte t k < bound
  first_below k h = let p : place_of t k < bound * width = o.ordered.inside k h in omega arith

  fits : T (pairs_fit bound t)
  unfolding pairs_fit
  fits = each_by (pair_fits bound t) (pair_count t) at
    where
      at : (k : ℕ) → k < pair_count t → T (pair_fits bound t k)
      at k h =
          and_both (ltb (first_byte t k) bound) (ltb (second_byte t k) width) (lt→ltb (first_byte t k) bound (first_below k h)) (lt→ltb (second_byte t k) width (o.areas k h))

  ascends : T (pairs_ascend t)
  unfolding pairs_ascend
  ascends = each_by (pair_ascends t) (pair_count t - 1) at
    where
      at : (k : ℕ) → k < pair_count t - 1 → T (pair_ascends t k)
      at k h =
          earlier_by (first_byte t k) (second_byte t k) (first_byte t (k + 1)) (second_byte t (k + 1))
          (o.areas (k + 1) (omega arith)) (o.ordered.ascends k (k + 1) (omega arith) (omega arith))

  met : (k : ℕ) → k < pair_count t → T (related (first_byte t k) (second_byte t k))
  met k h = rw (at_place_lem related (first_byte t k) (second_byte t k) (place_of t k) (o.areas k h) refl) at (o.ordered.met k h)

  pairs : (i j : ℕ) → i < bound → j < width → has_pair t i j ≡ related i j
  pairs i j hi hj = same_test (has_pair t i j) (related i j) held there
    where
      held : T (has_pair t i j) → T (related i j)
      held b = let r = has_at t i j b in rw (at_place_lem related i j (place_of t r.0) hj r.2) at (o.ordered.met r.0 r.1)

      there : T (related i j) → T (has_pair t i j)
      there b =
          let r = o.ordered.found (i * width + j) (omega arith) (rw (at_place_lem related i j (i * width + j) hj refl) b) in
          has_by t i j r.0 r.1 (o.areas r.0 r.1) hj r.2

  count : pair_count t ≤ bound * width
  count = at_most (place_of t) (pair_count t) (bound * width) o.ordered.ascends o.ordered.inside

  count_once : ((i j k : ℕ) → T (related i j) → T (related i k) → j ≡ k) → pair_count t ≤ bound
  count_once once = at_most (first_byte t) (pair_count t) bound up first_below
    where
      up : Ascends (first_byte t) (pair_count t)
      up k l h b = go (dec_lt (first_byte t k) (first_byte t l))
        where
          p : place_of t k < place_of t l
          p = o.ordered.ascends k l h b

          go : Dec (first_byte t k < first_byte t l) → first_byte t k < first_byte t l
          go (yes c) = c
          go (no c) =
              let a : second_byte t l < width = o.areas l b in
              let e : first_byte t k ≡ first_byte t l = omega (arith, p) in
              let f : second_byte t k ≡ second_byte t l = once (first_byte t l) (second_byte t k) (second_byte t l) (rw e at (met k (omega arith))) (met l b) in
              absurd (omega (arith, p))

  -- where each first number is without some area
  module _ (less : (i : ℕ) → i < bound → WithoutOne related i) where
    missing : (i : ℕ) → Dec (i < bound) → ℕ
    missing i (yes h) = (less i h).missing
    missing i (no h) = 0

    -- the place of pair k where each row has 31 places
    place : ℕ → ℕ
    place k = first_byte t k * 31 + passing (missing (first_byte t k) (dec_lt (first_byte t k) bound)) (second_byte t k)

    missing_inside : (i : ℕ) (d : Dec (i < bound)) → i < bound → missing i d < width
    unfolding missing
    missing_inside i (yes h) b = (less i h).inside
    missing_inside i (no h) b = absurd (h b)

    not_missing : (i j : ℕ) (d : Dec (i < bound)) → i < bound → T (related i j) → j ≡ missing i d → ⊥
    unfolding missing
    not_missing i j (yes h) b m e = fails (less i h).absent (rw e at m)
    not_missing i j (no h) b m e = absurd (h b)

    passing_below : (k : ℕ) → k < pair_count t → passing (missing (first_byte t k) (dec_lt (first_byte t k) bound)) (second_byte t k) < 31
    passing_below k h =
        let i = first_byte t k in
        let d = dec_lt i bound in
        passing_inside (missing i d) (second_byte t k) (missing_inside i d (first_below k h)) (o.areas k h)
        (not_missing i (second_byte t k) d (first_below k h) (met k h))

    count_less : pair_count t ≤ bound * 31
    unfolding place
    count_less = at_most place (pair_count t) (bound * 31) up (λ k h. omega (arith, first_below k h, passing_below k h))
      where
        up : Ascends place (pair_count t)
        up k l h b = go (dec_lt (first_byte t k) (first_byte t l))
          where
            p : place_of t k < place_of t l
            p = o.ordered.ascends k l h b

            go : Dec (first_byte t k < first_byte t l) → place k < place l
            go (yes c) = omega (arith, passing_below k (omega arith))
            go (no c) =
                let a : second_byte t l < width = o.areas l b in
                let e : first_byte t k ≡ first_byte t l = omega (arith, p) in
                let i = first_byte t l in
                let d = dec_lt i bound in
                let there : (j : ℕ) → T (related i j) → j ≡ missing i d → ⊥ = λ j. not_missing i j d (first_below l b) in
                let q = passing_up (missing i d) (second_byte t k) (second_byte t l) (omega (arith, p)) (there _ (rw e at (met k (omega arith)))) (there _ (met l b)) in
                rw e (omega (arith, q))

pub table_whole : Laws.TableWhole
table_whole bound related = whole related (bound * width)

pub table_fits : Laws.TableFits
table_fits bound related = fits bound related (table_of bound related) (below related (bound * width))

pub table_ascends : Laws.TableAscends
table_ascends bound related = ascends bound related (table_of bound related) (below related (bound * width))

pub table_holds : Claims.TableHolds
table_holds bound related = pairs bound related (table_of bound related) (below related (bound * width))

pub table_count : Claims.TableCount
table_count bound related = count bound related (table_of bound related) (below related (bound * width))

pub table_count_once : Claims.TableCountOnce
table_count_once bound related = count_once bound related (table_of bound related) (below related (bound * width))

pub table_count_less : Claims.TableCountLess
table_count_less bound related = count_less bound related (table_of bound related) (below related (bound * width))

pub pairs_are_bytes : Laws.PairsAreBytes
pairs_are_bytes bound t i small full fit = go (dec_lt i (length t))
  where
    k : ℕ
    k = i / pair_size

    byte : k < pair_count t → (j : ℕ) → j < pair_size → get_or t (k * pair_size + j) 0 < 256
    byte h zero b = let e : k * pair_size + 0 ≡ k * pair_size = omega arith in rw e (omega (arith, (fits_at bound t fit k h).0))
    byte h (suc zero) b = omega (arith, (fits_at bound t fit k h).1)
    byte h (suc (suc j)) b = absurd (omega arith)

    go : Dec (i < length t) → get_or t i 0 < 256
    go (yes h) =
        let here : k < pair_count t = omega arith in
        let there : k * pair_size + i % pair_size ≡ i = omega arith in
        rw there at (byte here (i % pair_size) (omega arith))
    go (no h) = rw (get_or-eq_default t 0 {n = i} (omega arith)) (omega arith)

-- ---- the single encoding of a relation
pub table_of_held : Claims.TableOfHeld
unfolding pairs_ascend
table_of_held bound t full fit up related same = sym (take-length t) ∙ rw full (unique related t (bound * width) (pair_count t) table)
  where
    area : (k : ℕ) → k < pair_count t → second_byte t k < width
    area k h = (fits_at bound t fit k h).1

    inside : (k : ℕ) → k < pair_count t → place_of t k < bound * width
    inside k h = let b = fits_at bound t fit k h in omega (arith, b.0, b.1)

    next : (k : ℕ) → suc k < pair_count t → place_of t k < place_of t (suc k)
    next k h =
        let b : T (pair_ascends t k) = each_at (pair_ascends t) (pair_count t - 1) up k (omega arith) in
        rw (← (add-one k)) (earlier_at (first_byte t k) (second_byte t k) (first_byte t (k + 1)) (second_byte t (k + 1)) (area k (omega arith)) b)

    held : (p : ℕ) → p < bound * width → at_place related p ≡ has_pair t (p / width) (p % width)
    held p h = same (p / width) (p % width) (omega arith) (omega arith)

    table : TableTo related (bound * width) t
    table =
        record {
          long = omega arith;
          areas = area;
          ordered = record {
            ascends = ascends_by (place_of t) (pair_count t) next;
            inside = inside;
            met = λ k h. rw (held (place_of t k) (inside k h)) (has_by t (place_of t k / width) (place_of t k % width) k h (area k h) (omega arith) (omega arith));
            found = λ p h b. let r = has_at t (p / width) (p % width) (rw (held p h) at b) in (r.0, r.1, omega (arith, r.2));
          };
        }
