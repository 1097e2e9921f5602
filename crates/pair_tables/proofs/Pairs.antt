-- The bytes of pairs. The place of a pair (i, j) is i * 32 + j: what ascends by first number and then second ascends by place.
--     with_more, with_length         one pair more put into a relation
--     is_pair, is_pair_by            pair k is (i, j)
--     has_at, has_by                 a table holds the pair of a place
--     earlier_at, earlier_by         the order of two pairs is that of their places
--     fits_at                        the range of each number
--     Table, whole, below            the table of a relation has the relation's places, in ascending order
--     unique                         and is the one table that has them
-- Assumes nothing.
use Prim.Native.Nat.{ℕ, zero, suc, ◌+◌, ◌*◌, ◌/◌, ◌%◌, ◌≤◌, ◌<◌}
use mathlib.Core.Path.{◌≡◌, refl, sym, ap₂, ◌∙◌}
use mathlib.Core.Logic.{◌⊎◌, inl, inr}
use mathlib.Core.Bool.{Bool, true, false, ◌&&◌, cond}
use mathlib.Core.List.{List, [], ◌∷◌, ◌++◌, append-nil}
use native.Mathlib.Numerals.{add-one}
use native.Mathlib.Omega.{arith}
use native.Mathlib.Decide.{dec_lt}
use lib.Dec.{T, eqb, ltb, ltb→lt, lt→ltb, eqb→eq, eqb_refl}
use lib.ListN.{length, get_or, take, length-append, get_or-append}
use lib.Seq.{get_or_at, get_or-append-add, take-add, drop-cons}
use Rattle.state.specs.Cells.{Pairs, width, put}
use Rattle.state.proofs.Bools.{or_left, or_right, or_cases, and_both, and_left, and_right, holds}
use Rattle.state.proofs.Below.{each_at, some_at, some_by}
use Rattle.state.proofs.Ascending.{upto, at_most}
use Rattle.state.proofs.Laws.{put_length}
use Rattle.pair_tables.specs.Pairs.{pair_size, pair_count, first_byte, second_byte, pair_fits, pairs_fit, earlier, is_pair_of, has_pair, with_some, at_place, table_below}
use Rattle.pair_tables.specs.Pairs.{Whole}
use Rattle.pair_tables.proofs.Order.{Ordered, none, pass, more, back, last, front, moved}

abbrev pub place_of : List ℕ → ℕ → ℕ
place_of t k = first_byte t k * width + second_byte t k

-- ---- one pair more put into a relation
pub with_more : (n : ℕ) (t : List ℕ) (cells old : Pairs) → cells ≡ with_some n t old → put cells (first_byte t n) (second_byte t n) true ≡ with_some (n + 1) t old
unfolding with_some
with_more n t cells old e = rw (add-one n, e) refl

pub with_length : (n : ℕ) (t : List ℕ) (cells : Pairs) → length (with_some n t cells) ≡ length cells
unfolding with_some
with_length zero t cells = refl
with_length (suc n) t cells = put_length (with_some n t cells) (first_byte t n) (second_byte t n) true ∙ with_length n t cells

-- ---- the tests of a pair
pub is_pair : (t : List ℕ) (i j k : ℕ) → T (is_pair_of t i j k) → (first_byte t k ≡ i) × (second_byte t k ≡ j)
is_pair t i j k b =
    let first = eqb (first_byte t k) i in
    let second = eqb (second_byte t k) j in
    (eqb→eq (first_byte t k) i (and_left first second b), eqb→eq (second_byte t k) j (and_right first second b))

pub is_pair_by : (t : List ℕ) (i j k : ℕ) → first_byte t k ≡ i → second_byte t k ≡ j → T (is_pair_of t i j k)
is_pair_by t i j k e f = and_both (eqb (first_byte t k) i) (eqb (second_byte t k) j) (rw e (eqb_refl i)) (rw f (eqb_refl j))

pub has_at : (t : List ℕ) (i j : ℕ) → T (has_pair t i j) → (k : ℕ) × (k < pair_count t) × (place_of t k ≡ i * width + j)
unfolding has_pair
has_at t i j b =
    let s = some_at (is_pair_of t i j) (pair_count t) b in
    let e = is_pair t i j s.place s.met in
    (s.place, s.below, ap₂ (λ (m n : ℕ). m * width + n) e.0 e.1)

pub has_by : (t : List ℕ) (i j k : ℕ) → k < pair_count t → second_byte t k < width → j < width → place_of t k ≡ i * width + j → T (has_pair t i j)
unfolding has_pair
has_by t i j k h b c e = some_by (is_pair_of t i j) (pair_count t) k h (is_pair_by t i j k (omega arith) (omega arith))

pub fits_at : (bound : ℕ) (t : List ℕ) → T (pairs_fit bound t) → (k : ℕ) → k < pair_count t → (first_byte t k < bound) × (second_byte t k < width)
unfolding pairs_fit
fits_at bound t fits k h =
    let first = ltb (first_byte t k) bound in
    let second = ltb (second_byte t k) width in
    let b : T (pair_fits bound t k) = each_at (pair_fits bound t) (pair_count t) fits k h in
    (ltb→lt (first_byte t k) bound (and_left first second b), ltb→lt (second_byte t k) width (and_right first second b))

pub earlier_at : (i j m n : ℕ) → j < width → T (earlier i j m n) → i * width + j < m * width + n
earlier_at i j m n h b = go (or_cases (ltb i m) (eqb i m && ltb j n) b)
  where
    go : T (ltb i m) ⊎ T (eqb i m && ltb j n) → i * width + j < m * width + n
    go (inl c) = let d : i < m = ltb→lt i m c in omega arith
    go (inr c) =
        let e : i ≡ m = eqb→eq i m (and_left (eqb i m) (ltb j n) c) in
        let d : j < n = ltb→lt j n (and_right (eqb i m) (ltb j n) c) in
        omega arith

pub earlier_by : (i j m n : ℕ) → n < width → i * width + j < m * width + n → T (earlier i j m n)
earlier_by i j m n h b = go (dec_lt i m)
  where
    go : Dec (i < m) → T (earlier i j m n)
    go (yes c) = or_left (ltb i m) (eqb i m && ltb j n) (lt→ltb i m c)
    go (no c) =
        let e : i ≡ m = omega arith in
        or_right (ltb i m) (eqb i m && ltb j n) (and_both (eqb i m) (ltb j n) (rw e (eqb_refl m)) (lt→ltb j n (omega arith)))

-- ---- tables
-- the first m pairs of the table are those of the places below n that meet the test
pub record Table (t : List ℕ) (f : ℕ → Bool) (m n : ℕ) : Type 0 where
  pub long : m * pair_size ≤ length t
  pub areas : (k : ℕ) → k < m → second_byte t k < width
  pub ordered : Ordered (place_of t) f m n

-- the bytes of the pair at a place
abbrev bytes : ℕ → List ℕ
bytes n = n / width ∷ n % width ∷ []

-- a table with one pair more
module _ (t : List ℕ) (f : ℕ → Bool) (m n : ℕ) (e : length t ≡ m * pair_size) where
  kept : (i : ℕ) → i < m * pair_size → get_or (t ++ bytes n) i 0 ≡ get_or t i 0
  kept i h = get_or-append t (bytes n) 0 i (rw e h)

  same : (k : ℕ) → k < m → place_of (t ++ bytes n) k ≡ place_of t k
  same k h = rw (kept (k * pair_size) (omega arith), kept (k * pair_size + 1) (omega arith)) refl

  first : first_byte (t ++ bytes n) m ≡ n / width
  first = get_or_at t (n / width) (n % width ∷ []) 0 (m * pair_size) e

  second : second_byte (t ++ bytes n) m ≡ n % width
  second = rw (← e) (get_or-append-add t (bytes n) 1 0)

  table_more : T (f n) → Table t f m n → Table (t ++ bytes n) f (suc m) (suc n)
  table_more b o =
      record {
        long = rw (length-append t (bytes n)) (omega arith);
        areas = upto (λ k. second_byte (t ++ bytes n) k < width) m (rw second (omega arith)) (λ k h. rw (kept (k * pair_size + 1) (omega arith)) (o.areas k h));
        ordered = more (place_of (t ++ bytes n)) f m n b (rw (first, second) (omega arith)) (moved (place_of t) (place_of (t ++ bytes n)) f m n same o.ordered);
      }

module _ (related : ℕ → ℕ → Bool) where
  -- the whole table is that of the first n places
  abbrev pub TableTo : ℕ → List ℕ → Type 0
  TableTo n t = Table t (at_place related) (pair_count t) n

  pub whole : (n : ℕ) → Whole (table_below n related)
  unfolding table_below
  whole zero = refl
  whole (suc n) = go (at_place related n) (whole n)
    where
      go : (b : Bool) → Whole (table_below n related) → Whole (table_below n related ++ cond b (bytes n) [])
      go true e = rw (length-append (table_below n related) (bytes n)) (omega arith)
      go false e = rw (append-nil (table_below n related)) e

  pub below : (n : ℕ) → TableTo n (table_below n related)
  unfolding table_below
  below zero = record { long = omega arith; areas = λ k h. absurd (omega arith); ordered = none _ _ }
  below (suc n) = go (table_below n related) (whole n) (at_place related n) refl (below n)
    where
      go : (t : List ℕ) → Whole t → (b : Bool) → at_place related n ≡ b → TableTo n t → TableTo (suc n) (t ++ cond b (bytes n) [])
      go t e true q o =
          let one : pair_count (t ++ bytes n) ≡ suc (pair_count t) = rw (length-append t (bytes n)) (omega arith) in
          rw one (table_more t (at_place related) (pair_count t) n e (holds q) o)
      go t e false q o = rw (append-nil t) (record { long = o.long; areas = o.areas; ordered = pass _ _ _ n q o.ordered })

-- the first k + 1 pairs
take_pair : (t : List ℕ) (k : ℕ) → suc k * pair_size ≤ length t → take (suc k * pair_size) t ≡ take (k * pair_size) t ++ (first_byte t k ∷ second_byte t k ∷ [])
take_pair t k h =
    let e : suc k * pair_size ≡ k * pair_size + 2 = omega arith in
    rw (e, take-add (k * pair_size) 2 t, drop-cons t (k * pair_size) 0 (omega arith), drop-cons t (suc (k * pair_size)) 0 (omega arith), add-one (k * pair_size)) refl

pub unique : (related : ℕ → ℕ → Bool) (t : List ℕ) (n m : ℕ) → Table t (at_place related) m n → take (m * pair_size) t ≡ table_below n related
unfolding table_below
unique related t zero m o = let e : m ≡ 0 = omega (arith, at_most (place_of t) m 0 o.ordered.ascends o.ordered.inside) in rw e refl
unique related t (suc n) m o = go m (at_place related n) refl (unique related t n) o
  where
    go : (m : ℕ) (b : Bool) → at_place related n ≡ b → ((l : ℕ) → Table t (at_place related) l n → take (l * pair_size) t ≡ table_below n related)
        → Table t (at_place related) m (suc n) → take (m * pair_size) t ≡ table_below n related ++ cond b (bytes n) []
    go m false q before o =
        before m (record { long = o.long; areas = o.areas; ordered = back _ _ m n q o.ordered }) ∙ sym (append-nil (table_below n related))
    go zero true q before o = absurd (omega (arith, (o.ordered.found n (omega arith) (holds q)).1))
    go (suc m) true q before o =
        let p : place_of t m ≡ n = last (place_of t) (at_place related) m n (holds q) o.ordered in
        let h : second_byte t m < width = o.areas m (omega arith) in
        let i : first_byte t m ≡ n / width = omega arith in
        let j : second_byte t m ≡ n % width = omega arith in
        let rest : Table t (at_place related) m n = record { long = omega (arith, o.long); areas = λ k b. o.areas k (omega arith); ordered = front _ _ m n p o.ordered } in
        take_pair t m o.long ∙ rw (before m rest, i, j) refl
