-- The tests over lists of cells, and what they decide: what a relation's pairs name is listed (named_decided), and
-- there is exactly one pair (once_decided).
-- Assumes nothing.
use Prim.Native.Nat.{ℕ}
use mathlib.Core.Path.{◌≡◌, refl}
use mathlib.Core.Logic.{◌↔◌}
use mathlib.Core.Bool.{Bool, ◌&&◌, ◌||◌, not}
use borrow.Author.Tests.{eqb-true, eq-eqb}
use lib.Dec.{T, eqb}
use Rattle.state.specs.Cells.{Members, Pairs, member, pair}
use Rattle.state.specs.Walk.{each_pair}
use Rattle.state.proofs.Bools.{and_both, and_left, and_right, is_true, holds, implied, implies}
use Rattle.state.proofs.Laws.{some_pair_lem, each_pair_lem}
use Rattle.soundness.specs.Tests.{named, once}

pub named_decided : (pairs : Pairs) (firsts areas : Members) → T (named pairs firsts areas) ↔ ((i j : ℕ) → T (pair pairs i j) → T (member firsts i) × T (member areas j))
unfolding named
named_decided pairs firsts areas =
    let e = each_pair_lem pairs (λ i j. member firsts i && member areas j) in (
      λ t i j p. let b = e.0 t i j p in (and_left (member firsts i) (member areas j) b, and_right (member firsts i) (member areas j) b),
      λ f. e.1 (λ i j p. let r = f i j p in and_both (member firsts i) (member areas j) r.0 r.1),
    )

-- there is exactly one pair with the first number i, and a is its area
pub record Once (pairs : Pairs) (i : ℕ) : Type 0 where
  pub place : ℕ
  pub there : T (pair pairs i place)
  pub only : (b : ℕ) → T (pair pairs i b) → b ≡ place

equal : (m n : ℕ) → T (eqb m n) → m ≡ n
equal m n t = eqb-true m n (is_true (eqb m n) t)

same : (m n : ℕ) → m ≡ n → T (eqb m n)
same m n e = holds (eq-eqb m n e)

-- each pair with the first number i has the area a
only_decided : (pairs : Pairs) (i a : ℕ) → T (each_pair pairs (λ n b. not (eqb n i) || eqb b a)) ↔ ((b : ℕ) → T (pair pairs i b) → b ≡ a)
only_decided pairs i a =
    let e = each_pair_lem pairs (λ n b. not (eqb n i) || eqb b a) in (
      λ t b p. equal b a (implies (eqb i i) (eqb b a) (e.0 t i b p) (same i i refl)),
      λ f. e.1 (λ n b p. implied (eqb n i) (eqb b a) (λ q. same b a (f b (rw (equal n i q) at p)))),
    )

pub once_decided : (pairs : Pairs) (i : ℕ) → T (once pairs i) ↔ Once pairs i
unfolding once
once_decided pairs i = (λ t. let r = e.0 t in there r.0 r.1 r.2 r.3, back)
  where
    only : ℕ → Bool
    only a = each_pair pairs (λ n b. not (eqb n i) || eqb b a)

    e : T (once pairs i) ↔ ((m : ℕ) × (a : ℕ) × T (pair pairs m a) × T (eqb m i && only a))
    e = some_pair_lem pairs (λ m a. eqb m i && only a)

    there : (m a : ℕ) → T (pair pairs m a) → T (eqb m i && only a) → Once pairs i
    there m a p t =
        record { place = a; there = rw (equal m i (and_left (eqb m i) (only a) t)) at p; only = (only_decided pairs i a).0 (and_right (eqb m i) (only a) t) }

    back : Once pairs i → T (once pairs i)
    back o = e.1 (i, o.place, o.there, and_both (eqb i i) (only o.place) (same i i refl) ((only_decided pairs i o.place).1 o.only))
