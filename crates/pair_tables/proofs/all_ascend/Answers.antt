-- `pair_tables::all_ascend` meets its contract: two bytes as one number, the first as the high byte, are in the order
-- of the pairs. The loop's invariant: `last` is the number of the pair that was taken last, and `ascends` says whether
-- each pair before that one comes before the next.
-- Assumes nothing.
use Prim.Native.Nat.{ℕ, ◌+◌, ◌-◌, ◌*◌, ◌<◌}
use mathlib.Core.Path.{◌≡◌, refl, sym, ap, ap₂, ◌∙◌}
use mathlib.Core.Bool.{Bool, true, ◌&&◌}
use mathlib.Core.List.{List, [], ◌∷◌}
use native.Mathlib.Omega.{arith}
use native.Mathlib.Decide.{dec_lt, ℕ_discrete}
use borrow.Author.Tests.{lt-ltb, le-ltb, eq-eqb, ne_eqb}
use lib.Dec.{ltb}
use lib.ListN.{length, get_or, length-append}
use Rattle.state.specs.Below.{each_below}
use Rattle.state.proofs.Below.{each_none, each_step, each_end}
use Rattle.pair_tables.specs.Pairs.{pair_count, first_byte, second_byte, earlier, pair_ascends, pairs_ascend}
use Rattle.pair_tables.specs.Numbers.{number_at}
use Rattle.pair_tables.proofs.Walk.{begun, ended, taken}
use Rattle.pair_tables.proofs.all_ascend.Invariants.{Read}
use Rattle.pair_tables.proofs.all_ascend.Goals as goal

-- (i, j) comes before (m, n) where its number is below
by_number : (i j m n : ℕ) → j < 256 → n < 256 → ltb (i * 256 + j) (m * 256 + n) ≡ earlier i j m n
by_number i j m n hj hn = go (dec_lt i m) (ℕ_discrete i m) (dec_lt j n)
  where
    go : Dec (i < m) → Dec (i ≡ m) → Dec (j < n) → ltb (i * 256 + j) (m * 256 + n) ≡ earlier i j m n
    go (yes h) d e = rw (lt-ltb i m h, lt-ltb (i * 256 + j) (m * 256 + n) (omega arith)) refl
    go (no h) (yes q) (yes e) =
        rw (le-ltb i m (omega arith), eq-eqb i m q, lt-ltb j n e, lt-ltb (i * 256 + j) (m * 256 + n) (omega arith)) refl
    go (no h) (yes q) (no e) =
        rw (le-ltb i m (omega arith), eq-eqb i m q, le-ltb j n (omega arith), le-ltb (i * 256 + j) (m * 256 + n) (omega arith)) refl
    go (no h) (no q) e = rw (le-ltb i m (omega arith), ne_eqb i m q, le-ltb (i * 256 + j) (m * 256 + n) (omega arith)) refl

-- one pair more is read
one_more : (t : List ℕ) (k last next : ℕ) (ascends : Bool) → ((i : ℕ) → get_or t i 0 < 256) → Read t k last ascends → next ≡ number_at t (k + 1)
    → Read t (k + 1) next (ascends && ltb last next)
one_more t k last next ascends bytes r e =
    let before : ltb last next ≡ pair_ascends t k =
    ap₂ ltb r.number e ∙ by_number (first_byte t k) (second_byte t k) (first_byte t (k + 1)) (second_byte t (k + 1)) (bytes _) (bytes _) in
    record { number = e; so_far = each_step _ _ _ _ r.so_far before }

-- where there is no pair
none_ascend : (t : List ℕ) → length t < 2 → true ≡ pairs_ascend t
unfolding pairs_ascend
none_ascend t h = let none : pair_count t - 1 ≡ 0 = omega arith in sym (each_none _) ∙ ap (λ (m : ℕ). each_below m (pair_ascends t)) (sym none)

-- the number of a pair that is taken
number : (t pair : List ℕ) (k : ℕ) {n : ℕ} → n ≡ number_at pair 0 → get_or pair 0 0 ≡ first_byte t k → get_or pair 1 0 ≡ second_byte t k → n ≡ number_at t k
number t pair k e f s = e ∙ ap₂ (λ (x y : ℕ). x * 256 + y) f s

pub returns-in_default : goal.returns-in_default
returns-in_default c =
    let pairs = c.chunks_exact-pairs.ensures in
    none_ascend _ (omega (arith, c.in_default.ensures.steps.1.0, pairs.size, ap length pairs.rest))

pub loop-pair-init : goal.loop-pair-init
loop-pair-init c =
    let table = c.args.table.now in
    let step = c.in-Some.ensures.steps in
    let pair = taken table _ c.in-Some.first.now _ _ _ 0 (begun (cc) (cc)) step.0 step.1.0 step.1.1 in
    (rw c.into_iter-pair-iterator.ensures.into_iter_gives pair.left, record { number = number table c.in-Some.first.now 0 c.number_of-last.ensures pair.first pair.second; so_far = sym (each_none _) })

pub loop-pair-preserved : goal.loop-pair-preserved
loop-pair-preserved c =
    let table = c.args.table.now in
    let top = c.loop-pair in
    let step = c.in-Some-pair.ensures.steps in
    let pair = taken table _ c.in-Some-pair.pair.now _ _ _ _ top.invariant.0 step.0 step.1.0 step.1.1 in
    rw (length-append top.yielded (c.in-Some-pair.pair ∷ []))
    (pair.left, one_more table _ _ _ _ (λ i. (c.type_inv.table i).fits) top.invariant.1 (number table c.in-Some-pair.pair.now (length top.yielded + 1) c.number_of-next.ensures pair.first pair.second))

pub returns : goal.returns
unfolding pairs_ascend
returns c =
    let top = c.loop-pair in
    let all : length top.yielded + 1 ≡ pair_count c.args.table.now = ended top.invariant.0 c.in-None.ensures.steps.1.0 in
    each_end _ _ _ _ (omega arith) top.invariant.1.so_far
