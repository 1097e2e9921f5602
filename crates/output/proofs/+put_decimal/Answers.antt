-- `output::put_decimal` meets its contract: the two rules of decimal numbers.
-- Assumes nothing.
use Prim.Native.Nat.{ℕ, ◌/◌, ◌%◌, ◌^◌, ◌≤◌, ◌<◌}
use mathlib.Core.List.{List, [], ◌∷◌}
use lib.ListN.{length}
use Rattle.output.specs.Decimal.{digit, decimal}
use Rattle.output.proofs.Decimal.{decimal_one, decimal_more}
use Rattle.output.proofs.Placing.{Placed, placed_then}
use Rattle.output.proofs.+put_decimal.Goals as goal

-- a number of 10 or more is its tenth with its last digit behind
both : (n at : ℕ) → 10 ≤ n → (b : List ℕ) → length b < 2 ^ 64 → (m : ℕ) (d : List ℕ) (end : ℕ) (e : List ℕ)
    → Placed (decimal (n / 10)) at b m d → Placed (digit (n % 10) ∷ []) m d end e → Placed (decimal n) at b end e
both n at more b known m d end e p q =
    rw (decimal_more n more) (placed_then (decimal (n / 10)) (digit (n % 10) ∷ []) at b known m d end e p q)

pub returns-then-n-lt10 : goal.returns-then-n-lt10
returns-then-n-lt10 t c =
    rw (decimal_one c.args.n c.if-n-lt10.true) record { place = c.put.ensures.place; buffer = c.put.ensures.buffer }

pub returns : goal.returns
returns t c =
    let tenth = c.put_decimal-end.ensures in
    let last = c.put-2.ensures in
    let p = both _ _ c.if-n-lt10.false _ c.well_formed.0.0 _ _ _ _ (tenth.place, tenth.buffer) (last.place, last.buffer) in
    record { place = p.0; buffer = p.1 }
