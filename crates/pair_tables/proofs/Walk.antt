-- A walk over a table, pair by pair.
--     Left                 what is left behind the first k pairs
--     begun, ended         before the first pair, and where none is left
--     Taken, taken         a pair that is taken off the front
-- Assumes nothing.
use Prim.Native.Nat.{ℕ, ◌+◌, ◌*◌, ◌≤◌, ◌<◌}
use mathlib.Core.Path.{◌≡◌, sym, ap, ◌∙◌}
use mathlib.Core.List.{List, ◌++◌}
use native.Mathlib.Omega.{arith}
use lib.ListN.{length, get_or, drop, get_or-append, length-append, length-drop}
use lib.Seq.{get_or-drop, drop-drop, drop_at}
use Rattle.pair_tables.specs.Pairs.{pair_count, first_byte, second_byte}

pub record Left (t rest : List ℕ) (size k : ℕ) : Type 0 where
  pub sized : size ≡ 2
  pub rest_is : rest ≡ drop (k * 2) t
  pub inside : k * 2 ≤ length t

pub begun : {t rest : List ℕ} {size : ℕ} → rest ≡ t → size ≡ 2 → Left t rest size 0
begun e s = record { sized = s; rest_is = e; inside = omega arith }

pub ended : {t rest : List ℕ} {size k : ℕ} → Left t rest size k → length rest < size → k ≡ pair_count t
ended {t} {rest} {size} {k} l h = omega (arith, l.sized, l.inside, ap length l.rest_is, length-drop (k * 2) t)

pub record Taken (t pair rest : List ℕ) (size k : ℕ) : Type 0 where
  pub first : get_or pair 0 0 ≡ first_byte t k
  pub second : get_or pair 1 0 ≡ second_byte t k
  pub left : Left t rest size (k + 1)

pub taken : (t rest pair after : List ℕ) (size next k : ℕ) → Left t rest size k → next ≡ size → rest ≡ pair ++ after → length pair ≡ size → Taken t pair after next k
taken t rest pair after size next k l s e h =
    record {
      first = byte 0 (omega arith) ∙ ap (λ (n : ℕ). get_or t n 0) (omega arith);
      second = byte 1 (omega arith);
      left = record { sized = s ∙ l.sized; rest_is = behind; inside = omega (arith, l.inside, long) };
    }
  where
    two : length pair ≡ 2
    two = h ∙ l.sized

    same : pair ++ after ≡ drop (k * 2) t
    same = sym e ∙ l.rest_is

    long : k * 2 + 2 ≤ length t
    long = omega (arith, two, ap length same, length-append pair after, length-drop (k * 2) t)

    byte : (j : ℕ) → j < 2 → get_or pair j 0 ≡ get_or t (k * 2 + j) 0
    byte j b = sym (get_or-append pair after 0 j (omega arith)) ∙ ap (λ (l : List ℕ). get_or l j 0) same ∙ get_or-drop (k * 2) t j 0

    behind : after ≡ drop ((k + 1) * 2) t
    behind = sym (drop_at pair after 2 two) ∙ ap (drop 2) same ∙ drop-drop 2 (k * 2) t ∙ ap (λ (n : ℕ). drop n t) (omega arith)
