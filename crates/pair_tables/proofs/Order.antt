-- The numbers below n that meet a test, in ascending order: they are `place 0`, `place 1` .. `place (m - 1)`.
--     none, pass, more           no number, one more that does not meet the test, and one more that does
--     back, last, front          the other way: without one that does not meet it, and the last that does, and those before the last
--     moved                      another sequence with the same numbers
-- Assumes nothing.
use Prim.Native.Nat.{ℕ, suc, ◌<◌}
use mathlib.Core.Path.{◌≡◌, ◌∙◌}
use mathlib.Core.Bool.{Bool, false}
use native.Mathlib.Omega.{arith}
use lib.Dec.{T}
use Rattle.state.proofs.Bools.{fails}
use Rattle.state.proofs.Ascending.{upto, Ascends}

-- ---- the ascending numbers that meet a test
pub record Ordered (place : ℕ → ℕ) (f : ℕ → Bool) (m n : ℕ) : Type 0 where
  pub ascends : Ascends place m
  pub inside : (k : ℕ) → k < m → place k < n
  pub met : (k : ℕ) → k < m → T (f (place k))
  pub found : (p : ℕ) → p < n → T (f p) → (k : ℕ) × (k < m) × (place k ≡ p)

module _ (place : ℕ → ℕ) (f : ℕ → Bool) where
  pub none : Ordered place f 0 0
  none =
      record {
        ascends = λ k l h b. absurd (omega arith);
        inside = λ k h. absurd (omega arith);
        met = λ k h. absurd (omega arith);
        found = λ p h t. absurd (omega arith);
      }

  pub pass : (m n : ℕ) → f n ≡ false → Ordered place f m n → Ordered place f m (suc n)
  pass m n e o =
      record {
        ascends = o.ascends;
        inside = λ k h. let b : place k < n = o.inside k h in omega arith;
        met = o.met;
        found = upto (λ p. T (f p) → (k : ℕ) × (k < m) × (place k ≡ p)) n (λ t. absurd (fails e t)) o.found;
      }

  pub back : (m n : ℕ) → f n ≡ false → Ordered place f m (suc n) → Ordered place f m n
  back m n e o =
      record {
        ascends = o.ascends;
        inside = λ k h. upto (λ p. T (f p) → p < n) n (λ t. absurd (fails e t)) (λ p b t. b) (place k) (o.inside k h) (o.met k h);
        met = o.met;
        found = λ p h. o.found p (omega arith);
      }

  pub more : (m n : ℕ) → T (f n) → place m ≡ n → Ordered place f m n → Ordered place f (suc m) (suc n)
  more m n t e o =
      record {
        ascends = λ k l h b. upto (λ i. k < i → place k < place i) m (λ q. rw e (o.inside k q)) (λ i c q. o.ascends k i q c) l b h;
        inside = upto (λ k. place k < suc n) m (omega arith) (λ k h. let b : place k < n = o.inside k h in omega arith);
        met = upto (λ k. T (f (place k))) m (rw e t) o.met;
        found = upto (λ p. T (f p) → (k : ℕ) × (k < suc m) × (place k ≡ p)) n (λ s. (m, omega arith, e)) before;
      }
    where
      before : (p : ℕ) → p < n → T (f p) → (k : ℕ) × (k < suc m) × (place k ≡ p)
      before p h s = let r = o.found p h s in (r.0, omega (arith, r.1), r.2)

  pub last : (m n : ℕ) → T (f n) → Ordered place f (suc m) (suc n) → place m ≡ n
  last m n t o = let r = o.found n (omega arith) t in upto (λ k. place k ≡ n → place m ≡ n) m (λ e. e) earlier r.0 r.1 r.2
    where
      earlier : (k : ℕ) → k < m → place k ≡ n → place m ≡ n
      earlier k h e =
          let a : place k < place m = o.ascends k m h (omega arith) in
          let b : place m < suc n = o.inside m (omega arith) in
          absurd (omega arith)

  pub front : (m n : ℕ) → place m ≡ n → Ordered place f (suc m) (suc n) → Ordered place f m n
  front m n e o =
      record {
        ascends = λ k l h b. o.ascends k l h (omega arith);
        inside = λ k h. rw (← e) (o.ascends k m h (omega arith));
        met = λ k h. o.met k (omega arith);
        found = λ p h t. let r = o.found p (omega arith) t in (r.0, before p r.0 h r.2 r.1, r.2);
      }
    where
      before : (p k : ℕ) → p < n → place k ≡ p → k < suc m → k < m
      before p k h q b = upto (λ i. place i ≡ p → i < m) m (λ r. absurd (omega arith)) (λ i c r. c) k b q

pub moved : (place new : ℕ → ℕ) (f : ℕ → Bool) (m n : ℕ) → ((k : ℕ) → k < m → new k ≡ place k) → Ordered place f m n → Ordered new f m n
moved place new f m n same o =
    record {
      ascends = λ k l h b. rw (same k (omega arith), same l b) (o.ascends k l h b);
      inside = λ k h. rw (same k h) (o.inside k h);
      met = λ k h. rw (same k h) (o.met k h);
      found = λ p h t. let r = o.found p h t in (r.0, r.1, same r.0 r.1 ∙ r.2);
    }
