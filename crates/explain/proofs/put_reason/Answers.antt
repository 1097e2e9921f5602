-- `explain::put_reason` meets its contract: a chain is found exactly where there is access, and else the counts are written.
-- Assumes nothing.
use Prim.Native.Nat.{ℕ, suc, ◌<◌}
use mathlib.Core.Path.{◌≡◌, refl, sym, ap, ap₂, ◌∙◌}
use mathlib.Core.List.{List, []}
use native.Mathlib.Omega.{arith}
use lib.ListN.{length}
use Rattle.std.proofs.Common.{Some, None}
use Rattle.access.specs.Lending.{Lending}
use Rattle.access.specs.Answer.{Answer, answer, least_counts}
use Rattle.access.specs.Claims.{is_steps}
use Rattle.access.proofs.Laws.{access_is_steps, counts_length}
use Rattle.chains.specs.First.{first_chain}
use Rattle.chains.proofs.Laws.{first_length, nine_at_most, none_exactly}
use Rattle.output.specs.Buffer.{laid, place_behind}
use Rattle.output.proofs.Placing.{place_counts, placed_none}
use Rattle.reasons.specs.Explanation.{Explanation, ByChain, ByCounts, bytes_for, which}
use Rattle.explain.proofs.put_reason.Goals as goal

-- what is promised, where the answer is x
abbrev Promised : Lending → (a : ℕ) (x : Answer) (before : List ℕ) (r : Explanation) (after : List ℕ) → Type 0
Promised l a x before r after = (r ≡ which x (length (bytes_for l a x))) × (after ≡ laid (bytes_for l a x) 0 before)

module _ (l : Lending) (a : ℕ) (before : List ℕ) (n : ℕ) (after : List ℕ) (e : n ≡ length (first_chain l a)) (w : after ≡ laid (first_chain l a) 0 before) where
  -- a chain has few bytes
  few : n < 256
  few = omega (arith, nine_at_most l a)

  -- without access there is no chain
  no_chain : answer l a ≡ None → first_chain l a ≡ []
  no_chain q = (none_exactly l a).1 (access_is_steps l a ∙ ap is_steps q)

  by_chain : (n ≡ 0 → ⊥) → Promised l a (answer l a) before (ByChain n) after
  by_chain some = go (answer l a) refl
    where
      go : (x : Answer) → answer l a ≡ x → Promised l a x before (ByChain n) after
      go (Some k) q = (ap ByChain e, w)
      go None q = absurd (some (e ∙ ap length (no_chain q)))

  -- the counts are 32 bytes
  module _ (counts : List ℕ) (m : ℕ) (counted : counts ≡ least_counts l) (f : m ≡ place_behind 0 counts) where
    all : m ≡ 32
    all =
        let size : length counts ≡ 32 = ap length counted ∙ counts_length l in
        f ∙ place_counts 0 counts (omega arith) ∙ omega arith

    by_counts : n ≡ 0 → (last : List ℕ) → last ≡ laid counts 0 after → Promised l a (answer l a) before (ByCounts m) last
    by_counts none last v = go (answer l a) refl
      where
        go : (x : Answer) → answer l a ≡ x → Promised l a x before (ByCounts m) last
        go (Some k) q = let size : length (first_chain l a) ≡ suc k = first_length l a k q in absurd (omega arith)
        go None q =
            let unwritten : after ≡ before = w ∙ ap (λ (t : List ℕ). laid t 0 before) (no_chain q) ∙ sym (placed_none 0 before (omega arith)).1 in
            (ap ByCounts (all ∙ sym (counts_length l)), v ∙ ap₂ (λ (t b : List ℕ). laid t 0 b) counted unwritten)

pub overflow_cast-result : goal.overflow_cast-result
overflow_cast-result c = omega (arith, few _ _ _ _ _ c.put_chain-count.ensures.place c.put_chain-count.ensures.buffer)

pub returns-then-count-ne0 : goal.returns-then-count-ne0
returns-then-count-ne0 c =
    let p = by_chain _ _ _ _ _ c.put_chain-count.ensures.place c.put_chain-count.ensures.buffer c.if-count-ne0.true in
    record { equation = p.0; buffer = p.1 }

pub overflow_cast-result-2 : goal.overflow_cast-result-2
overflow_cast-result-2 c =
    omega (arith, all _ _ _ _ _ c.put_chain-count.ensures.place c.put_chain-count.ensures.buffer _ _ c.least_counts-counts.ensures c.put_text.ensures.place)

pub returns : goal.returns
returns c =
    let p = by_counts _ _ _ _ _ c.put_chain-count.ensures.place c.put_chain-count.ensures.buffer _ _ c.least_counts-counts.ensures c.put_text.ensures.place
    c.if-count-ne0.false _ c.put_text.ensures.buffer in
    record { equation = p.0; buffer = p.1 }
