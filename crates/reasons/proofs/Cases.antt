-- An explanation is one of three: a refusal, a chain, or counts.
--     refused_so, explained_so                        what is answered and written, by the refusal
--     Explained, explained                            the three cases
-- Assumes nothing.
use Prim.Native.Nat.{ℕ}
use mathlib.Core.Path.{◌≡◌, refl}
use mathlib.Core.List.{List, ◌++◌}
use native.Mathlib.Decide.{ℕ_discrete}
use borrow.Author.Tests.{ne_eqb}
use lib.ListN.{length, drop}
use Rattle.std.proofs.Common.{Some, None}
use Rattle.state.specs.Site.{Site}
use Rattle.access.specs.Lending.{lending}
use Rattle.access.specs.Answer.{Answer, answer, least_counts}
use Rattle.chains.specs.First.{first_chain}
use Rattle.reasons.specs.Explanation.{Unexplained, ByChain, ByCounts, bytes_for, explain_refusal, which, explanation_of, explained_buffer}
use Rattle.reasons.specs.Laws

pub refused_so : Laws.RefusedSo
unfolding explanation_of explained_buffer
refused_so s a b buffer n e some = (rw (e, ne_eqb n 0 some) refl, rw (e, ne_eqb n 0 some) refl)

pub explained_so : Laws.ExplainedSo
unfolding explanation_of explained_buffer
explained_so s a b buffer e = (rw e refl, rw e refl)

-- ---- the three cases
-- what is written in front of a buffer
abbrev pub in_front : (text buffer : List ℕ) → List ℕ
in_front text buffer = text ++ drop (length text) buffer

pub data Explained (s : Site) (a b : ℕ) (buffer : List ℕ) : Type 0 where
  refused : (explain_refusal s a b buffer ≡ 0 → ⊥) → explanation_of s a b buffer ≡ Unexplained (explain_refusal s a b buffer)
      → explained_buffer s a b buffer ≡ buffer → Explained s a b buffer
  by_chain : (k : ℕ) → explain_refusal s a b buffer ≡ 0 → answer (lending s b) a ≡ Some k
      → explanation_of s a b buffer ≡ ByChain (length (first_chain (lending s b) a))
      → explained_buffer s a b buffer ≡ in_front (first_chain (lending s b) a) buffer → Explained s a b buffer
  by_counts : explain_refusal s a b buffer ≡ 0 → answer (lending s b) a ≡ None
      → explanation_of s a b buffer ≡ ByCounts (length (least_counts (lending s b)))
      → explained_buffer s a b buffer ≡ in_front (least_counts (lending s b)) buffer → Explained s a b buffer

pub explained : (s : Site) (a b : ℕ) (buffer : List ℕ) → Explained s a b buffer
explained s a b buffer = go (ℕ_discrete (explain_refusal s a b buffer) 0)
  where
    by : (x : Answer) → answer (lending s b) a ≡ x → explain_refusal s a b buffer ≡ 0
        → (explanation_of s a b buffer ≡ which x (length (bytes_for (lending s b) a x))) × (explained_buffer s a b buffer ≡ in_front (bytes_for (lending s b) a x) buffer)
    by x q e = let so = explained_so s a b buffer e in rw q at so

    answered : (x : Answer) → answer (lending s b) a ≡ x → explain_refusal s a b buffer ≡ 0 → Explained s a b buffer
    answered (Some k) q e = let so = by (Some k) q e in by_chain k e q so.0 so.1
    answered None q e = let so = by None q e in by_counts e q so.0 so.1

    go : Dec (explain_refusal s a b buffer ≡ 0) → Explained s a b buffer
    go (yes e) = answered (answer (lending s b) a) refl e
    go (no f) = let so = refused_so s a b buffer (explain_refusal s a b buffer) refl f in refused f so.0 so.1
