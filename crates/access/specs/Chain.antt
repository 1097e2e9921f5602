-- Chains of steps, and their least length. A chain is over any test of where it may start and any test of one step: the
-- steps of an object are one use of it.
use Rattle.std.specs.Prelude.{ℕ, suc, ◌≤◌, ◌<◌, Bool, T}
use Rattle.state.specs.Site.{area, limit}
use Rattle.access.specs.Lending.{Lending, step}

-- A chain of n steps to an area, from an area that meets `start`.
pub data Chain (start : ℕ → Bool) (move : ℕ → ℕ → Bool) : ℕ → ℕ → Type 0 where
  here : {a : ℕ} → a < limit area → T (start a) → Chain start move 0 a
  onward : {n s r : ℕ} → Chain start move n s → r < limit area → T (move s r) → Chain start move (suc n) r

-- The least length of a chain to the area is n.
pub record Shortest (start : ℕ → Bool) (move : ℕ → ℕ → Bool) (a n : ℕ) : Type 0 where
  pub chain : Chain start move n a
  pub least : (m : ℕ) → Chain start move m a → n ≤ m

-- "a chain of steps leads to it from the defining area": a chain of n steps of the object. In no step it is the
-- defining area itself.
abbrev pub ObjectChain : Lending → ℕ → ℕ → Type 0
ObjectChain l n a = Chain l.defined_in (step l) n a
