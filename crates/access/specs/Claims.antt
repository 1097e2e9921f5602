-- What is claimed of access, in the papers' words. Each claim is a type, which proofs/Laws.antt inhabits under the
-- claim's name. The layers above cite these claims and those of Laws.antt, and unfold no definition of this crate; the
-- computed examples of document 01 (crate `guarantees`) are the one exception.
use Rattle.std.specs.Prelude.{ℕ, ◌≤◌, ◌<◌, ◌≡◌, ◌↔◌, Bool, true, false, T, Some, None}
use Rattle.state.specs.Site.{area, limit}
use Rattle.access.specs.Lending.{Lending, step}
use Rattle.access.specs.Chain.{Chain, Shortest, ObjectChain}
use Rattle.access.specs.Answer.{Answer, longest, answer, access}

-- ---- the answer is right
-- the least length of a chain to the area is k, and at most n
pub record InSteps (start : ℕ → Bool) (move : ℕ → ℕ → Bool) (n a k : ℕ) : Type 0 where
  pub shortest : Shortest start move a k
  pub short : k ≤ n

-- An answer is right up to n steps: the number of steps is the least length of a chain, and at most n; or no chain is
-- that short.
abbrev pub RightWithin : (ℕ → Bool) → (ℕ → ℕ → Bool) → ℕ → ℕ → Answer → Type 0
RightWithin start move n a (Some k) = InSteps start move n a k
RightWithin start move n a None = (m : ℕ) → m ≤ n → Chain start move m a → ⊥

-- An answer is right: the number of steps is the least length of a chain of the object, and never above the limit; or
-- no chain is that short.
abbrev pub Right : Lending → ℕ → Answer → Type 0
Right l a x = RightWithin l.defined_in (step l) longest a x

abbrev pub AnswerIsRight : Type 0
AnswerIsRight = (l : Lending) (a : ℕ) → Right l a (answer l a)

-- and no other answer is
abbrev pub OneAnswer : Type 0
OneAnswer = (l : Lending) (a : ℕ) (x y : Answer) → Right l a x → Right l a y → x ≡ y

-- "0 for the defining area"
abbrev pub DefinerInNoStep : Type 0
DefinerInNoStep = (l : Lending) (a : ℕ) → a < limit area → T (l.defined_in a) → answer l a ≡ Some 0

-- "The step answer never passes 8." (document 02, point 2)
abbrev pub NeverAbove : Type 0
NeverAbove = (l : Lending) (a n : ℕ) → answer l a ≡ Some n → n ≤ 8

-- 'No access' is the answer exactly where no chain of 8 steps or fewer leads to the area.
abbrev pub NoAccessExactly : Type 0
NoAccessExactly = (l : Lending) (a : ℕ) → (answer l a ≡ None) ↔ ((n : ℕ) → n ≤ 8 → ObjectChain l n a → ⊥)

-- "An area has access to an object if it defines it or a chain of steps leads to it from the defining area." "Access
-- now means a chain of 8 steps or fewer" (document 02, point 2).
abbrev pub AccessIsChain : Type 0
AccessIsChain = (l : Lending) (a : ℕ) → T (access l a) ↔ ((n : ℕ) × (n ≤ 8) × ObjectChain l n a)

-- ---- access and the answer are one: there is access where the answer is a number of steps
abbrev pub is_steps : Answer → Bool
is_steps (Some n) = true
is_steps None = false

abbrev pub AccessIsSteps : Type 0
AccessIsSteps = (l : Lending) (a : ℕ) → access l a ≡ is_steps (answer l a)
