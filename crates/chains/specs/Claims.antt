-- What is claimed of chains of areas, in the words of document 02, point 5. Each claim is a type, which
-- proofs/Laws.antt inhabits under the claim's name.
use Rattle.std.specs.Prelude.{ℕ, suc, ◌≤◌, ◌≡◌, ◌↔◌, false, List, [], T, length, Some}
use Rattle.access.specs.Lending.{Lending}
use Rattle.access.specs.Chain.{ObjectChain}
use Rattle.access.specs.Answer.{answer, access}
use Rattle.chains.specs.Chains.{ChainTo, FirstChain}
use Rattle.chains.specs.First.{first_chain}

-- A chain of n steps is a list of n + 1 areas: the chains here are those that access rests on.
abbrev pub ChainIsList : Type 0
ChainIsList =
    (l : Lending) (n a : ℕ)
    → ObjectChain l n a ↔ ((areas : List ℕ) × ChainTo l a areas × (length areas ≡ suc n))

-- "The reason must be the true one: the chain is there", none is shorter, and none of its length is lower
abbrev pub FirstIsFirst : Type 0
FirstIsFirst = (l : Lending) (a : ℕ) → T (access l a) → FirstChain l a (first_chain l a)

-- and no other chain is the first
abbrev pub OneFirst : Type 0
OneFirst = (l : Lending) (a : ℕ) (xs ys : List ℕ) → FirstChain l a xs → FirstChain l a ys → xs ≡ ys

-- It has one area more than the answer has steps: the definer and the area are in it.
abbrev pub FirstLength : Type 0
FirstLength = (l : Lending) (a n : ℕ) → answer l a ≡ Some n → length (first_chain l a) ≡ suc n

-- so 9 at most, since there are 8 steps at most (point 2)
abbrev pub NineAtMost : Type 0
NineAtMost = (l : Lending) (a : ℕ) → length (first_chain l a) ≤ 9

-- There is none to write exactly where the area lacks access.
abbrev pub NoneExactly : Type 0
NoneExactly = (l : Lending) (a : ℕ) → (first_chain l a ≡ []) ↔ (access l a ≡ false)
