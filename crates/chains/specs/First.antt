-- The first chain of an object to an area, as a definition that can be computed. That it is the first, and that no
-- other is, is claimed in Claims.antt.
use Rattle.std.specs.Prelude.{ℕ, zero, suc, Bool, ◌&&◌, List, [], ◌∷◌, eqb, Some, None}
use Rattle.state.specs.Below.{some_below, first_below}
use Rattle.state.specs.Site.{area, limit}
use Rattle.access.specs.Lending.{Lending, step}
use Rattle.access.specs.Answer.{Answer, answer}

-- n steps lead from area s to area a
unfoldable pub leads_in : (ℕ → ℕ → Bool) → (a n s : ℕ) → Bool
leads_in move a zero s = eqb s a
leads_in move a (suc n) s = some_below (limit area) (λ r. move s r && leads_in move a n r)

-- they do so from some area at hand
abbrev pub is_open : (ℕ → ℕ → Bool) → (a n : ℕ) (at_hand : ℕ → Bool) → Bool
is_open move a n at_hand = some_below (limit area) (λ s. at_hand s && leads_in move a n s)

-- the lowest of the areas at hand from which n steps lead to area a
abbrev pub lowest_open : (ℕ → ℕ → Bool) → (a n : ℕ) (at_hand : ℕ → Bool) → ℕ
lowest_open move a n at_hand = first_below (limit area) (λ s. at_hand s && leads_in move a n s)

-- The areas of a chain of n steps to area a: the first is the lowest of those at hand from which the n steps lead
-- there, and so on from it, where those one step on are at hand.
unfoldable pub walk : (ℕ → ℕ → Bool) → (a n : ℕ) (at_hand : ℕ → Bool) → List ℕ
walk move a zero at_hand = lowest_open move a 0 at_hand ∷ []
walk move a (suc n) at_hand =
    lowest_open move a (suc n) at_hand ∷ walk move a n (move (lowest_open move a (suc n) at_hand))

-- of as many steps as the answer has; without access there is none
abbrev pub chain_for : Lending → (a : ℕ) → Answer → List ℕ
chain_for l a (Some n) = walk (step l) a n l.defined_in
chain_for l a None = []

-- "the chain of areas from the definer: a shortest one, and among those the one with the lowest numbers compared from
-- the front": the claims FirstIsFirst and OneFirst
unfoldable pub first_chain : Lending → (a : ℕ) → List ℕ
first_chain l a = chain_for l a (answer l a)
