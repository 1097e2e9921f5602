-- Chains of areas (document 02, point 5): "write the chain of areas from the definer: a shortest one, and among those
-- the one with the lowest numbers compared from the front".
use Rattle.std.specs.Prelude.{ℕ, ◌≤◌, ◌<◌, ◌≡◌, Bool, List, [], ◌∷◌, T, length}
use Rattle.state.specs.Site.{area, limit}
use Rattle.access.specs.Lending.{Lending, step}

-- The areas that a chain of steps from area s to area a passes, in their order: s is the first of them and a the last,
-- and each is one step from the one before it.
pub data Passes (move : ℕ → ℕ → Bool) : (s a : ℕ) → List ℕ → Type 0 where
  arrived : {a : ℕ} → a < limit area → Passes move a a (a ∷ [])
  passing : {s r a : ℕ} {areas : List ℕ} → s < limit area → T (move s r) → Passes move r a areas
      → Passes move s a (s ∷ areas)

-- "the chain of areas from the definer": these are the areas of a chain of the object, from an area that defines it to
-- area a
pub record ChainTo (l : Lending) (a : ℕ) (areas : List ℕ) : Type 0 where
  pub definer : ℕ
  pub defines : T (l.defined_in definer)
  pub passes : Passes (step l) definer a areas

-- "lowest numbers compared from the front": at the first place where the two lists differ, the first list has the lower
-- number
pub data Lower : List ℕ → List ℕ → Type 0 where
  lower_here : {x y : ℕ} {xs ys : List ℕ} → x < y → Lower (x ∷ xs) (y ∷ ys)
  lower_behind : {x : ℕ} {xs ys : List ℕ} → Lower xs ys → Lower (x ∷ xs) (x ∷ ys)

-- "a shortest one, and among those the one with the lowest numbers"
pub record FirstChain (l : Lending) (a : ℕ) (areas : List ℕ) : Type 0 where
  pub chain : ChainTo l a areas
  pub shortest : (others : List ℕ) → ChainTo l a others → length areas ≤ length others
  pub lowest : (others : List ℕ) → ChainTo l a others → length others ≡ length areas → Lower others areas → ⊥
