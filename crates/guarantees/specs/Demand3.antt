-- The third demand: one statement about a list of instructions, over `step_of`. For every list of instructions, four
-- bytes of any content each, from any sound state: the state after the list is sound; and whichever area is listed at
-- the start, if none of the owners it has there activates an instruction of the list, then after the list it has
-- exactly the owners, objects, imports and exports it had, and each object it imports or exports can still be traced to
-- it.
use Rattle.std.specs.Prelude.{ℕ, ◌≡◌, List, [], ◌∷◌, T}
use Rattle.state.specs.Site.{area, listed, owns, defines, imports, exports}
use Rattle.state.specs.Site.{Site}
use Rattle.access.specs.Lending.{lending}
use Rattle.access.specs.Answer.{access}
use Rattle.soundness.specs.Sound.{Sound}
use Rattle.instructions.specs.Instructions.{Bytes}
use Rattle.machine.specs.Step.{run}

-- None of the owners that area p has in s activates an instruction of the list. "An area's owners at the start are the
-- users in its owner pairs there; an instruction's activator is its second byte, in a refused one too."
pub data Silent (s : Site) (p : ℕ) : List Bytes → Type 0 where
  silent_end : Silent s p []
  silent_next : {bytes : Bytes} {rest : List Bytes} → (T (owns s bytes.activator p) → ⊥) → Silent s p rest
      → Silent s p (bytes ∷ rest)

-- "What demand 3 says of an area whose owners at the start activate nothing in the list is called the lending
-- guarantee": for area p, from the state s to the state t after the list. "The area's owner, definition, import and
-- export pairs after the list are the same sets as at the start. An object can be traced to an area if, in the state
-- after the list, the area has access to it."
pub record LendingGuarantee (s t : Site) (p : ℕ) : Type 0 where
  pub still_listed : T (listed t area p)
  pub owners : (u : ℕ) → owns t u p ≡ owns s u p
  pub objects : (o : ℕ) → defines t o p ≡ defines s o p
  pub importing : (o : ℕ) → imports t o p ≡ imports s o p
  pub exporting : (o : ℕ) → exports t o p ≡ exports s o p
  pub traced_imports : (o : ℕ) → T (imports s o p) → T (access (lending t o) p)
  pub traced_exports : (o : ℕ) → T (exports s o p) → T (access (lending t o) p)

-- what is claimed of the state t after a list l from s
pub record Upheld (s : Site) (l : List Bytes) (t : Site) : Type 0 where
  pub sound : Sound t
  pub lending_guarantee : (p : ℕ) → T (listed s area p) → Silent s p l → LendingGuarantee s t p

abbrev pub Demand3 : Type 0
Demand3 = (s : Site) (l : List Bytes) → Sound s → Upheld s l (run s l)
