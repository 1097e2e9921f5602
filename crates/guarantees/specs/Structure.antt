-- Who changes the structure, of which the third demand says nothing. To add a structure pair the activator must own
-- "both" areas, to remove it "either". One statement about a list of instructions, over `step_of`. For every list, from
-- any sound state: an area that is listed at the start, none of whose owners there activates an instruction of the
-- list, is named by no structure pair that was not there; and a structure pair of two such areas is still there.
use Rattle.std.specs.Prelude.{ℕ, List, T}
use Rattle.state.specs.Site.{area, listed, inside}
use Rattle.state.specs.Site.{Site}
use Rattle.soundness.specs.Sound.{Sound}
use Rattle.instructions.specs.Instructions.{Bytes}
use Rattle.machine.specs.Step.{run}
use Rattle.guarantees.specs.Demand3.{Silent}

-- What is promised of the structure pairs of the state t after a list l from s. Of an area that is listed in s, and
-- none of whose owners there activates an instruction of l: no structure pair that names it is added, neither with it
-- as the inner area nor as the outer. And a pair of two such areas is kept: an owner of "either" could remove it.
pub record StructureHeld (s : Site) (l : List Bytes) (t : Site) : Type 0 where
  pub none_added_within : (p q : ℕ) → T (listed s area p) → Silent s p l → T (inside t p q) → T (inside s p q)
  pub none_added_around : (p q : ℕ) → T (listed s area q) → Silent s q l → T (inside t p q) → T (inside s p q)
  pub kept : (p q : ℕ) → T (listed s area p) → T (listed s area q) → Silent s p l → Silent s q l
      → T (inside s p q) → T (inside t p q)

abbrev pub StructureGuarantee : Type 0
StructureGuarantee = (s : Site) (l : List Bytes) → Sound s → StructureHeld s l (run s l)
