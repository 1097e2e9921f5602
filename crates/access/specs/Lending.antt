-- What access to an object depends on, and one step of the object (document 01, 'The state').
use Rattle.std.specs.Prelude.{ℕ, Bool, ◌&&◌, ◌||◌}
use Rattle.state.specs.Cells.{Pairs, pair}
use Rattle.state.specs.Site.{Site}

-- One object's relations, as tests on area numbers: how they are kept does not matter here.
pub record Lending : Type 0 where
  -- the object is defined in the area
  pub defined_in : ℕ → Bool
  -- it is imported by the area
  pub imported_by : ℕ → Bool
  -- it is exported by the area
  pub exported_by : ℕ → Bool
  -- (inner, outer) is a structure pair
  pub within : ℕ → ℕ → Bool

-- "An object moves one step from s to r in two cases. Export: the object is exported by s and (s, r) is a structure
-- pair. Import: it is imported by r and (r, s) is a structure pair." Cycles are allowed, an area in itself too, and the
-- area that is left or reached may have no entry of its own (the mailbox of 001, definition 4.15): nothing here asks
-- for one.
unfoldable pub step : Lending → ℕ → ℕ → Bool
step l s r = (l.exported_by s && l.within s r) || (l.imported_by r && l.within r s)

-- what four relations say of object o
abbrev pub lending_of : (definition structure import export : Pairs) → ℕ → Lending
lending_of definition structure import export o =
    record {
      defined_in = pair definition o;
      imported_by = pair import o;
      exported_by = pair export o;
      within = pair structure;
    }

-- what a state says of object o
abbrev pub lending : Site → ℕ → Lending
lending s o = lending_of s.definitions s.structure s.imports s.exports o
