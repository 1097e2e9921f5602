-- "Code 9 by the defining area is refused as 15, after 7 and before 8." (document 02, point 4): which instructions get
-- that number.
use Rattle.std.specs.Prelude.{◌≡◌, ◌↔◌, T}
use Rattle.state.specs.Site.{owns, defines}
use Rattle.state.specs.Site.{Site}
use Rattle.soundness.specs.Sound.{Sound}
use Rattle.instructions.specs.Instructions.{Bytes}
use Rattle.machine.specs.Step.{step_of}

-- the activator owns area a, and would have it import object b, which a defines
pub record OwnImport (s : Site) (bytes : Bytes) : Type 0 where
  pub code : bytes.code ≡ 9
  pub owned : T (owns s bytes.activator bytes.a)
  pub defined : T (defines s bytes.b bytes.a)

-- In a sound state 15 is for these instructions and for no others. No more need be asked: an owner is in range, listed
-- and entitled (2, 3, 5); what an area defines is listed (4) and not imported by it (6); and 7 is of other codes.
abbrev pub OwnImportExactly : Type 0
OwnImportExactly = (s : Site) → Sound s → (bytes : Bytes) → ((step_of s bytes).refusal ≡ 15) ↔ OwnImport s bytes
