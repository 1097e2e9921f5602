-- "Engineers try a lending, look, and take it back. We want it shown that an accepted add, followed at once by the
-- matching remove from the same activator, is always accepted and gives the earlier state in every field. This covers
-- all six adds. It includes a user who was listed only by that add." (document 02, point 7, 'Taking back leaves no
-- trace').
use Rattle.std.specs.Prelude.{ℕ, suc, ◌≡◌, true, Some}
use Rattle.state.specs.Site.{Site}
use Rattle.soundness.specs.Sound.{Sound}
use Rattle.instructions.specs.Instructions.{Bytes, four_bytes, rule, instruction_of}
use Rattle.instructions.specs.declared.Instruction.{Instruction}
use Rattle.machine.specs.Step.{step_of}

-- "the matching remove": the two codes of a row of document 01's table of instructions, the add and its remove. With
-- two codes of different rows `TakingBack` would be false, and with a row left out `EveryAdd`.
pub data Opposite : (add remove : ℕ) → Type 0 where
  -- "list new area a, owned by the activator / unlist it"
  unlist_area : Opposite 1 2
  -- "add / remove owner b of area a"
  remove_owner : Opposite 3 4
  -- "add / remove structure pair (a, b)"
  remove_structure : Opposite 5 6
  -- "define / remove object b in area a"
  remove_definition : Opposite 7 8
  -- "add / remove import of b by a"
  remove_import : Opposite 9 10
  -- "add / remove export of b by a"
  remove_export : Opposite 11 12

-- "the matching remove from the same activator", of the same a and b, for an add x: with this code
abbrev pub matching_remove : (code : ℕ) → Bytes → Bytes
matching_remove code x = four_bytes code x.activator x.a x.b

-- What is shown of an add x in state s and of the remove y that follows it at once: y "is always accepted and gives the
-- earlier state in every field". That is the whole record, its lists too: a user "who was listed only by that add" is
-- not listed in s, and so is not listed afterwards.
pub record TakenBack (s : Site) (x y : Bytes) : Type 0 where
  pub accepted : (step_of (step_of s x).state y).refusal ≡ 0
  pub earlier : (step_of (step_of s x).state y).state ≡ s

-- For every sound state and any four bytes: "an accepted add, followed at once by the matching remove"
abbrev pub TakingBack : Type 0
TakingBack =
    (s : Site) → Sound s → (x : Bytes) (remove : ℕ) → Opposite x.code remove → (step_of s x).refusal ≡ 0
    → TakenBack s x (matching_remove remove x)

-- "This covers all six adds": every code that picks an add has its matching remove, the next code
abbrev pub EveryAdd : Type 0
EveryAdd =
    (add : ℕ) (x : Instruction) → instruction_of add ≡ Some x → (rule x).adds ≡ true → Opposite add (suc add)
