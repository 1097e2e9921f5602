-- What is claimed of the table of refusals. Each claim is a type, which proofs/Laws.antt inhabits under the claim's
-- name; LateByResult is proved in proofs/Late.antt.
use Rattle.std.specs.Prelude.{ℕ, ◌≡◌, Ok}
use Rattle.state.specs.Checks.{numbers}
use Rattle.state.specs.Site.{Site}
use Rattle.soundness.specs.Sound.{Sound}
use Rattle.instructions.specs.Instructions.{Bytes}
use Rattle.instructions.specs.Decode.{decode_of}
use Rattle.instructions.specs.declared.Instruction.{Instruction}
use Rattle.instructions.specs.declared.Rule.{Rule}
use Rattle.successors.specs.Successor.{changed}
use Rattle.refusals.specs.Refusals.{late_checks, refusals, step_numbers}
use Rattle.refusals.specs.Parts.{result_checks}

-- In a sound state the checks 8 to 11 may be made of the state that the instruction would give: `refusals::check` does
-- so.
abbrev pub LateByResult : Type 0
LateByResult =
    (s : Site) → Sound s → (r : Rule) (u a b : ℕ)
    → late_checks s r u a b ≡ result_checks (changed s r.target r.adds u a b) r.target r.adds a b

-- "Order of checks: 12 first, then 1 to 11 upwards", with 15 "after 7 and before 8" (document 02, point 4), for bytes
-- that fit an instruction. For others the table ends at 2.
abbrev pub RefusalOrder : Type 0
RefusalOrder =
    (s : Site) (bytes : Bytes) (x : Instruction) → decode_of bytes ≡ Ok x
    → numbers (refusals s bytes) ≡ step_numbers
