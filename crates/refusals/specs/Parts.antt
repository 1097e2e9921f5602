-- Not needed to believe a claim. The checks as the functions of this crate make them: 8 to 11 of the state t that an
-- instruction would give, and all of them.
use Rattle.std.specs.Prelude.{ℕ, Bool, true, false, ◌&&◌, not, List, [], ◌∷◌, ◌++◌}
use Rattle.state.specs.Checks.{Check, ◌when◌}
use Rattle.state.specs.Site.{Site, area, members, owner, cells}
use Rattle.state.specs.Walk.{has_second}
use Rattle.readings.specs.Readings.{seen_of, names_area}
use Rattle.access.specs.Lending.{lending}
use Rattle.access.specs.Answer.{access}
use Rattle.soundness.specs.Tests.{some_listed, is_valid}
use Rattle.validity.specs.Parts.{valid_for}
use Rattle.instructions.specs.Instructions.{rule}
use Rattle.instructions.specs.declared.Instruction.{Instruction}
use Rattle.instructions.specs.declared.Target.{Target}
use Rattle.instructions.specs.declared.Target.TheVariants.{TheArea, Owner, Definition, Structure, Import, Export}
use Rattle.successors.specs.Successor.{successor}
use Rattle.refusals.specs.Refusals.{is_entry, early_checks}

-- 8 and 9, by what is left in the state t: no area, or no owner of area a; a pair that names area a
abbrev pub none_left : Site → Target → ℕ → Bool
none_left t TheArea a = not (some_listed (members t area))
none_left t Owner a = not (has_second (cells t owner) a)
none_left t Definition a = false
none_left t Structure a = false
none_left t Import a = false
none_left t Export a = false

abbrev pub still_named : Site → Target → ℕ → Bool
still_named t TheArea a = names_area t a
still_named t Owner a = false
still_named t Definition a = false
still_named t Structure a = false
still_named t Import a = false
still_named t Export a = false

-- 11, where the state before was valid: a structure pair bears the access of every object, and a definition, import or
-- export pair that of its own object b
abbrev pub cuts_access : Site → Target → ℕ → Bool
cuts_access t TheArea b = false
cuts_access t Owner b = false
cuts_access t Definition b = not (valid_for t b)
cuts_access t Structure b = not (is_valid t)
cuts_access t Import b = not (valid_for t b)
cuts_access t Export b = not (valid_for t b)

-- 8 to 11, after an add (v true) or a remove (v false) in a sound state
abbrev pub result_checks : Site → Target → (v : Bool) → (a b : ℕ) → List Check
result_checks t target v a b =
    (8 when not v && none_left t target a)
    ∷ (9 when not v && still_named t target a)
    ∷ (10 when v && is_entry target && not (access (lending t b) a))
    ∷ (11 when not v && cuts_access t target b)
    ∷ []

-- the target is a pair of an object
abbrev pub of_object : Target → Bool
of_object TheArea = false
of_object Owner = false
of_object Definition = true
of_object Structure = false
of_object Import = true
of_object Export = true

-- the checks of an instruction as `check` makes them: the early ones, then 8 to 11 of the state that it would give
abbrev pub found_checks : Site → Instruction → (u a b : ℕ) → List Check
found_checks s x u a b =
    early_checks (seen_of s u a b) (rule x) ++ result_checks (successor s x u a b) (rule x).target (rule x).adds a b
