-- The refusals of an instruction (document 01, 'Refusals of an instruction'; 15 is of document 02, point 4): each
-- condition with the papers' words, and the table in the papers' order. 1 and 2 are the decoder's (instructions,
-- Decode). The early ones depend on the row of the instruction and on what is read of the state (readings, `seen_of`),
-- the late ones on the state and what it would become.
use Rattle.std.specs.Prelude.{ℕ, Bool, true, false, ◌&&◌, ◌||◌, not, Ok, Err, List, [], ◌∷◌, ◌++◌, eqb}
use Rattle.state.specs.Checks.{Check, ◌when◌}
use Rattle.state.specs.Site.{Site, area, members, owner, definition, structure, import, export, cells}
use Rattle.state.specs.Walk.{each_member, some_pair, each_pair, has_first, has_second}
use Rattle.readings.specs.Readings.{seen_of}
use Rattle.readings.specs.declared.Seen.{Seen}
use Rattle.access.specs.Lending.{lending}
use Rattle.access.specs.Answer.{access}
use Rattle.soundness.specs.Tests.{is_valid, is_sound}
use Rattle.instructions.specs.Instructions.{Bytes, rule}
use Rattle.instructions.specs.Decode.{Decoded, decode_of, misfits}
use Rattle.instructions.specs.declared.Instruction.{Instruction}
use Rattle.instructions.specs.declared.Rule.{Rule}
use Rattle.instructions.specs.declared.Target.{Target}
use Rattle.instructions.specs.declared.Target.TheVariants.{TheArea, Owner, Definition, Structure, Import, Export}
use Rattle.instructions.specs.declared.Lookup.{Lookup}
use Rattle.instructions.specs.declared.Lookup.TheVariants.{NoLookup, OnlyA, Both}
use Rattle.instructions.specs.declared.MustOwn.{MustOwn}
use Rattle.instructions.specs.declared.MustOwn.TheVariants.{OwnsNothing, OwnsA, OwnsBoth, OwnsToCut}
use Rattle.successors.specs.Successor.{changed}

-- ---- 4: "not listed: area a (codes 2 to 12), user b (4), area b (5, 6), object b (8 to 12)"
-- b is listed, as what it is
abbrev pub b_listed : Seen → Target → Bool
b_listed v TheArea = true
b_listed v Owner = v.user
b_listed v Structure = v.outer
b_listed v Definition = v.object
b_listed v Import = v.object
b_listed v Export = v.object

abbrev pub missing : Seen → Target → Lookup → Bool
missing v t NoLookup = false
missing v t OnlyA = not v.area
missing v t Both = not (v.area && b_listed v t)

-- ---- 5: "the activator lacks the ownership in the table above"
-- who may cut the structure pair (a, b): an owner of "either"
abbrev pub may_cut : Seen → Bool
may_cut v = v.own || v.other

-- `other` is asked where b is an area: the table has "both" and "either" for structure pairs alone
abbrev pub entitled : Seen → MustOwn → Bool
entitled v OwnsNothing = true
entitled v OwnsA = v.own
entitled v OwnsBoth = v.own && v.other
entitled v OwnsToCut = may_cut v

-- ---- 6: "an add of what is there: listed area (1), listed object in whichever area (7), present pair (3, 5, 9, 11)"
-- The object of a definition is there if it is listed, in whichever area: `present` and `absent` are no opposites.
abbrev pub present : Seen → Target → Bool
present v TheArea = v.area
present v Owner = v.owned
present v Definition = v.object
present v Structure = v.inside
present v Import = v.imported
present v Export = v.exported

-- ---- 7: "a remove of a pair that is not there (4, 6, 8, 10, 12)"
abbrev pub absent : Seen → Target → Bool
absent v TheArea = false
absent v Owner = not v.owned
absent v Definition = not v.defined
absent v Structure = not v.inside
absent v Import = not v.imported
absent v Export = not v.exported

-- ---- 15: "Code 9 by the defining area"
abbrev pub own_import : Seen → Target → Bool
own_import v TheArea = false
own_import v Owner = false
own_import v Definition = false
own_import v Structure = false
own_import v Import = v.defined
own_import v Export = false

-- ---- 8: "code 4 on the sole owner of a; code 2 on the only listed area"
-- no other user than u owns area a; that he does is asked before (7)
abbrev pub sole_owner : Site → (u a : ℕ) → Bool
sole_owner s u a = each_pair (cells s owner) (λ w c. not (eqb c a) || eqb w u)

-- no other area than a is listed; that it is, is asked before (4)
abbrev pub only_area : Site → ℕ → Bool
only_area s a = each_member (members s area) (λ c. eqb c a)

abbrev pub is_last : Site → Target → (a b : ℕ) → Bool
is_last s TheArea a b = only_area s a
is_last s Owner a b = sole_owner s b a
is_last s Definition a b = false
is_last s Structure a b = false
is_last s Import a b = false
is_last s Export a b = false

-- ---- 9: "code 2 while a has another owner, defines an object, or stands in a structure, import or export pair"
-- another owner than user u, who unlists the area
abbrev pub other_owner : Site → (u a : ℕ) → Bool
other_owner s u a = some_pair (cells s owner) (λ w c. eqb c a && not (eqb w u))

abbrev pub in_use : Site → Target → (u a : ℕ) → Bool
in_use s TheArea u a =
    other_owner s u a || has_second (cells s definition) a || has_first (cells s structure) a
    || has_second (cells s structure) a || has_second (cells s import) a || has_second (cells s export) a
in_use s Owner u a = false
in_use s Definition u a = false
in_use s Structure u a = false
in_use s Import u a = false
in_use s Export u a = false

-- ---- 10: "codes 9, 11: in the state it would give, a lacks access to b"
abbrev pub is_entry : Target → Bool
is_entry TheArea = false
is_entry Owner = false
is_entry Definition = false
is_entry Structure = false
is_entry Import = true
is_entry Export = true

-- ---- 11: "codes 6, 8, 10, 12: the state it would give has an import or export pair whose area lacks access"
-- what access rests on
abbrev pub bears_access : Target → Bool
bears_access TheArea = false
bears_access Owner = false
bears_access Definition = true
bears_access Structure = true
bears_access Import = true
bears_access Export = true

-- ---- the table
-- early, from 3 ("activator not listed") on: what is read of the state decides
abbrev pub early_checks : Seen → Rule → List Check
early_checks v r =
    (3 when not v.activator)
    ∷ (4 when missing v r.target r.lookup)
    ∷ (5 when not (entitled v r.ownership))
    ∷ (6 when r.adds && present v r.target)
    ∷ (7 when not r.adds && absent v r.target)
    ∷ (15 when r.adds && own_import v r.target)
    ∷ []

-- late: what the instruction would lead to; "the state it would give" is `changed` (successors)
abbrev pub late_checks : Site → Rule → (u a b : ℕ) → List Check
late_checks s r u a b =
    (8 when not r.adds && is_last s r.target a b)
    ∷ (9 when not r.adds && in_use s r.target u a)
    ∷ (10 when r.adds && is_entry r.target && not (access (lending (changed s r.target r.adds u a b) b) a))
    ∷ (11 when not r.adds && bears_access r.target && not (is_valid (changed s r.target r.adds u a b)))
    ∷ []

abbrev pub instruction_checks : Site → Instruction → (u a b : ℕ) → List Check
instruction_checks s x u a b = early_checks (seen_of s u a b) (rule x) ++ late_checks s (rule x) u a b

-- the same for four bytes, by what they fit; there is nothing to check where they fit no instruction: "bytes that fit
-- no kind are refused before any number is looked up in the lists"
abbrev pub checks_of : Site → Bytes → Decoded → List Check
checks_of s bytes (Ok x) = instruction_checks s x bytes.activator bytes.a bytes.b
checks_of s bytes (Err refusal) = []

-- all but 12, from 1 on: what is asked where the state is known to be sound
abbrev pub further_refusals : Site → Bytes → List Check
further_refusals s bytes = misfits (decode_of bytes) ++ checks_of s bytes (decode_of bytes)

-- 12 is "the state is unsound, or is not the record its relations have": a sound record is that of its relations
-- (soundness, claim RecordOfRelations).
abbrev pub refusals : Site → Bytes → List Check
refusals s bytes = (12 when not (is_sound s)) ∷ further_refusals s bytes

-- "Order of checks: 12 first, then 1 to 11 upwards.", and 15 "after 7 and before 8". No other number is given (machine,
-- claim RefusalNumbers).
abbrev pub further_numbers : List ℕ
further_numbers = 1 ∷ 2 ∷ 3 ∷ 4 ∷ 5 ∷ 6 ∷ 7 ∷ 15 ∷ 8 ∷ 9 ∷ 10 ∷ 11 ∷ []

abbrev pub step_numbers : List ℕ
step_numbers = 12 ∷ further_numbers
