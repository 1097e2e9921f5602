-- The twelve instructions (document 01, 'The twelve instructions'): four bytes, and one row of the paper's table for
-- each.
--     Bytes                      "Four bytes: code, activator (a user), a, b"
--     rule                       the paper's table; its columns are enums of the code, and a row is the struct `Rule`
--     instruction_of             "A code from 1 to 12 picks the kind"
use Rattle.std.specs.Prelude.{ℕ, zero, suc, true, false, Option, Some, None, List, [], ◌∷◌}
use Rattle.instructions.specs.declared.Instruction.{Instruction}
use Rattle.instructions.specs.declared.Instruction.TheVariants.{ListArea, UnlistArea, AddOwner, RemoveOwner}
use Rattle.instructions.specs.declared.Instruction.TheVariants.{AddStructure, RemoveStructure, Define}
use Rattle.instructions.specs.declared.Instruction.TheVariants.{RemoveDefinition, AddImport, RemoveImport}
use Rattle.instructions.specs.declared.Instruction.TheVariants.{AddExport, RemoveExport}
use Rattle.instructions.specs.declared.Target.{Target}
use Rattle.instructions.specs.declared.Target.TheVariants.{TheArea, Owner, Definition, Structure, Import, Export}
use Rattle.instructions.specs.declared.Lookup.{Lookup}
use Rattle.instructions.specs.declared.Lookup.TheVariants.{NoLookup, OnlyA, Both}
use Rattle.instructions.specs.declared.MustOwn.{MustOwn}
use Rattle.instructions.specs.declared.MustOwn.TheVariants.{OwnsNothing, OwnsA, OwnsBoth, OwnsToCut}
use Rattle.instructions.specs.declared.Rule.{Rule}
use Rattle.instructions.specs.declared.Bytes.{Bytes as DeclaredBytes}

-- "Four bytes: code, activator (a user), a, b": the struct `Bytes` of the code. Nothing here asks that a number is
-- below 256.
abbrev pub Bytes : Type 0
Bytes = DeclaredBytes

abbrev pub four_bytes : (code activator a b : ℕ) → Bytes
four_bytes code activator a b = record { code = code; activator = activator; a = a; b = b }

-- A row of the table: "does" (what is added or removed), what must be listed (refusal 4: nothing, area a, or b too),
-- and "activator must own": "nothing", "a", "both", and to remove a structure pair "either". Who may cut one is a
-- definition of its own (refusals, `may_cut`). "b is" follows from what is added or removed (Decode, `fits`).
abbrev pub adding : Target → Lookup → MustOwn → Rule
adding t l m = record { adds = true; target = t; lookup = l; ownership = m }

abbrev pub removing : Target → Lookup → MustOwn → Rule
removing t l m = record { adds = false; target = t; lookup = l; ownership = m }

-- The table, from code 1 to code 12. "Code 3 lists user b if unlisted", and code 7 lists object b: these need not be
-- listed before.
abbrev pub rule : Instruction → Rule
rule ListArea = adding TheArea NoLookup OwnsNothing
rule UnlistArea = removing TheArea OnlyA OwnsA
rule AddOwner = adding Owner OnlyA OwnsA
rule RemoveOwner = removing Owner Both OwnsA
rule AddStructure = adding Structure Both OwnsBoth
rule RemoveStructure = removing Structure Both OwnsToCut
rule Define = adding Definition OnlyA OwnsA
rule RemoveDefinition = removing Definition Both OwnsA
rule AddImport = adding Import Both OwnsA
rule RemoveImport = removing Import Both OwnsA
rule AddExport = adding Export Both OwnsA
rule RemoveExport = removing Export Both OwnsA

-- the instructions in the order of their codes, from 1
abbrev pub instructions : List Instruction
instructions =
    ListArea ∷ UnlistArea ∷ AddOwner ∷ RemoveOwner ∷ AddStructure ∷ RemoveStructure
    ∷ Define ∷ RemoveDefinition ∷ AddImport ∷ RemoveImport ∷ AddExport ∷ RemoveExport ∷ []

-- what a code picks
abbrev pub Picked : Type 0
Picked = Option Instruction

-- the n-th of a list, from 0
abbrev pub pick : List Instruction → ℕ → Picked
pick [] n = None
pick (x ∷ rest) zero = Some x
pick (x ∷ rest) (suc n) = pick rest n

-- "A code from 1 to 12 picks the kind"
abbrev pub instruction_of : ℕ → Picked
instruction_of zero = None
instruction_of (suc n) = pick instructions n
