-- The rows of the table of instructions. The proofs of this crate go by rows, so an instruction that shares its row
-- with another has a clause here and nowhere else; but an add and its remove have one in TakingBack too.
-- Assumes nothing.
use Prim.Native.Nat.{ℕ, zero, suc, ◌+◌}
use mathlib.Core.Path.{◌≡◌, subst}
use mathlib.Core.Bool.{Bool, true, ◌&&◌}
use mathlib.Core.List.{List, [], ◌∷◌}
use native.Mathlib.Omega.{arith}
use lib.Dec.{T}
use Rattle.std.proofs.Common.{Some}
use Rattle.std.proofs.lemmas.Option.{none-some, same_Some}
use Rattle.state.proofs.Bools.{and_left, and_right}
use Rattle.instructions.specs.Instructions.{instructions, pick, instruction_of}
use Rattle.instructions.specs.Instructions.{adding, removing, rule}
use Rattle.instructions.specs.declared.Instruction.{Instruction}
use Rattle.instructions.specs.declared.Instruction.TheVariants.{ListArea, UnlistArea, AddOwner, RemoveOwner}
use Rattle.instructions.specs.declared.Instruction.TheVariants.{AddStructure, RemoveStructure}
use Rattle.instructions.specs.declared.Instruction.TheVariants.{Define, RemoveDefinition, AddImport, RemoveImport}
use Rattle.instructions.specs.declared.Instruction.TheVariants.{AddExport, RemoveExport}
use Rattle.instructions.specs.declared.Target.TheVariants.{TheArea, Owner, Definition, Structure, Import, Export}
use Rattle.instructions.specs.declared.Lookup.TheVariants.{NoLookup, OnlyA, Both}
use Rattle.instructions.specs.declared.MustOwn.TheVariants.{OwnsNothing, OwnsA, OwnsBoth, OwnsToCut}
use Rattle.instructions.specs.declared.Rule.{Rule}

pub data Row : Rule → Type 0 where
  lists_area : Row (adding TheArea NoLookup OwnsNothing)
  unlists_area : Row (removing TheArea OnlyA OwnsA)
  adds_owner : Row (adding Owner OnlyA OwnsA)
  removes_owner : Row (removing Owner Both OwnsA)
  adds_structure : Row (adding Structure Both OwnsBoth)
  removes_structure : Row (removing Structure Both OwnsToCut)
  adds_definition : Row (adding Definition OnlyA OwnsA)
  removes_definition : Row (removing Definition Both OwnsA)
  adds_import : Row (adding Import Both OwnsA)
  removes_import : Row (removing Import Both OwnsA)
  adds_export : Row (adding Export Both OwnsA)
  removes_export : Row (removing Export Both OwnsA)

pub row : (x : Instruction) → Row (rule x)
row ListArea = lists_area
row UnlistArea = unlists_area
row AddOwner = adds_owner
row RemoveOwner = removes_owner
row AddStructure = adds_structure
row RemoveStructure = removes_structure
row Define = adds_definition
row RemoveDefinition = removes_definition
row AddImport = adds_import
row RemoveImport = removes_import
row AddExport = adds_export
row RemoveExport = removes_export

-- ---- codes
-- a code picks one instruction
pub picks_one : {x y : Instruction} → Some x ≡ Some y → x ≡ y
picks_one e = same_Some _ _ e

-- a test of each instruction of a list with its code, the first of which is k
abbrev pub each_code : (ℕ → Instruction → Bool) → ℕ → List Instruction → Bool
each_code test k [] = true
each_code test k (x ∷ rest) = test k x && each_code test (suc k) rest

code_at : (test : ℕ → Instruction → Bool) (k : ℕ) (l : List Instruction) → T (each_code test k l) → (n : ℕ) (x : Instruction)
    → pick l n ≡ Some x → T (test (k + n) x)
code_at test k [] t n x e = absurd (none-some x e)
code_at test k (y ∷ rest) t zero x e =
    let here : k ≡ k + 0 = omega arith in
    subst (λ (m : ℕ). T (test m x)) here (subst (λ (z : Instruction). T (test k z)) (picks_one e) (and_left (test k y) (each_code test (suc k) rest) t))
code_at test k (y ∷ rest) t (suc n) x e =
    let here : suc k + n ≡ k + suc n = omega arith in
    subst (λ (m : ℕ). T (test m x)) here (code_at test (suc k) rest (and_right (test k y) (each_code test (suc k) rest) t) n x e)

pub by_code : (test : ℕ → Instruction → Bool) → T (each_code test 1 instructions) → (code : ℕ) (x : Instruction)
    → instruction_of code ≡ Some x → T (test code x)
by_code test t zero x e = absurd (none-some x e)
by_code test t (suc n) x e =
    let here : 1 + n ≡ suc n = omega arith in
    subst (λ (m : ℕ). T (test m x)) here (code_at test 1 instructions t n x e)
