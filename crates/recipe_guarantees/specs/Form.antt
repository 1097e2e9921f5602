-- What a recipe is, as one writes it down: a list of 1 to 16 instructions, in which a and b are fixed numbers or
-- parameters (document 02, point 1, 'Site recipes'). The bytes that are not refused as 14 are the bytes of such lists,
-- and no others; and they give the instructions that the list means.
use Rattle.std.specs.Prelude.{ℕ, ◌≤◌, ◌≡◌, ◌↔◌, false, List, [], ◌∷◌, ◌++◌, map, length, get_or}
use Rattle.instructions.specs.Instructions.{Bytes, four_bytes}
use Rattle.recipes.specs.Recipe.{recipe_instructions, misformed}
use Rattle.recipes.specs.declared.Call.{Call}

-- "0 fixed, 1 parameter"
pub data Operand : Type 0 where
  fixed : (number : ℕ) → Operand
  parameter : (number : ℕ) → Operand

-- an instruction of a recipe, its numbers yet open
pub record Template : Type 0 where
  pub code : ℕ
  pub a : Operand
  pub b : Operand

-- ---- its bytes
-- "a kind byte (0 fixed, 1 parameter) and a value"
abbrev pub kind_of : Operand → ℕ
kind_of (fixed n) = 0
kind_of (parameter n) = 1

abbrev pub value_of : Operand → ℕ
value_of (fixed n) = n
value_of (parameter n) = n

-- "Each instruction is five bytes: code, then for a and for b a kind byte .. and a value."
abbrev pub template_bytes : Template → List ℕ
template_bytes t = t.code ∷ kind_of t.a ∷ value_of t.a ∷ kind_of t.b ∷ value_of t.b ∷ []

unfoldable pub recipe_bytes : List Template → List ℕ
recipe_bytes [] = []
recipe_bytes (t ∷ rest) = template_bytes t ++ recipe_bytes rest

-- ---- what it means
-- "Parameters 0 to 3 and the one activator come with the call."
abbrev pub meant : Call → Operand → ℕ
meant call (fixed n) = n
meant call (parameter n) = get_or call.parameters n 0

abbrev pub meant_by : Call → Template → Bytes
meant_by call t = four_bytes t.code call.activator (meant call t.a) (meant call t.b)

-- the instructions of a recipe are those that its list means
abbrev pub RecipeMeans : Type 0
RecipeMeans = (call : Call) (l : List Template) → recipe_instructions call (recipe_bytes l) ≡ map (meant_by call) l

-- ---- which bytes are a recipe
-- not "a parameter above 3"
abbrev pub Known : Operand → Type 0
Known (fixed n) = Unit
Known (parameter n) = n ≤ 3

pub data EachKnown : List Template → Type 0 where
  known_none : EachKnown []
  known_next : {t : Template} {rest : List Template} → Known t.a → Known t.b → EachKnown rest
      → EachKnown (t ∷ rest)

-- the bytes of "1 to 16 instructions"
pub record Formed (recipe : List ℕ) : Type 0 where
  pub list : List Template
  pub some : 1 ≤ length list
  pub most : length list ≤ 16
  pub known : EachKnown list
  pub bytes : recipe ≡ recipe_bytes list

abbrev pub FormedExactly : Type 0
FormedExactly = (recipe : List ℕ) → (misformed recipe ≡ false) ↔ Formed recipe
