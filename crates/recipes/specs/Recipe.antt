-- A recipe (document 02, point 1, 'Site recipes'): its bytes, the instructions that they are with what comes with a
-- call, and what is refused as 14.
--     instruction_size, instruction_count, byte_of   the bytes of each instruction
--     operand, instruction_at, recipe_instructions   the instructions, with the activator and the parameters of a call
--     recipe_sized, misformed_operand, misformed     14
use Rattle.std.specs.Prelude.{ℕ, ◌+◌, ◌*◌, ◌/◌, ◌%◌, Bool, ◌&&◌, ◌||◌, not, cond, List, eqb, ltb, leb, length, get_or}
use Rattle.state.specs.Below.{some_below}
use Rattle.state.specs.Tabulate.{tabulate}
use Rattle.instructions.specs.Instructions.{Bytes, four_bytes}
use Rattle.recipes.specs.declared.Call.{Call}

-- "Each instruction is five bytes"
abbrev pub instruction_size : ℕ
instruction_size = 5

-- how many instructions the recipe has
abbrev pub instruction_count : (recipe : List ℕ) → ℕ
instruction_count recipe = length recipe / instruction_size

-- byte i of instruction k: "code, then for a and for b a kind byte (0 fixed, 1 parameter) and a value". k is counted
-- from 0; the place of instruction k is k + 1 (Run).
abbrev pub byte_of : (recipe : List ℕ) → (k i : ℕ) → ℕ
byte_of recipe k i = get_or recipe (k * instruction_size + i) 0

-- ---- the instructions
-- the number that a kind and a value stand for: with 1 the parameter of that number, with 0 the value itself; a kind
-- above 1 is 14, and never gets here
abbrev pub operand : (parameters : List ℕ) → (kind value : ℕ) → ℕ
operand parameters kind value = cond (eqb kind 1) (get_or parameters value 0) value

-- "Parameters 0 to 3 and the one activator come with the call."
abbrev pub instruction_at : Call → (recipe : List ℕ) → ℕ → Bytes
instruction_at call recipe k =
    four_bytes (byte_of recipe k 0) call.activator
    (operand call.parameters (byte_of recipe k 1) (byte_of recipe k 2))
    (operand call.parameters (byte_of recipe k 3) (byte_of recipe k 4))

unfoldable pub recipe_instructions : Call → (recipe : List ℕ) → List Bytes
recipe_instructions call recipe = tabulate (instruction_count recipe) (instruction_at call recipe)

-- ---- 14: "A length that is not a multiple of 5 from 5 to 80, a kind above 1 or a parameter above 3"
-- n is "a multiple of 5 from 5 to 80"
abbrev pub recipe_sized : ℕ → Bool
recipe_sized n = eqb (n % instruction_size) 0 && leb 5 n && leb n 80

-- "a kind above 1 or a parameter above 3": the value is a parameter's number where the kind is 1
abbrev pub misformed_operand : (kind value : ℕ) → Bool
misformed_operand kind value = ltb 1 kind || (eqb kind 1 && ltb 3 value)

-- of instruction k, for a or for b
abbrev pub misformed_at : (recipe : List ℕ) → ℕ → Bool
misformed_at recipe k =
    misformed_operand (byte_of recipe k 1) (byte_of recipe k 2)
    || misformed_operand (byte_of recipe k 3) (byte_of recipe k 4)

unfoldable pub misformed : (recipe : List ℕ) → Bool
misformed recipe = not (recipe_sized (length recipe)) || some_below (instruction_count recipe) (misformed_at recipe)
