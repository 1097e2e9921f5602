-- The claims of specs/Form.antt, each proved under its name.
--     byte_behind, instruction_behind      behind the first five bytes stands a recipe of one instruction fewer
--     Parsed, parsed                       the list that well formed bytes are of
-- Assumes nothing.
use Prim.Native.Nat.{ℕ, zero, suc, ◌+◌, ◌*◌, ◌%◌, ◌≤◌, ◌<◌}
use mathlib.Core.Path.{◌≡◌, refl, sym, ap, ap₂, ◌∙◌}
use mathlib.Core.Bool.{Bool, false, ◌&&◌, ◌||◌, not}
use mathlib.Core.List.{List, [], ◌∷◌, ◌++◌}
use native.Mathlib.Omega.{arith}
use borrow.Author.Tests.{eq-eqb, le-ltb, ltb-false}
use lib.Dec.{T, eqb, ltb, leb, le→leb, lt→ltb}
use lib.ListN.{length, get_or}
use Rattle.state.specs.Below.{some_below}
use Rattle.state.specs.Tabulate.{tabulate, tabulate_from}
use Rattle.state.proofs.Bools.{is_true, is_false, holds, fails, neither, and_both}
use Rattle.state.proofs.Below.{Some, some_by, some_at}
use Rattle.state.proofs.Tabulate.{tabulate_more, same_table}
use Rattle.instructions.specs.Instructions.{Bytes, four_bytes}
use Rattle.recipes.specs.Recipe.{instruction_size, instruction_count, byte_of, operand, instruction_at, recipe_instructions}
use Rattle.recipes.specs.Recipe.{recipe_sized, misformed_operand, misformed_at, misformed}
use Rattle.recipes.specs.declared.Call.{Call}
use Rattle.recipes.proofs.Laws.{whole_count}
use Rattle.recipe_guarantees.specs.Form
use Rattle.recipe_guarantees.specs.Form.{Operand, fixed, parameter, Template, kind_of, value_of, template_bytes, recipe_bytes, meant, meant_by, Known, EachKnown, known_none, known_next, Formed}

-- ---- behind the first instruction
module _ (c ka va kb vb : ℕ) (rest : List ℕ) where
  abbrev five : List ℕ
  five = c ∷ ka ∷ va ∷ kb ∷ vb ∷ rest

  byte_behind : (k i : ℕ) → byte_of five (suc k) i ≡ byte_of rest k i
  byte_behind k i =
      let at : suc k * instruction_size + i ≡ suc (suc (suc (suc (suc (k * instruction_size + i))))) = omega arith in
      ap (λ (n : ℕ). get_or five n 0) at

  instruction_behind : (call : Call) (k : ℕ) → instruction_at call five (suc k) ≡ instruction_at call rest k
  instruction_behind call k =
      let ps = call.parameters in
      λ j. four_bytes (byte_behind k 0 j) call.activator (operand ps (byte_behind k 1 j) (byte_behind k 2 j)) (operand ps (byte_behind k 3 j) (byte_behind k 4 j))

  misformed_behind : (k : ℕ) → misformed_at five (suc k) ≡ misformed_at rest k
  misformed_behind k =
      λ j. misformed_operand (byte_behind k 1 j) (byte_behind k 2 j) || misformed_operand (byte_behind k 3 j) (byte_behind k 4 j)

  count_behind : instruction_count five ≡ suc (instruction_count rest)
  count_behind = omega arith

-- ---- what the instructions mean
operand_meant : (call : Call) (o : Operand) → operand call.parameters (kind_of o) (value_of o) ≡ meant call o
operand_meant call (fixed n) = refl
operand_meant call (parameter n) = refl

-- the first instruction, and the others
first_instruction : (call : Call) (e : Template) (rest : List ℕ)
    → recipe_instructions call (template_bytes e ++ rest) ≡ meant_by call e ∷ recipe_instructions call rest
unfolding recipe_instructions
first_instruction call e rest =
    ap (λ (n : ℕ). tabulate n (instruction_at call bytes)) (count_behind e.code (kind_of e.a) (value_of e.a) (kind_of e.b) (value_of e.b) rest)
    ∙ tabulate_more (instruction_at call bytes) (instruction_count rest)
    ∙ ap₂ (λ (x : Bytes) (l : List Bytes). x ∷ l) first others
  where
    bytes : List ℕ
    bytes = template_bytes e ++ rest

    first : instruction_at call bytes 0 ≡ meant_by call e
    first = λ j. four_bytes e.code call.activator (operand_meant call e.a j) (operand_meant call e.b j)

    others : tabulate (instruction_count rest) (λ k. instruction_at call bytes (suc k)) ≡ tabulate (instruction_count rest) (instruction_at call rest)
    others =
        same_table (λ k. instruction_at call bytes (suc k)) (instruction_at call rest) (meant_by call e) (instruction_count rest)
        (λ k h. instruction_behind e.code (kind_of e.a) (value_of e.a) (kind_of e.b) (value_of e.b) rest call k)

pub recipe_means : Form.RecipeMeans
unfolding recipe_instructions recipe_bytes tabulate tabulate_from
recipe_means call [] = refl
recipe_means call (e ∷ rest) =
    first_instruction call e (recipe_bytes rest) ∙ ap (λ (l : List Bytes). meant_by call e ∷ l) (recipe_means call rest)

-- ---- bytes of a list are well formed
bytes_length : (l : List Template) → length (recipe_bytes l) ≡ length l * 5
unfolding recipe_bytes
bytes_length [] = refl
bytes_length (e ∷ rest) = let others = bytes_length rest in omega arith

known_operand : (o : Operand) → Known o → misformed_operand (kind_of o) (value_of o) ≡ false
known_operand (fixed n) h = refl
known_operand (parameter n) h = le-ltb 3 n h

each_fits : (l : List Template) → EachKnown l → (k : ℕ) → k < length l → misformed_at (recipe_bytes l) k ≡ false
unfolding recipe_bytes
each_fits [] known_none k h = absurd (omega arith)
each_fits (e ∷ rest) (known_next a b others) zero h = ap₂ ◌||◌ (known_operand e.a a) (known_operand e.b b)
each_fits (e ∷ rest) (known_next a b others) (suc k) h =
    misformed_behind e.code (kind_of e.a) (value_of e.a) (kind_of e.b) (value_of e.b) (recipe_bytes rest) k
    ∙ each_fits rest others k (omega arith)

-- ---- well formed bytes are those of a list
-- what a kind and a value are
pub record Told (kind value : ℕ) : Type 0 where
  operand : Operand
  same_kind : kind_of operand ≡ kind
  same_value : value_of operand ≡ value
  known : Known operand

told : (kind value : ℕ) → misformed_operand kind value ≡ false → Told kind value
told zero value e = record { operand = fixed value; same_kind = refl; same_value = refl; known = tt }
told (suc zero) value e = record { operand = parameter value; same_kind = refl; same_value = refl; known = ltb-false 3 value e }
told (suc (suc kind)) value e =
    absurd (fails (neither (ltb 1 (suc (suc kind))) (eqb (suc (suc kind)) 1 && ltb 3 value) e).0 (lt→ltb 1 (suc (suc kind)) (omega arith)))

pub record Parsed (n : ℕ) (bytes : List ℕ) : Type 0 where
  list : List Template
  count : length list ≡ n
  known : EachKnown list
  same : bytes ≡ recipe_bytes list

parsed : (n : ℕ) (bytes : List ℕ) → length bytes ≡ n * 5 → ((k : ℕ) → k < n → misformed_at bytes k ≡ false) → Parsed n bytes
unfolding recipe_bytes
parsed zero [] h fits = record { list = []; count = refl; known = known_none; same = refl }
parsed zero (c ∷ rest) h fits = absurd (omega arith)
parsed (suc n) [] h fits = absurd (omega arith)
parsed (suc n) (c ∷ []) h fits = absurd (omega arith)
parsed (suc n) (c ∷ ka ∷ []) h fits = absurd (omega arith)
parsed (suc n) (c ∷ ka ∷ va ∷ []) h fits = absurd (omega arith)
parsed (suc n) (c ∷ ka ∷ va ∷ kb ∷ []) h fits = absurd (omega arith)
parsed (suc n) (c ∷ ka ∷ va ∷ kb ∷ vb ∷ rest) h fits =
    let first = neither (misformed_operand ka va) (misformed_operand kb vb) (fits 0 (omega arith)) in
    let a = told ka va first.0 in
    let b = told kb vb first.1 in
    let others = parsed n rest (omega arith) (λ k g. sym (misformed_behind c ka va kb vb rest k) ∙ fits (suc k) (omega arith)) in
    record {
      list = record { code = c; a = a.operand; b = b.operand } ∷ others.list;
      count = ap suc others.count;
      known = known_next a.known b.known others.known;
      same = λ j. c ∷ sym a.same_kind j ∷ sym a.same_value j ∷ sym b.same_kind j ∷ sym b.same_value j ∷ others.same j;
    }

-- ---- well formed exactly if of a list
fits_at : (recipe : List ℕ) → misformed recipe ≡ false → (k : ℕ) → k < instruction_count recipe → misformed_at recipe k ≡ false
unfolding misformed
fits_at recipe m k h =
    let none = (neither (not (recipe_sized (length recipe))) (some_below (instruction_count recipe) (misformed_at recipe)) m).1 in
    is_false (misformed_at recipe k) (λ t. fails none (some_by (misformed_at recipe) (instruction_count recipe) k h t))

to_formed : (recipe : List ℕ) → misformed recipe ≡ false → Formed recipe
to_formed recipe m =
    let long = whole_count recipe m in
    let p = parsed (instruction_count recipe) recipe long.0 (fits_at recipe m) in
    let count : length p.list ≡ instruction_count recipe = p.count in
    record { list = p.list; some = rw count long.1; most = rw count long.2; known = p.known; bytes = p.same }

-- a list of 1 to 16 instructions has the length of a recipe
list_sized : (l : List Template) → 1 ≤ length l → length l ≤ 16 → T (recipe_sized (length (recipe_bytes l)))
list_sized l least most =
    let n = length (recipe_bytes l) in
    let long : n ≡ length l * 5 = bytes_length l in
    let whole : n % instruction_size ≡ 0 = omega arith in
    and_both (eqb (n % instruction_size) 0 && leb 5 n) (leb n 80)
    (and_both (eqb (n % instruction_size) 0) (leb 5 n) (holds (eq-eqb (n % instruction_size) 0 whole)) (le→leb 5 n (omega arith)))
    (le→leb n 80 (omega arith))

none_misformed : (l : List Template) → EachKnown l → some_below (instruction_count (recipe_bytes l)) (misformed_at (recipe_bytes l)) ≡ false
none_misformed l known = is_false _ (λ t. found (some_at (misformed_at (recipe_bytes l)) (instruction_count (recipe_bytes l)) t))
  where
    found : Some (misformed_at (recipe_bytes l)) (instruction_count (recipe_bytes l)) → ⊥
    found s =
        let long : length (recipe_bytes l) ≡ length l * 5 = bytes_length l in
        let below : s.place < instruction_count (recipe_bytes l) = s.below in
        fails (each_fits l known s.place (omega arith)) s.met

from_formed : (recipe : List ℕ) → Formed recipe → misformed recipe ≡ false
unfolding misformed
from_formed recipe f =
    rw f.bytes (ap₂ (λ (p q : Bool). not p || q) (is_true (recipe_sized (length (recipe_bytes f.list))) (list_sized f.list f.some f.most)) (none_misformed f.list f.known))

pub formed_exactly : Form.FormedExactly
formed_exactly recipe = (to_formed recipe, from_formed recipe)
