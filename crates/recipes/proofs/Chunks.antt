-- The instructions of a recipe as the parts of five bytes that an iterator gives.
--     Left, first_left                 what is left behind so many of them, and before the first
--     IsInstruction, next_left         the next: what its bytes are, and what is left then
--     none_left                        there is no next
--     same_misformed, same_instruction what the bytes of instruction k say is what the recipe says there
-- Assumes nothing.
use Rattle.std.proofs.Common.{◌≡◌, ℕ, ◌+◌, ◌*◌, ◌/◌, ◌<◌, ◌≤◌, List, ◌++◌, length, get_or, drop, refl, sym, ap, ap₂, ◌∙◌, Some, None, Bor, arith, length-append, length-drop, ◌||◌}
use Rattle.std.proofs.Math.Seq.{drop-append_seam}
use Rattle.std.proofs.lemmas.List.{get_or_append_left, get_or-drop, drop-drop}
use Rattle.std.specs.Slice.Iter.{chunks_exact_rest, chunks_exact_size, chunks_exact_steps}
use Rattle.std.specs.declared.slice.ChunksExact.{ChunksExact}
use Rattle.recipes.specs.Recipe.{instruction_count, instruction_at, misformed_operand, misformed_at}
use Rattle.recipes.specs.declared.Call.{Call}

pub record Left (recipe : List ℕ) (k : ℕ) (parts : ChunksExact ℕ) : Type 0 where
  pub size : chunks_exact_size parts ≡ 5
  pub rest : chunks_exact_rest parts ≡ drop (k * 5) recipe
  pub within : k ≤ instruction_count recipe

pub first_left : (recipe : List ℕ) {k : ℕ} (parts : ChunksExact ℕ) → k ≡ 0 → chunks_exact_size parts ≡ 5 → chunks_exact_rest parts ≡ recipe
    → Left recipe k parts
first_left recipe parts none size rest = rw none (record { size = size; rest = rest; within = omega arith })

-- these are the bytes of instruction k
pub record IsInstruction (recipe : List ℕ) (k : ℕ) (part : List ℕ) : Type 0 where
  pub inside : k < instruction_count recipe
  pub bytes : (i : ℕ) → i < 5 → get_or part i 0 ≡ get_or recipe (k * 5 + i) 0

module _ (recipe : List ℕ) (k : ℕ) (parts parts' : ChunksExact ℕ) (left : Left recipe k parts) where
  pub next_left : (part : Bor (List ℕ)) → chunks_exact_steps parts (Some part) parts' → IsInstruction recipe k part.now × Left recipe (k + 1) parts'
  next_left part (size, (split, long), _) =
      let whole : part.now ++ chunks_exact_rest parts' ≡ drop (k * 5) recipe = sym split ∙ left.rest in
      let five : length part.now ≡ 5 = long ∙ left.size in
      let most : 5 ≤ length (drop (k * 5) recipe) = omega (arith, ap length whole, length-append part.now (chunks_exact_rest parts')) in
      let inside : k < length recipe / 5 = omega (arith, most, length-drop (k * 5) recipe) in
      let behind : drop 5 (part.now ++ chunks_exact_rest parts') ≡ chunks_exact_rest parts' =
      ap (λ (n : ℕ). drop n (part.now ++ chunks_exact_rest parts')) (sym five) ∙ drop-append_seam part.now (chunks_exact_rest parts') in
      let next : k * 5 + 5 ≡ (k + 1) * 5 = omega arith in (
        record {
          inside = inside;
          bytes = λ i h.
              sym (get_or_append_left part.now (chunks_exact_rest parts') 0 i (omega arith))
              ∙ ap (λ (l : List ℕ). get_or l i 0) whole
              ∙ get_or-drop (k * 5) recipe i 0;
        },
        record {
          size = size ∙ left.size;
          rest = sym behind ∙ ap (drop 5) whole ∙ drop-drop 5 (k * 5) recipe ∙ ap (λ (n : ℕ). drop n recipe) next;
          within = omega (arith, inside);
        },
      )

  pub none_left : chunks_exact_steps parts None parts' → instruction_count recipe ≤ k
  none_left (size, (short, _), _) = omega (arith, short, left.size, ap length left.rest, length-drop (k * 5) recipe)

module _ (recipe : List ℕ) (k : ℕ) (part : List ℕ) (is : IsInstruction recipe k part) where
  pub same_misformed : misformed_at part 0 ≡ misformed_at recipe k
  same_misformed =
      ap₂ ◌||◌ (ap₂ misformed_operand (is.bytes 1 (omega arith)) (is.bytes 2 (omega arith)))
      (ap₂ misformed_operand (is.bytes 3 (omega arith)) (is.bytes 4 (omega arith)))

  pub same_instruction : (call : Call) → instruction_at call part 0 ≡ instruction_at call recipe k
  same_instruction call =
      rw (is.bytes 0 (omega arith), is.bytes 1 (omega arith), is.bytes 2 (omega arith), is.bytes 3 (omega arith), is.bytes 4 (omega arith)) refl
