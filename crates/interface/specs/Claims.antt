-- What is claimed of the C interface. Each claim is a type, which proofs/Laws.antt inhabits under the claim's name. The
-- words in quotation marks are those of include/panelrights.h.
use Rattle.std.specs.Prelude.{ℕ, ◌+◌, ◌/◌, ◌%◌, ◌≤◌, ◌<◌, ◌≡◌, ◌↔◌, Bool, false, ◌&&◌, ◌||◌, not, List, [], ◌∷◌, ◌++◌, map, T, eqb, ltb, length, take, drop}
use Rattle.state.specs.Checks.{among}
use Rattle.state.specs.Site.{Site, Shaped, founding}
use Rattle.access.specs.Answer.{longest}
use Rattle.soundness.specs.Sound.{Sound}
use Rattle.records.specs.Record.{bytes_of, is_record, state_of, is_sized}
use Rattle.instructions.specs.Instructions.{Bytes}
use Rattle.refusals.specs.Refusals.{step_numbers}
use Rattle.machine.specs.Step.{step_of, run, question_numbers, reply_of}
use Rattle.guarantees.specs.Demand3.{Upheld}
use Rattle.guarantees.specs.TakingBack.{Opposite, matching_remove}
use Rattle.recipes.specs.Run.{recipe_of}
use Rattle.recipes.specs.declared.Call.{Call}
use Rattle.recipe_guarantees.specs.Claims.{recipe_numbers}
use Rattle.recipe_guarantees.specs.Commands.{Command, after_all, all_counted}
use Rattle.site_file.specs.Reading.{read_numbers, file_refusal, read_of}
use Rattle.site_format.specs.Format.{AreBytes}
use Rattle.label_finder.specs.Finder.{has_label, text_at, text_length, block_at, block_length}
use Rattle.site_encoding.specs.Claims.{most_bytes}
use Rattle.site_encoding.specs.Writer.{write_numbers, write_of, buffer_after}
use Rattle.interface.specs.Interface.{founding_buffer, step_number, step_buffer, answer_of, access_number, file_number}
use Rattle.interface.specs.Interface.{file_buffer, label_number, run_buffer, placed, recipe_answer, recipe_buffer}
use Rattle.interface.specs.Interface.{commands_buffer, block_number, written_number, write_answer, write_buffer}

-- ---- with a state's record, the interface does what the machine does with the state
pub record StepsAs (s : Site) (x : Bytes) : Type 0 where
  pub number : step_number (bytes_of s) x ≡ (step_of s x).refusal
  pub buffer : step_buffer (bytes_of s) x ≡ bytes_of (step_of s x).state

abbrev pub StepIsStep : Type 0
StepIsStep = (s : Site) → Shaped s → (x : Bytes) → StepsAs s x

pub record RecipesAs (s : Site) (bytes : List ℕ) (call : Call) : Type 0 where
  pub number : recipe_answer (bytes_of s) bytes call ≡ placed (recipe_of s bytes call)
  pub buffer : recipe_buffer (bytes_of s) bytes call ≡ bytes_of (recipe_of s bytes call).state

abbrev pub RecipeIsRecipe : Type 0
RecipeIsRecipe = (s : Site) → Shaped s → (bytes : List ℕ) (call : Call) → RecipesAs s bytes call

abbrev pub AccessIsAnswer : Type 0
AccessIsAnswer = (s : Site) → Shaped s → (a b : ℕ) → access_number (bytes_of s) a b ≡ answer_of (reply_of s a b)

-- and the states that it hands out are those that are asked for
abbrev pub FoundingRecord : Type 0
FoundingRecord = (buffer : List ℕ) → T (is_sized buffer) → state_of (founding_buffer buffer) ≡ founding

abbrev pub FileRecord : Type 0
FileRecord = (file buffer : List ℕ) → T (is_sized buffer) → state_of (file_buffer file buffer) ≡ (read_of file).state

-- "31 and no byte written": a state buffer of another length keeps its bytes
abbrev pub FoundingUnwritten : Type 0
FoundingUnwritten = (buffer : List ℕ) → is_sized buffer ≡ false → founding_buffer buffer ≡ buffer

abbrev pub FileUnwritten : Type 0
FileUnwritten = (file buffer : List ℕ) → is_sized buffer ≡ false → file_buffer file buffer ≡ buffer

-- ---- a program that keeps a record and calls one instruction after the other has the machine's state
abbrev pub RunIsRun : Type 0
RunIsRun =
    (buffer : List ℕ) → T (is_record buffer) → (list : List Bytes)
    → run_buffer buffer list ≡ bytes_of (run (state_of buffer) list)

-- so the third demand holds of its records: from any record of a sound state, for every list of instructions
abbrev pub RecordsUpheld : Type 0
RecordsUpheld =
    (buffer : List ℕ) → Sound (state_of buffer) → (list : List Bytes)
    → Upheld (state_of buffer) list (state_of (run_buffer buffer list))

-- and a program that calls recipes too has the state after its commands
abbrev pub CommandsAreCommands : Type 0
CommandsAreCommands =
    (buffer : List ℕ) → T (is_record buffer) → (cs : List Command)
    → commands_buffer buffer cs ≡ bytes_of (after_all (state_of buffer) cs)

-- so the third demand holds of its records, where an accepted recipe counts as its instructions and a refused one as
-- none (document 02, point 1)
abbrev pub RecordsUpheldByCommands : Type 0
RecordsUpheldByCommands =
    (buffer : List ℕ) → Sound (state_of buffer) → (cs : List Command)
    → Upheld (state_of buffer) (all_counted (state_of buffer) cs) (state_of (commands_buffer buffer cs))

-- ---- document 02, point 7: "An add (an odd code) that got 0 is taken back by the matching remove: code + 1, with the
-- same activator, a and b." That each add has its remove, and that it is the next code, is EveryAdd (guarantees).
-- "While the record is as the add left it, the remove gets 0, and every byte is then as it was before the add",
-- whatever bytes the buffer has.
pub record BytesTakenBack (buffer : List ℕ) (x y : Bytes) : Type 0 where
  pub accepted : step_number (step_buffer buffer x) y ≡ 0
  pub same_bytes : step_buffer (step_buffer buffer x) y ≡ buffer

abbrev pub TakingBackBytes : Type 0
TakingBackBytes =
    (buffer : List ℕ) (x : Bytes) (remove : ℕ) → Opposite x.code remove → step_number buffer x ≡ 0
    → BytesTakenBack buffer x (matching_remove remove x)

-- ---- "or the refusal, and no byte is changed"
abbrev pub RefusedSameBytes : Type 0
RefusedSameBytes = (buffer : List ℕ) (x : Bytes) → (step_number buffer x ≡ 0 → ⊥) → step_buffer buffer x ≡ buffer

abbrev pub RefusedRecipeSameBytes : Type 0
RefusedRecipeSameBytes =
    (buffer bytes : List ℕ) (call : Call) → (recipe_answer buffer bytes call ≡ 0 → ⊥)
    → recipe_buffer buffer bytes call ≡ buffer

-- "A record of another length is 12."
abbrev pub NoRecordIs12 : Type 0
NoRecordIs12 = (buffer : List ℕ) (x : Bytes) → is_record buffer ≡ false → step_number buffer x ≡ 12

abbrev pub NoRecordNoRecipe : Type 0
NoRecordNoRecipe =
    (buffer bytes : List ℕ) (call : Call) → is_record buffer ≡ false → recipe_answer buffer bytes call ≡ 12

abbrev pub NoRecordNoAnswer : Type 0
NoRecordNoAnswer = (buffer : List ℕ) (a b : ℕ) → is_record buffer ≡ false → access_number buffer a b ≡ 256 + 12

-- neither a step nor a recipe changes how long the buffer is
abbrev pub StepLength : Type 0
StepLength = (buffer : List ℕ) (x : Bytes) → length (step_buffer buffer x) ≡ length buffer

abbrev pub RecipeLength : Type 0
RecipeLength =
    (buffer bytes : List ℕ) (call : Call) → length (recipe_buffer buffer bytes call) ≡ length buffer

-- ---- no other numbers come back
abbrev pub StepNumbers : Type 0
StepNumbers = (buffer : List ℕ) (x : Bytes) → T (among (step_number buffer x) (0 ∷ step_numbers))

-- of a recipe's answer the two parts, whatever bytes the buffer has, and the numbers that come back; the place is 1 to
-- 16 for the refusal of an instruction, 0 beside 0, 12 and 14 and nowhere else
pub record AnswerParts (buffer bytes : List ℕ) (call : Call) (n : ℕ) : Type 0 where
  pub refusal : n % 256 ≡ (recipe_of (state_of buffer) bytes call).refusal
  pub place : n / 256 ≡ (recipe_of (state_of buffer) bytes call).place
  pub known : T (among (n % 256) (0 ∷ recipe_numbers))
  pub most : n / 256 ≤ 16
  pub place_0 : (n / 256 ≡ 0) ↔ T (among (n % 256) (0 ∷ 12 ∷ 14 ∷ []))

abbrev pub RecipeAnswerParts : Type 0
RecipeAnswerParts =
    (buffer bytes : List ℕ) (call : Call) → AnswerParts buffer bytes call (recipe_answer buffer bytes call)

abbrev pub FileNumbers : Type 0
FileNumbers = (file buffer : List ℕ) → T (among (file_number file buffer) (31 ∷ 0 ∷ read_numbers))

-- 255; 256 + n for a refusal of the question; or a number of steps
abbrev pub is_access_number : ℕ → Bool
is_access_number n = eqb n 255 || among n (map (λ k. 256 + k) question_numbers) || not (ltb longest n)

abbrev pub AccessNumbers : Type 0
AccessNumbers = (buffer : List ℕ) (a b : ℕ) → T (is_access_number (access_number buffer a b))

-- ---- the two parts of a label's number, and where it is 0
pub record LabelParts (file : List ℕ) (a : ℕ) : Type 0 where
  pub offset : label_number file a / 65536 ≡ text_at file a
  pub size : label_number file a % 65536 ≡ text_length file a

abbrev pub LabelNumberParts : Type 0
LabelNumberParts = (file : List ℕ) → AreBytes file → (a : ℕ) → LabelParts file a

abbrev pub NoLabelIs0 : Type 0
NoLabelIs0 = (file : List ℕ) (a : ℕ) → (label_number file a ≡ 0) ↔ (has_label file a ≡ false)

-- ---- and those of a block's number; with no label the block has the length 0, and its number is not 0
pub record BlockParts (file : List ℕ) : Type 0 where
  pub offset : block_number file / 65536 ≡ block_at file
  pub size : block_number file % 65536 ≡ block_length file

abbrev pub BlockNumberParts : Type 0
BlockNumberParts = (file : List ℕ) → AreBytes file → BlockParts file

-- "0 if the file is refused", and for no other
abbrev pub NoBlockIs0 : Type 0
NoBlockIs0 = (file : List ℕ) → (block_number file ≡ 0) ↔ (file_refusal file ≡ 0 → ⊥)

-- ---- the writer
-- with a state's record, the interface does what the writer does with the state
pub record WritesAs (s : Site) (block file : List ℕ) : Type 0 where
  pub answer : write_answer (bytes_of s) block file ≡ written_number (write_of s block file)
  pub buffer : write_buffer (bytes_of s) block file ≡ buffer_after s block file

abbrev pub WriteIsWrite : Type 0
WriteIsWrite = (s : Site) → Shaped s → (block file : List ℕ) → WritesAs s block file

-- "A record of another length is 12.", "and no byte is changed"
pub record UnwrittenAs12 (buffer block file : List ℕ) : Type 0 where
  pub answer : write_answer buffer block file ≡ 65536 + 12
  pub same_bytes : write_buffer buffer block file ≡ file

abbrev pub NoRecordNoFile : Type 0
NoRecordNoFile = (buffer block file : List ℕ) → is_record buffer ≡ false → UnwrittenAs12 buffer block file

-- "or 65536 + n for refusal n, which is 12, 30 or 31, and no byte is changed"
abbrev pub RefusedWriteSameBytes : Type 0
RefusedWriteSameBytes =
    (buffer block file : List ℕ) → 65536 ≤ write_answer buffer block file → write_buffer buffer block file ≡ file

-- the buffer stays as long as it was
abbrev pub WriteLength : Type 0
WriteLength = (buffer block file : List ℕ) → length (write_buffer buffer block file) ≡ length file

-- "bytes past the length keep their content"
abbrev pub WritePast : Type 0
WritePast =
    (buffer block file : List ℕ) → write_answer buffer block file < 65536
    → drop (write_answer buffer block file) (write_buffer buffer block file) ≡ drop (write_answer buffer block file) file

-- "A buffer of just the file's length will do": what is written into one buffer is written into any that is no shorter
-- than the file
pub record SameFile (buffer block file room : List ℕ) (n : ℕ) : Type 0 where
  pub answer : write_answer buffer block room ≡ n
  pub bytes : write_buffer buffer block room ≡ take n (write_buffer buffer block file) ++ drop n room

abbrev pub LengthWillDo : Type 0
LengthWillDo =
    (buffer block file : List ℕ) → write_answer buffer block file < 65536
    → (room : List ℕ) → write_answer buffer block file ≤ length room
    → SameFile buffer block file room (write_answer buffer block file)

-- "and one of PANELRIGHTS_FILE_MOST bytes always does": it is never refused as 31
abbrev pub MostAlwaysDoes : Type 0
MostAlwaysDoes =
    (buffer block file : List ℕ) → most_bytes ≤ length file → write_answer buffer block file ≡ 65536 + 31 → ⊥

-- 65536 + n where n is 12, 30 or 31; or a length, from 30 to PANELRIGHTS_FILE_MOST
abbrev pub is_write_answer : ℕ → Bool
is_write_answer n = among n (map (λ k. 65536 + k) write_numbers) || not (ltb n 30) && not (ltb most_bytes n)

abbrev pub WriteAnswers : Type 0
WriteAnswers = (buffer block file : List ℕ) → T (is_write_answer (write_answer buffer block file))

-- "What was written is read again, as the same record and the same label block"
pub record ReadAgain (buffer block file into : List ℕ) : Type 0 where
  pub accepted : file_number file into ≡ 0
  pub record_bytes : file_buffer file into ≡ buffer
  pub label_bytes : take (block_length file) (drop (block_at file) file) ≡ block

abbrev pub WrittenIsRead : Type 0
WrittenIsRead =
    (buffer block file : List ℕ) → write_answer buffer block file < 65536 → (into : List ℕ) → T (is_sized into)
    → ReadAgain buffer block (take (write_answer buffer block file) (write_buffer buffer block file)) into

-- "An accepted file is written again from its record and its label block, byte for byte."
pub record WrittenAgain (file buffer block room : List ℕ) : Type 0 where
  pub answer : write_answer buffer block room ≡ length file
  pub bytes : write_buffer buffer block room ≡ file ++ drop (length file) room

abbrev pub ReadIsWritten : Type 0
ReadIsWritten =
    (file into : List ℕ) → AreBytes file → file_number file into ≡ 0
    → (room : List ℕ) → length file ≤ length room
    → WrittenAgain file (file_buffer file into) (take (block_length file) (drop (block_at file) file)) room
