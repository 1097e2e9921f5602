-- The C interface: what each function answers, and what the buffers hold afterwards. A state crosses as its record of
-- 1,040 bytes (records, Record); a buffer is the list of its bytes, and its length is that of the list. The words in
-- quotation marks are those of include/panelrights.h.
--     record_size                      panelrights_state_bytes (records, Record)
--     number_for, founding_buffer      panelrights_founding (the first: records, Record)
--     answered_by, changed_by          what panelrights_step and panelrights_recipe have in common
--     step_number, step_buffer         panelrights_step
--     recipe_answer, recipe_buffer     panelrights_recipe
--     access_number                    panelrights_access
--     explain_answer, explain_buffer   panelrights_explain
--     explain_step_answer              panelrights_explain_step
--     file_number, file_buffer         panelrights_read_file
--     place_number                     what panelrights_label and panelrights_labels have in common
--     label_number                     panelrights_label
--     block_number                     panelrights_labels
--     write_answer, write_buffer       panelrights_write_file
--     lowest                           panelrights_lowest_mark (marks, Marks)
--     run_buffer                       one call of panelrights_step after the other
--     commands_buffer                  one call of panelrights_step or panelrights_recipe after the other
use Rattle.std.specs.Prelude.{ℕ, ◌+◌, ◌*◌, cond, Option, Some, None, List, [], ◌∷◌, eqb}
use Rattle.state.specs.Site.{Site, founding}
use Rattle.access.specs.Answer.{answer_number}
use Rattle.records.specs.Record.{bytes_of, is_record, state_of, is_sized, stored}
use Rattle.instructions.specs.Instructions.{Bytes}
use Rattle.machine.specs.Step.{step_of, Reply, Refused, Answered, reply_of}
use Rattle.reasons.specs.Explanation.{Explanation, Unexplained, ByChain, ByCounts, explanation_of, explained_buffer}
use Rattle.reasons.specs.Lost.{lost_kind, lost_object, lost_area, StepReason, step_reason_of}
use Rattle.reasons.specs.declared.Lost.{Lost}
use Rattle.reasons.specs.declared.Lost.TheVariants.{Import as LostImport, Export as LostExport}
use Rattle.recipes.specs.Run.{RecipeVerdict, recipe_of}
use Rattle.recipes.specs.declared.Call.{Call}
use Rattle.recipe_guarantees.specs.Commands.{Command, single, recipe}
use Rattle.site_file.specs.Reading.{read_of}
use Rattle.label_finder.specs.Finder.{place_of, block_place}
use Rattle.label_finder.specs.declared.Place.{Place}
use Rattle.output.specs.Buffer.{Written}
use Rattle.site_encoding.specs.Writer.{write_of, buffer_after}

-- ---- panelrights_founding
-- "Writes the record of the founding state" .. "0; or 31 and no byte written, if state_len is not
-- panelrights_state_bytes()."
abbrev pub founding_buffer : (buffer : List ℕ) → List ℕ
founding_buffer buffer = stored buffer founding

-- ---- what changes a record in place: a number by the state, 0 for what is accepted, and the state after it
-- "A record of another length is 12."
unfoldable pub answered_by : (number : Site → ℕ) → (buffer : List ℕ) → ℕ
answered_by number buffer = cond (is_record buffer) (number (state_of buffer)) 12

-- "0, and the record is that of the state after it; or the refusal, and no byte is changed." So it is said of a step; a
-- recipe has its place beside the refusal.
unfoldable pub changed_by : (number : Site → ℕ) (next : Site → Site) → (buffer : List ℕ) → List ℕ
changed_by number next buffer = cond (eqb (answered_by number buffer) 0) (bytes_of (next (state_of buffer))) buffer

-- ---- panelrights_step
abbrev pub step_number : (buffer : List ℕ) → Bytes → ℕ
step_number buffer x = answered_by (λ s. (step_of s x).refusal) buffer

abbrev pub step_buffer : (buffer : List ℕ) → Bytes → List ℕ
step_buffer buffer x = changed_by (λ s. (step_of s x).refusal) (λ s. (step_of s x).state) buffer

-- ---- panelrights_recipe
-- what comes with the call: the activator, and p0 to p3
abbrev pub call_of : (activator p0 p1 p2 p3 : ℕ) → Call
call_of activator p0 p1 p2 p3 = record { activator = activator; parameters = p0 ∷ p1 ∷ p2 ∷ p3 ∷ [] }

-- "place * 256 + number", so 0 is accepted
abbrev pub placed : RecipeVerdict → ℕ
placed v = v.place * 256 + v.refusal

abbrev pub recipe_answer : (buffer bytes : List ℕ) → Call → ℕ
recipe_answer buffer bytes call = answered_by (λ s. placed (recipe_of s bytes call)) buffer

abbrev pub recipe_buffer : (buffer bytes : List ℕ) → Call → List ℕ
recipe_buffer buffer bytes call =
    changed_by (λ s. placed (recipe_of s bytes call)) (λ s. (recipe_of s bytes call).state) buffer

-- ---- panelrights_access
-- the number of steps, "255 for no access; 256 + n for refusal n"
abbrev pub answer_of : Reply → ℕ
answer_of (Answered x) = answer_number x
answer_of (Refused n) = 256 + n

unfoldable pub access_number : (buffer : List ℕ) (a b : ℕ) → ℕ
access_number buffer a b = answer_of (cond (is_record buffer) (reply_of (state_of buffer) a b) (Refused 12))

-- ---- panelrights_explain
-- "With access, the chain" .. "The answer is how many areas it has"; "Without access, the counts" .. "The answer is 512
-- + 32"; "For refusal r the answer is 256 + r"
abbrev pub explanation_code : Explanation → ℕ
explanation_code (ByChain count) = count
explanation_code (ByCounts count) = 512 + count
explanation_code (Unexplained n) = 256 + n

-- bytes that are no record give the state of nothing, which is not sound: so 12, behind 31 (claim NoRecordUnexplained)
abbrev pub explain_answer : (buffer : List ℕ) (a b : ℕ) (into : List ℕ) → ℕ
explain_answer buffer a b into = explanation_code (explanation_of (state_of buffer) a b into)

-- "Writes into the buffer, from its front on", "Bytes not written keep their content"
abbrev pub explain_buffer : (buffer : List ℕ) (a b : ℕ) (into : List ℕ) → List ℕ
explain_buffer buffer a b into = explained_buffer (state_of buffer) a b into

-- ---- panelrights_explain_step
-- "256 * lost + 65536 * object + 16777216 * area"
abbrev pub lost_code : Option Lost → ℕ
lost_code x = 256 * lost_kind x + 65536 * lost_object x + 16777216 * lost_area x

-- "number + 256 * lost + 65536 * object + 16777216 * area"
abbrev pub reason_code : StepReason → ℕ
reason_code r = r.refusal + lost_code r.lost

abbrev pub explain_step_answer : (buffer : List ℕ) → Bytes → ℕ
explain_step_answer buffer x = reason_code (step_reason_of (state_of buffer) x)

-- the pair that three numbers stand for
abbrev pub lost_of_parts : (kind o a : ℕ) → Option Lost
lost_of_parts kind o a =
    cond (eqb kind 1) (Some (LostImport (record { object = o; area = a })))
    (cond (eqb kind 2) (Some (LostExport (record { object = o; area = a }))) None)

-- ---- panelrights_read_file
-- "31 and no byte written, whatever the file has, if state_len is not panelrights_state_bytes()", else the file's
-- number
unfoldable pub file_number : (file buffer : List ℕ) → ℕ
file_number file buffer = cond (is_sized buffer) (read_of file).refusal 31

-- "0, and the record is that of the file's state; or the refusal, 21 to 29, and the record is that of the founding
-- state": `read_of` has the state for both
abbrev pub file_buffer : (file buffer : List ℕ) → List ℕ
file_buffer file buffer = stored buffer (read_of file).state

-- ---- a place in a file, as panelrights_label and panelrights_labels answer it
-- "offset * 65536 + length"
abbrev pub place_number : Place → ℕ
place_number p = p.at * 65536 + p.length

-- ---- panelrights_label
-- "Where the text of the area's label stands in the file: offset * 65536 + length. 0 if there is none"
abbrev pub label_number : (file : List ℕ) (a : ℕ) → ℕ
label_number file a = place_number (place_of file a)

-- ---- panelrights_labels
-- "Where the label block of the file stands: offset * 65536 + length. 0 if the file is refused"
abbrev pub block_number : (file : List ℕ) → ℕ
block_number file = place_number (block_place file)

-- ---- panelrights_write_file
-- "The length of the file" .. "or 65536 + n for refusal n"
abbrev pub written_number : Written → ℕ
written_number w = cond (eqb w.refusal 0) w.length (65536 + w.refusal)

-- "A record of another length is 12."
unfoldable pub write_answer : (buffer block file : List ℕ) → ℕ
write_answer buffer block file =
    cond (is_record buffer) (written_number (write_of (state_of buffer) block file)) (65536 + 12)

-- "bytes past the length keep their content" .. "and no byte is changed"
unfoldable pub write_buffer : (buffer block file : List ℕ) → List ℕ
write_buffer buffer block file = cond (is_record buffer) (buffer_after (state_of buffer) block file) file

-- ---- a program that calls panelrights_step for one instruction after the other
unfoldable pub run_buffer : (buffer : List ℕ) → List Bytes → List ℕ
run_buffer buffer [] = buffer
run_buffer buffer (x ∷ rest) = run_buffer (step_buffer buffer x) rest

-- ---- and one that calls panelrights_recipe too
abbrev pub command_buffer : (buffer : List ℕ) → Command → List ℕ
command_buffer buffer (single x) = step_buffer buffer x
command_buffer buffer (recipe bytes call) = recipe_buffer buffer bytes call

unfoldable pub commands_buffer : (buffer : List ℕ) → List Command → List ℕ
commands_buffer buffer [] = buffer
commands_buffer buffer (c ∷ rest) = commands_buffer (command_buffer buffer c) rest
