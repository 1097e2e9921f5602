-- The claims of specs/Claims.antt, each proved under its name.
-- Assumes nothing.
use Prim.Native.Nat.{ℕ, ◌+◌, ◌*◌, ◌/◌, ◌%◌, ◌≤◌, ◌<◌}
use mathlib.Core.Path.{◌≡◌, refl, sym, ap, subst, ◌∙◌}
use mathlib.Core.Logic.{◌⊎◌, inl, inr, ⊎_elim}
use mathlib.Core.Bool.{Bool, true, false, ◌&&◌, ◌||◌, not, cond}
use mathlib.Core.List.{List, [], ◌∷◌, ◌++◌, map}
use native.Mathlib.Omega.{arith}
use Rattle.std.specs.Prelude.{Some, None}
use lib.Dec.{T, eqb, ltb, eqb→eq}
use lib.ListN.{length, take, drop}
use lib.Seq.{take-append_seam, drop-append_seam}
use borrow.Author.Tests.{le-ltb}
use Rattle.state.specs.Checks.{first_met, among}
use Rattle.state.specs.Site.{founding}
use Rattle.state.specs.Site.{Site}
use Rattle.state.proofs.Bools.{or_right, or_cases, is_true, test}
use Rattle.state.proofs.Checks.{first_meets, among_meets}
use Rattle.state.proofs.Laws.{founding_shaped}
use Rattle.access.specs.Lending.{Lending, lending}
use Rattle.access.specs.Answer.{Answer, answer, answer_number, longest}
use Rattle.access.proofs.Laws.{answer_is_right}
use Rattle.access.specs.Claims.{Right}
use Rattle.records.specs.Record.{record_size, bytes_of, is_record, state_of, is_sized}
use Rattle.records.proofs.Laws.{state_shaped, state_of_bytes, bytes_of_state, stored_sized, stored_other}
use Rattle.machine.specs.Step.{step_of, run, question_refusals, Refused, Answered, reply_of, question_numbers}
use Rattle.instructions.specs.Instructions.{Bytes}
use Rattle.guarantees.specs.Demand3.{Upheld}
use Rattle.guarantees.specs.TakingBack.{matching_remove, TakenBack}
use Rattle.machine.proofs.Laws.{run_none, run_more, reply_by_first}
use Rattle.machine.proofs.Laws as machine
use Rattle.guarantees.proofs.Demand3.{demand_3}
use Rattle.guarantees.proofs.TakingBack.{taking_back}
use Rattle.recipes.specs.Run.{recipe_of}
use Rattle.recipe_guarantees.specs.Commands.{Command, single, recipe, after, after_all, all_counted}
use Rattle.recipe_guarantees.proofs.Laws.{recipe_numbers_lem, recipe_two_digits, place_at_most, place_zero_exactly}
use Rattle.recipe_guarantees.proofs.Commands.{commands_upheld}
use Rattle.site_file.specs.Reading.{file_refusal, read_of, read_numbers}
use Rattle.label_finder.specs.Finder.{has_label, text_at, text_length, block_at, block_length}
use Rattle.site_file.proofs.Laws.{read_sound, read_numbers_lem, read_number}
use Rattle.site_format.specs.Format.{labels, part}
use Rattle.label_finder.proofs.Laws.{label_small, label_behind_front, no_label_at_front, block_small, block_is_labels, no_block_refused}
use Rattle.site_encoding.specs.Encode.{encode}
use Rattle.site_encoding.specs.Claims.{most_bytes}
use Rattle.site_encoding.proofs.Laws.{encode_accepted, encode_most, encode_least}
use Rattle.site_encoding.specs.Writer.{write_numbers, write_refusal, write_of, buffer_after}
use Rattle.site_encoding.proofs.WriterLaws.{refused_exactly, write_numbers_lem, buffer_length, writing_again}
use Rattle.interface.specs.Interface.{changed_by, step_buffer, answer_of, access_number, file_number, file_buffer, run_buffer}
use Rattle.interface.specs.Interface.{placed, recipe_answer, command_buffer, commands_buffer, written_number, write_answer, write_buffer}
use Rattle.interface.specs.Claims
use Rattle.interface.specs.Claims.{is_access_number, is_write_answer, WrittenAgain}
use Rattle.interface.proofs.Steps
use Rattle.interface.proofs.Steps.{Obeys, command_number}
use Rattle.interface.proofs.Writes
use Rattle.interface.proofs.Writes.{Wrote, Refuses}

-- ---- a state's record
pub step_is_step : Claims.StepIsStep
step_is_step s h x = record { number = Steps.state_number (Steps.steps x) s h; buffer = Steps.state_after (Steps.steps x) s h }

pub recipe_is_recipe : Claims.RecipeIsRecipe
recipe_is_recipe s h bytes call =
    record { number = Steps.state_number (Steps.recipes bytes call) s h; buffer = Steps.state_after (Steps.recipes bytes call) s h }

pub access_is_answer : Claims.AccessIsAnswer
access_is_answer s h a b = Steps.reply_is (bytes_of s) a b ∙ ap (λ (t : Site). answer_of (reply_of t a b)) (state_of_bytes s h)

pub founding_record : Claims.FoundingRecord
founding_record buffer t = ap state_of (stored_sized buffer founding (eqb→eq (length buffer) record_size t)) ∙ state_of_bytes founding founding_shaped

pub file_record : Claims.FileRecord
file_record file buffer t =
    let s = (read_of file).state in
    ap state_of (stored_sized buffer s (eqb→eq (length buffer) record_size t)) ∙ state_of_bytes s (read_sound file).shaped

pub founding_unwritten : Claims.FoundingUnwritten
founding_unwritten buffer e = stored_other buffer founding e

pub file_unwritten : Claims.FileUnwritten
file_unwritten file buffer e = stored_other buffer (read_of file).state e

-- ---- a list of instructions
pub run_is_run : Claims.RunIsRun
unfolding run_buffer
run_is_run buffer t [] = sym (bytes_of_state buffer t) ∙ ap bytes_of (sym (run_none (state_of buffer)))
run_is_run buffer t (x ∷ rest) =
    let o = Steps.steps x in
    run_is_run (step_buffer buffer x) (Steps.next_record o buffer t) rest
    ∙ ap bytes_of (ap (λ (s : Site). run s rest) (Steps.next_state o buffer t) ∙ sym (run_more (state_of buffer) x rest))

pub records_upheld : Claims.RecordsUpheld
records_upheld buffer h list =
    let after = run (state_of buffer) list in
    let upheld = demand_3 (state_of buffer) list h in
    let same : state_of (run_buffer buffer list) ≡ after = ap state_of (run_is_run buffer (Steps.sound_record buffer h) list) ∙ state_of_bytes after upheld.sound.shaped in
    subst (λ (t : Site). Upheld (state_of buffer) list t) (sym same) upheld

-- ---- a list of commands
obeying : (c : Command) → Obeys (command_number c) (λ s. after s c)
obeying (single x) = Steps.steps x
obeying (recipe bytes call) = Steps.recipes bytes call

by_command : (buffer : List ℕ) (c : Command) → command_buffer buffer c ≡ changed_by (command_number c) (λ s. after s c) buffer
by_command buffer (single x) = refl
by_command buffer (recipe bytes call) = refl

pub commands_are_commands : Claims.CommandsAreCommands
unfolding commands_buffer after_all
commands_are_commands buffer t [] = sym (bytes_of_state buffer t)
commands_are_commands buffer t (c ∷ rest) =
    let o = obeying c in
    ap (λ (l : List ℕ). commands_buffer l rest) (by_command buffer c)
    ∙ commands_are_commands (changed_by (command_number c) (λ s. after s c) buffer) (Steps.next_record o buffer t) rest
    ∙ ap (λ (s : Site). bytes_of (after_all s rest)) (Steps.next_state o buffer t)

pub records_upheld_by_commands : Claims.RecordsUpheldByCommands
records_upheld_by_commands buffer h cs =
    let end = after_all (state_of buffer) cs in
    let upheld = commands_upheld (state_of buffer) cs h in
    let same : state_of (commands_buffer buffer cs) ≡ end = ap state_of (commands_are_commands buffer (Steps.sound_record buffer h) cs) ∙ state_of_bytes end upheld.sound.shaped in
    subst (λ (t : Site). Upheld (state_of buffer) (all_counted (state_of buffer) cs) t) (sym same) upheld

-- ---- taking back
pub taking_back_bytes : Claims.TakingBackBytes
taking_back_bytes buffer x remove opposite e =
    record {
      accepted = Steps.number_is (Steps.steps y) (step_buffer buffer x) ∙ ap (λ (t : Site). (step_of t y).refusal) next ∙ taken.accepted;
      same_bytes =
          Steps.after_record (Steps.steps y) (step_buffer buffer x) (Steps.next_record (Steps.steps x) buffer here)
          ∙ ap bytes_of (ap (λ (t : Site). (step_of t y).state) next ∙ taken.earlier)
          ∙ bytes_of_state buffer here;
    }
  where
    y : Bytes
    y = matching_remove remove x

    here : T (is_record buffer)
    here = Steps.obeyed (Steps.steps x) buffer e

    next : state_of (step_buffer buffer x) ≡ (step_of (state_of buffer) x).state
    next = Steps.next_state (Steps.steps x) buffer here

    taken : TakenBack (state_of buffer) x y
    taken =
        taking_back (state_of buffer) (Steps.obeyed_sound (Steps.steps x) buffer e) x remove opposite
        (sym (Steps.number_is (Steps.steps x) buffer) ∙ e)

-- ---- refusals
pub refused_same_bytes : Claims.RefusedSameBytes
refused_same_bytes buffer x f = Steps.refused (Steps.steps x) buffer f

pub refused_recipe_same_bytes : Claims.RefusedRecipeSameBytes
refused_recipe_same_bytes buffer bytes call f = Steps.refused (Steps.recipes bytes call) buffer f

pub no_record_is_12 : Claims.NoRecordIs12
no_record_is_12 buffer x e = Steps.no_record (Steps.steps x) buffer e

pub no_record_no_recipe : Claims.NoRecordNoRecipe
no_record_no_recipe buffer bytes call e = Steps.no_record (Steps.recipes bytes call) buffer e

pub no_record_no_answer : Claims.NoRecordNoAnswer
unfolding access_number
no_record_no_answer buffer a b e = ap (λ (v : Bool). answer_of (cond v (reply_of (state_of buffer) a b) (Refused 12))) e

pub step_length : Claims.StepLength
step_length buffer x = Steps.same_length (Steps.steps x) buffer

pub recipe_length : Claims.RecipeLength
recipe_length buffer bytes call = Steps.same_length (Steps.recipes bytes call) buffer

-- ---- the numbers
pub step_numbers_lem : Claims.StepNumbers
step_numbers_lem buffer x = rw (Steps.number_is (Steps.steps x) buffer) (machine.refusal_numbers (state_of buffer) x)

pub recipe_answer_parts : Claims.RecipeAnswerParts
recipe_answer_parts buffer bytes call =
    let s = state_of buffer in
    let v = recipe_of s bytes call in
    let n : recipe_answer buffer bytes call ≡ placed v = Steps.number_is (Steps.recipes bytes call) buffer in
    let low : v.refusal < 100 = recipe_two_digits s bytes call in
    let refusal : recipe_answer buffer bytes call % 256 ≡ v.refusal = omega arith in
    let place : recipe_answer buffer bytes call / 256 ≡ v.place = omega arith in
    record {
      refusal = refusal;
      place = place;
      known = rw refusal (recipe_numbers_lem s bytes call);
      most = rw place (place_at_most s bytes call);
      place_0 = rw (refusal, place) (place_zero_exactly s (state_shaped buffer) bytes call);
    }

pub file_numbers : Claims.FileNumbers
unfolding file_number
file_numbers file buffer = go (is_sized buffer)
  where
    go : (v : Bool) → T (among (cond v (read_of file).refusal 31) (31 ∷ 0 ∷ read_numbers))
    go true =
        or_right (eqb (read_of file).refusal 31) (among (read_of file).refusal (0 ∷ read_numbers))
        (rw (read_number file) (read_numbers_lem file))
    go false = tt

-- an answer is a number of steps within the limit, or 255
answer_small : (l : Lending) (a : ℕ) (x : Answer) → answer l a ≡ x → T (is_access_number (answer_number x))
answer_small l a (Some n) e =
    or_right (eqb n 255 || among n (map (λ k. 256 + k) question_numbers)) (not (ltb longest n))
    (rw (le-ltb longest n (subst (Right l a) e (answer_is_right l a)).short) tt)
answer_small l a None e = tt

-- each number of the question's table, with 256
refusal_known : ℕ → Bool
refusal_known n = eqb n 0 || is_access_number (256 + n)

reply_known : (s : Site) (a b : ℕ) → T (is_access_number (answer_of (reply_of s a b)))
unfolding refusal_known
reply_known s a b = rw (reply_by_first s a b) (go (eqb n 0) (first_meets refusal_known (question_refusals s a b) tt tt))
  where
    n : ℕ
    n = first_met (question_refusals s a b)

    go : (v : Bool) → T (v || is_access_number (256 + n)) → T (is_access_number (answer_of (cond v (Answered (answer (lending s b) a)) (Refused n))))
    go true t = answer_small (lending s b) a (answer (lending s b) a) refl
    go false t = t

pub access_numbers : Claims.AccessNumbers
access_numbers buffer a b = rw (Steps.reply_is buffer a b) (reply_known (state_of buffer) a b)

-- ---- a label's number
pub label_number_parts : Claims.LabelNumberParts
label_number_parts file bytes a =
    let small = label_small file bytes a in
    record { offset = omega arith; size = omega arith }

pub no_label_is_0 : Claims.NoLabelIs0
no_label_is_0 file a = (λ e. nowhere e (test (has_label file a)), zero)
  where
    nowhere : text_at file a * 65536 + text_length file a ≡ 0 → T (has_label file a) ⊎ (has_label file a ≡ false) → has_label file a ≡ false
    nowhere e (inl t) = let behind = label_behind_front file a t in absurd (omega arith)
    nowhere e (inr f) = f

    zero : has_label file a ≡ false → text_at file a * 65536 + text_length file a ≡ 0
    zero f = let front = no_label_at_front file a f in omega (arith, front.starts, front.long)

-- ---- a block's number
pub block_number_parts : Claims.BlockNumberParts
block_number_parts file bytes =
    let small = block_small file bytes in
    record { offset = omega arith; size = omega arith }

pub no_block_is_0 : Claims.NoBlockIs0
no_block_is_0 file = (refused, zero)
  where
    refused : block_at file * 65536 + block_length file ≡ 0 → file_refusal file ≡ 0 → ⊥
    refused e ok = let behind = (block_is_labels file ok).behind_header in omega arith

    zero : (file_refusal file ≡ 0 → ⊥) → block_at file * 65536 + block_length file ≡ 0
    zero f = let front = no_block_refused file f in omega (arith, front.0, front.1)

-- ---- the writer
pub write_is_write : Claims.WriteIsWrite
write_is_write s h block file =
    record {
      answer = Writes.answer_is (bytes_of s) block file ∙ ap (λ (t : Site). written_number (write_of t block file)) (state_of_bytes s h);
      buffer = Writes.buffer_is (bytes_of s) block file ∙ ap (λ (t : Site). buffer_after t block file) (state_of_bytes s h);
    }

pub no_record_no_file : Claims.NoRecordNoFile
unfolding write_answer write_buffer
no_record_no_file buffer block file e =
    record {
      answer = ap (λ (v : Bool). cond v (written_number (write_of (state_of buffer) block file)) (65536 + 12)) e;
      same_bytes = ap (λ (v : Bool). cond v (buffer_after (state_of buffer) block file) file) e;
    }

pub refused_write_same_bytes : Claims.RefusedWriteSameBytes
refused_write_same_bytes buffer block file h = go (Writes.outcome buffer block file)
  where
    go : Wrote buffer block file ⊎ Refuses buffer block file → write_buffer buffer block file ≡ file
    go (inl w) = let small = Writes.wrote_small buffer block file w in absurd (omega arith)
    go (inr r) = r.bytes

pub write_length : Claims.WriteLength
write_length buffer block file = ap length (Writes.buffer_is buffer block file) ∙ buffer_length (state_of buffer) block file

pub write_past : Claims.WritePast
write_past buffer block file h =
    let w = Writes.wrote_below buffer block file h in
    rw (w.bytes, w.answer) (drop-append_seam (encode (state_of buffer) block) _)

pub length_will_do : Claims.LengthWillDo
length_will_do buffer block file h room long =
    let w = Writes.wrote_below buffer block file h in
    let fits = subst (λ (n : ℕ). n ≤ length room) w.answer long in
    let again = Writes.wrote buffer block room (record { sound = w.writable.sound; lawful = w.writable.lawful; room = fits }) in
    record {
      answer = again.answer ∙ sym w.answer;
      bytes = again.bytes ∙ rw (w.bytes, w.answer) (ap (λ (f : List ℕ). f ++ drop (length (encode (state_of buffer) block)) room) (sym (take-append_seam (encode (state_of buffer) block) _)));
    }

pub most_always_does : Claims.MostAlwaysDoes
most_always_does buffer block file long e = go (Writes.outcome buffer block file)
  where
    go : Wrote buffer block file ⊎ Refuses buffer block file → ⊥
    go (inl w) = let small = Writes.wrote_small buffer block file w in omega arith
    go (inr r) =
        let n : write_refusal (state_of buffer) block file ≡ 31 = omega (arith, r.answer) in
        let so = (refused_exactly (state_of buffer) (state_shaped buffer) block file).short.0 n in
        let most = encode_most (state_of buffer) block so.0 so.1 in
        let less = so.2 in
        omega arith

-- each number of the writer's table, with 65536
write_known : ℕ → Bool
write_known n = eqb n 0 || is_write_answer (65536 + n)

pub write_answers : Claims.WriteAnswers
unfolding write_known
write_answers buffer block file = go (Writes.outcome buffer block file)
  where
    s : Site
    s = state_of buffer

    go : Wrote buffer block file ⊎ Refuses buffer block file → T (is_write_answer (write_answer buffer block file))
    go (inl w) =
        let n = write_answer buffer block file in
        let small : n ≤ most_bytes = Writes.wrote_small buffer block file w in
        let long : 30 ≤ n = rw w.answer (encode_least s block w.writable.sound) in
        or_right (among n (map (λ k. 65536 + k) write_numbers)) (not (ltb n 30) && not (ltb most_bytes n)) (rw (le-ltb n 30 long, le-ltb most_bytes n small) tt)
    go (inr r) =
        rw r.answer
        (⊎_elim (λ z. absurd (r.some (eqb→eq (write_refusal s block file) 0 z))) (λ t. t)
        (or_cases (eqb (write_refusal s block file) 0) (is_write_answer (65536 + write_refusal s block file))
        (among_meets write_known (0 ∷ write_numbers) (write_refusal s block file) tt (write_numbers_lem s block file))))

-- ---- there and back
-- a file that is accepted, as a record
read_so : (file into : List ℕ) → T (is_sized into) → file_refusal file ≡ 0 → (file_number file into ≡ 0) × (file_buffer file into ≡ bytes_of (read_of file).state)
unfolding file_number
read_so file into t ok = (
  ap (λ (v : Bool). cond v (read_of file).refusal 31) (is_true (is_sized into) t) ∙ read_number file ∙ ok,
  stored_sized into (read_of file).state (eqb→eq (length into) record_size t),
)

pub written_is_read : Claims.WrittenIsRead
written_is_read buffer block file h into sized =
    let w = Writes.wrote_below buffer block file h in
    let s = state_of buffer in
    let written : take (write_answer buffer block file) (write_buffer buffer block file) ≡ encode s block =
    rw (w.bytes, w.answer) (take-append_seam (encode s block) _) in
    let a = encode_accepted s block w.writable.sound w.writable.lawful in
    let r = read_so (encode s block) into sized a.no_refusal in
    rw written
    (record {
      accepted = r.0;
      record_bytes = r.1 ∙ ap bytes_of a.state ∙ bytes_of_state buffer (Steps.sound_record buffer w.writable.sound);
      label_bytes = (block_is_labels (encode s block) a.no_refusal).bytes ∙ a.block;
    })

pub read_is_written : Claims.ReadIsWritten
unfolding file_number
read_is_written file into bytes ok room long = go (test (is_sized into))
  where
    s : Site
    s = (read_of file).state

    go : T (is_sized into) ⊎ (is_sized into ≡ false) → WrittenAgain file (file_buffer file into) (take (block_length file) (drop (block_at file) file)) room
    go (inr e) = absurd (omega (arith, sym (ap (λ (v : Bool). cond v (read_of file).refusal 31) e) ∙ ok))
    go (inl t) =
        let accepted : file_refusal file ≡ 0 = sym (read_number file) ∙ sym (ap (λ (v : Bool). cond v (read_of file).refusal 31) (is_true (is_sized into) t)) ∙ ok in
        let again = writing_again file bytes accepted room long in
        let same = write_is_write s (read_sound file).shaped (part file labels) room in
        rw ((read_so file into t accepted).1, (block_is_labels file accepted).bytes)
        (record { answer = same.answer ∙ ap written_number again.answer; bytes = same.buffer ∙ again.bytes })
