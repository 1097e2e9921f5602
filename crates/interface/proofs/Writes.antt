-- What the writer gives with the state of a buffer is what the interface gives with the buffer, whether its bytes are a
-- record or not.
--     answer_is, buffer_is                           the answer, and the file's buffer afterwards
--     Wrote, Refuses, outcome                        the two cases: a file was written, or there is a refusal
--     wrote                                          the first, where it can be written
--     wrote_small, wrote_below                       a length is below 65,536, and what is below is a length
--     refused_answer, written_answer, written_small  the answer, by the writer's own
-- Assumes nothing.
use Prim.Native.Nat.{ℕ, ◌+◌, ◌≤◌, ◌<◌}
use mathlib.Core.Path.{◌≡◌, refl, sym, ap, ap₂, ◌∙◌}
use mathlib.Core.Logic.{◌⊎◌, inl, inr}
use mathlib.Core.Bool.{Bool, false, cond}
use mathlib.Core.List.{List, ◌++◌}
use native.Mathlib.Omega.{arith}
use native.Mathlib.Decide.{ℕ_discrete}
use borrow.Author.Tests.{eq-eqb, ne_eqb}
use lib.Dec.{T}
use lib.ListN.{length, drop, take-append-drop}
use Rattle.state.specs.Site.{Site}
use Rattle.state.proofs.Bools.{is_true, fails, test}
use Rattle.soundness.proofs.Laws.{sound_decided}
use Rattle.records.specs.Record.{is_record, state_of}
use Rattle.records.proofs.Laws.{state_shaped}
use Rattle.site_encoding.specs.Encode.{encode}
use Rattle.site_encoding.specs.Claims.{most_bytes}
use Rattle.site_encoding.proofs.Laws.{encode_most}
use Rattle.output.specs.Buffer.{Written}
use Rattle.site_encoding.specs.WriterClaims.{Writable}
use Rattle.site_encoding.specs.Writer.{write_refusal, write_of, buffer_after}
use Rattle.site_encoding.proofs.WriterLaws.{written_exactly, refused_exactly, writes_encoding, refused_unwritten}
use Rattle.interface.specs.Interface.{written_number, write_answer, write_buffer}
use Rattle.interface.proofs.Steps.{unsound}

-- what is answered beside a refusal of the writer
module _ (s : Site) (block file : List ℕ) (some : write_refusal s block file ≡ 0 → ⊥) where
  refusal_number : written_number (write_of s block file) ≡ 65536 + write_refusal s block file
  refusal_number =
      ap written_number (refused_unwritten s block file some).answer
      ∙ ap (λ (b : Bool). cond b 0 (65536 + write_refusal s block file)) (ne_eqb (write_refusal s block file) 0 some)

-- ---- bytes that are no record stand for the state of nothing, which is not sound
module _ (buffer block file : List ℕ) where
  abbrev here : Site
  here = state_of buffer

  module _ (e : is_record buffer ≡ false) where
    as_12 : write_refusal here block file ≡ 12
    as_12 =
        (refused_exactly here (state_shaped buffer) block file).unsound.1
        (λ h. fails (unsound buffer e) ((sound_decided here (state_shaped buffer)).1 h))

    some : write_refusal here block file ≡ 0 → ⊥
    some z = omega (arith, as_12)

    none_answer : 65536 + 12 ≡ written_number (write_of here block file)
    none_answer = sym (refusal_number here block file some ∙ ap (λ (n : ℕ). 65536 + n) as_12)

    none_buffer : file ≡ buffer_after here block file
    none_buffer = sym (refused_unwritten here block file some).unchanged

  pub answer_is : write_answer buffer block file ≡ written_number (write_of here block file)
  unfolding write_answer
  answer_is = go (test (is_record buffer))
    where
      go : T (is_record buffer) ⊎ (is_record buffer ≡ false) → cond (is_record buffer) (written_number (write_of here block file)) (65536 + 12) ≡ written_number (write_of here block file)
      go (inl t) = rw (is_true (is_record buffer) t) refl
      go (inr e) = rw e (none_answer e)

  pub buffer_is : write_buffer buffer block file ≡ buffer_after here block file
  unfolding write_buffer
  buffer_is = go (test (is_record buffer))
    where
      go : T (is_record buffer) ⊎ (is_record buffer ≡ false) → cond (is_record buffer) (buffer_after here block file) file ≡ buffer_after here block file
      go (inl t) = rw (is_true (is_record buffer) t) refl
      go (inr e) = rw e (none_buffer e)

-- ---- the two cases, of any bytes
pub record Wrote (buffer block file : List ℕ) : Type 0 where
  pub writable : Writable (state_of buffer) block file
  pub answer : write_answer buffer block file ≡ length (encode (state_of buffer) block)
  pub bytes : write_buffer buffer block file ≡ encode (state_of buffer) block ++ drop (length (encode (state_of buffer) block)) file

pub record Refuses (buffer block file : List ℕ) : Type 0 where
  pub some : write_refusal (state_of buffer) block file ≡ 0 → ⊥
  pub answer : write_answer buffer block file ≡ 65536 + write_refusal (state_of buffer) block file
  pub bytes : write_buffer buffer block file ≡ file

module _ (buffer block file : List ℕ) where
  pub wrote : Writable (state_of buffer) block file → Wrote buffer block file
  wrote w =
      let s = state_of buffer in
      let e = writes_encoding s block file w in
      let n = length (encode s block) in
      record {
        writable = w;
        answer = answer_is buffer block file ∙ ap written_number e.answer;
        bytes = buffer_is buffer block file ∙ sym (take-append-drop n (buffer_after s block file)) ∙ ap₂ ◌++◌ e.front e.past;
      }

  pub outcome : Wrote buffer block file ⊎ Refuses buffer block file
  outcome = go (ℕ_discrete (write_refusal (state_of buffer) block file) 0)
    where
      go : Dec (write_refusal (state_of buffer) block file ≡ 0) → Wrote buffer block file ⊎ Refuses buffer block file
      go (yes e) = inl (wrote ((written_exactly (state_of buffer) (state_shaped buffer) block file).0 e))
      go (no f) =
          inr
          (record {
            some = f;
            answer = answer_is buffer block file ∙ refusal_number (state_of buffer) block file f;
            bytes = buffer_is buffer block file ∙ (refused_unwritten (state_of buffer) block file f).unchanged;
          })

  -- no file is as long as a refusal's number
  pub wrote_small : Wrote buffer block file → write_answer buffer block file ≤ most_bytes
  wrote_small w = rw w.answer (encode_most (state_of buffer) block w.writable.sound w.writable.lawful)

  -- so what is answered below 65,536 is a length
  pub wrote_below : write_answer buffer block file < 65536 → Wrote buffer block file
  wrote_below h = go outcome
    where
      go : Wrote buffer block file ⊎ Refuses buffer block file → Wrote buffer block file
      go (inl w) = w
      go (inr r) = let n = r.answer in absurd (omega arith)

  -- ---- the answer, by the writer's own
  abbrev own : Written
  own = write_of (state_of buffer) block file

  pub refused_answer : (own.refusal ≡ 0 → ⊥) → 65536 + own.refusal ≡ write_answer buffer block file
  refused_answer f = sym (answer_is buffer block file ∙ ap (λ (b : Bool). cond b own.length (65536 + own.refusal)) (ne_eqb own.refusal 0 f))

  pub written_answer : own.refusal ≡ 0 → own.length ≡ write_answer buffer block file
  written_answer z = sym (answer_is buffer block file ∙ ap (λ (b : Bool). cond b own.length (65536 + own.refusal)) (eq-eqb own.refusal 0 z))

  pub written_small : own.refusal ≡ 0 → own.length ≤ most_bytes
  written_small z = go outcome
    where
      go : Wrote buffer block file ⊎ Refuses buffer block file → own.length ≤ most_bytes
      go (inl w) = rw (written_answer z) (wrote_small w)
      go (inr r) =
          absurd (r.some (sym (ap (λ (w : Written). w.refusal) (refused_unwritten (state_of buffer) block file r.some).answer) ∙ z))
