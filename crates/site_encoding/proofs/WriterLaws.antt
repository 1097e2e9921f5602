-- The claims of specs/WriterClaims.antt, each proved under its name.
-- Assumes nothing.
use Prim.Native.Nat.{ℕ, ◌≤◌}
use mathlib.Core.Path.{◌≡◌, refl, sym, ap, subst, ◌∙◌}
use mathlib.Core.Logic.{◌↔◌, ◌⊎◌, inl, inr}
use mathlib.Core.Bool.{false}
use mathlib.Core.List.{List, ◌∷◌, ◌++◌}
use native.Mathlib.Omega.{arith}
use borrow.Author.Tests.{ltb-false, ne_eqb}
use lib.Dec.{T, eqb, eqb→eq}
use lib.ListN.{length, take, drop, length-append, length-drop}
use lib.Seq.{take-append_seam, drop-append_seam}
use Rattle.state.specs.Checks.{among}
use Rattle.state.specs.Site.{Site}
use Rattle.state.proofs.Bools.{test}
use Rattle.state.proofs.Checks.{first_meets, none_met_at}
use Rattle.label_tables.specs.Labels.{label_of}
use Rattle.site_format.specs.Format.{labels, part}
use Rattle.site_file.specs.Reading.{read_of}
use Rattle.label_finder.proofs.Laws.{label_is_text}
use Rattle.output.specs.Buffer.{Written, written}
use Rattle.site_encoding.specs.Encode.{encode}
use Rattle.site_encoding.specs.Claims.{Accepted}
use Rattle.site_encoding.proofs.Laws.{single_encoding, encode_accepted, encode_most}
use Rattle.site_encoding.specs.WriterClaims
use Rattle.site_encoding.specs.WriterClaims.{Writable, RefusedAs}
use Rattle.site_encoding.specs.Writer.{write_checks, write_numbers, write_refusal, write_of, buffer_after}
use Rattle.site_encoding.proofs.Answer.{refused_so, written_so}
use Rattle.site_encoding.proofs.Decided.{Decided, unsound, unlawful, short, fits, decided}

-- ---- which number is given
pub written_exactly : WriterClaims.WrittenExactly
written_exactly s shaped l buffer = go (decided s shaped l buffer)
  where
    go : Decided s l buffer → (write_refusal s l buffer ≡ 0) ↔ Writable s l buffer
    go (unsound none n) = (λ e. absurd (omega arith), λ w. absurd (none w.sound))
    go (unlawful h none n) = (λ e. absurd (omega arith), λ w. absurd (none w.lawful))
    go (short h law less n) = (λ e. absurd (omega arith), λ w. let room = w.room in absurd (omega arith))
    go (fits w n) = (λ e. w, λ v. n)

pub refused_exactly : WriterClaims.RefusedExactly
refused_exactly s shaped l buffer = go (decided s shaped l buffer)
  where
    go : Decided s l buffer → RefusedAs s l buffer
    go (unsound none n) =
        record {
          unsound = (λ e. none, λ f. n);
          unlawful = (λ e. absurd (omega arith), λ p. absurd (none p.0));
          short = (λ e. absurd (omega arith), λ p. absurd (none p.0));
        }
    go (unlawful h none n) =
        record {
          unsound = (λ e. absurd (omega arith), λ f. absurd (f h));
          unlawful = (λ e. (h, none), λ p. n);
          short = (λ e. absurd (omega arith), λ p. absurd (none p.1));
        }
    go (short h law less n) =
        record {
          unsound = (λ e. absurd (omega arith), λ f. absurd (f h));
          unlawful = (λ e. absurd (omega arith), λ p. absurd (p.1 law));
          short = (λ e. (h, law, less), λ p. n);
        }
    go (fits w n) =
        record {
          unsound = (λ e. absurd (omega arith), λ f. absurd (f w.sound));
          unlawful = (λ e. absurd (omega arith), λ p. absurd (p.1 w.lawful));
          short = (λ e. absurd (omega arith), λ p. let room = w.room in let less = p.2 in absurd (omega arith));
        }

writable_written : (s : Site) (l buffer : List ℕ) → Writable s l buffer → write_refusal s l buffer ≡ 0
writable_written s l buffer w = (written_exactly s w.sound.shaped l buffer).1 w

pub write_order : WriterClaims.WriteOrder
write_order s l buffer = refl

pub write_numbers_lem : WriterClaims.WriteNumbers
unfolding write_refusal
write_numbers_lem s l buffer = first_meets (λ n. among n (0 ∷ write_numbers)) (write_checks s l buffer) tt tt

-- ---- what is written
pub writes_encoding : WriterClaims.WritesEncoding
writes_encoding s l buffer w =
    let r = written_so s l buffer (writable_written s l buffer w) in
    record {
      answer = sym r.0;
      front = ap (take (length (encode s l))) (sym r.1) ∙ take-append_seam (encode s l) _;
      past = ap (drop (length (encode s l))) (sym r.1) ∙ drop-append_seam (encode s l) _;
    }

pub refused_unwritten : WriterClaims.RefusedUnwritten
refused_unwritten s l buffer some =
    let r = refused_so s l buffer (write_refusal s l buffer) refl (ne_eqb (write_refusal s l buffer) 0 some) in
    record { answer = sym r.0; unchanged = sym r.1 }

-- the buffer stays as long, whether the file is written or not
pub buffer_length : WriterClaims.BufferLength
unfolding write_refusal
buffer_length s l buffer = go (test (eqb (write_refusal s l buffer) 0))
  where
    go : T (eqb (write_refusal s l buffer) 0) ⊎ (eqb (write_refusal s l buffer) 0 ≡ false) → length (buffer_after s l buffer) ≡ length buffer
    go (inr e) = ap length (sym (refused_so s l buffer (write_refusal s l buffer) refl e).1)
    go (inl t) =
        let zero = eqb→eq (write_refusal s l buffer) 0 t in
        let room = ltb-false (length buffer) (length (encode s l)) (none_met_at (write_checks s l buffer) tt zero 31) in
        let long = length-append (encode s l) (drop (length (encode s l)) buffer) in
        let rest = length-drop (length (encode s l)) buffer in
        ap length (sym (written_so s l buffer zero).1) ∙ omega arith

-- ---- there and back
-- the bytes up to the length are the file
the_file : (s : Site) (l buffer : List ℕ) → write_refusal s l buffer ≡ 0 → take (write_of s l buffer).length (buffer_after s l buffer) ≡ encode s l
the_file s l buffer e =
    let r = written_so s l buffer e in
    ap (λ (w : Written). take w.length (buffer_after s l buffer)) (sym r.0) ∙ ap (take (length (encode s l))) (sym r.1) ∙ take-append_seam (encode s l) _

pub reading_back : WriterClaims.ReadingBack
reading_back s shaped l buffer e =
    let w = (written_exactly s shaped l buffer).0 e in
    subst (λ (f : List ℕ). Accepted f s l) (sym (the_file s l buffer e)) (encode_accepted s l w.sound w.lawful)

pub reading_back_texts : WriterClaims.ReadingBackTexts
reading_back_texts s shaped l buffer e a =
    let file = reading_back s shaped l buffer e in
    label_is_text _ a file.no_refusal ∙ ap (λ (t : List ℕ). label_of t a) file.block

pub writing_again : WriterClaims.WritingAgain
writing_again file bytes ok buffer room =
    let e = (single_encoding file bytes (read_of file).state (part file labels)).0 (record { no_refusal = ok; state = refl; block = refl }) in
    let long = ap length e.encoded in
    let w : Writable (read_of file).state (part file labels) buffer =
    record { sound = e.sound; lawful = e.lawful; room = subst (λ (n : ℕ). n ≤ length buffer) long room } in
    let r = written_so _ _ buffer (writable_written _ _ buffer w) in
    record {
      answer = sym r.0 ∙ ap (written 0) (sym long);
      bytes = sym r.1 ∙ ap (λ (f : List ℕ). f ++ drop (length f) buffer) (sym e.encoded);
    }

pub most_is_enough : WriterClaims.MostIsEnough
most_is_enough s l buffer h law room =
    let most = encode_most s l h law in
    writable_written s l buffer (record { sound = h; lawful = law; room = omega arith })
