-- The first line of some bytes.
--     first_ended, first_parted, first_unended                           the first byte 10 ends it, or none does
--     first_line_number, no_line, first_line, first_size, lines_at_most  the claims
-- Assumes nothing.
use Prim.Native.Nat.{ℕ, zero, suc, ◌+◌, ◌≤◌, ◌<◌}
use mathlib.Core.Path.{◌≡◌, refl, sym, ap, ◌∙◌}
use mathlib.Core.List.{List, [], ◌∷◌, ◌++◌}
use native.Mathlib.Numerals.{add-one}
use native.Mathlib.Omega.{arith}
use native.Mathlib.Decide.{dec_lt}
use borrow.Author.Tests.{lt-ltb, le-ltb}
use lib.ListN.{length, take, drop, length-append, length-drop}
use lib.Seq.{drop-length, take-append_seam}
use Rattle.lines.specs.Lines.{Line, line_number, newline, space, parts, line_of, lines_of, index, first, first_line_of}
use Rattle.output.specs.Decimal.{decimal}
use Rattle.std.proofs.Common.{Some, None}
use Rattle.lines.specs.Digits.{Lacks}
use Rattle.lines.specs.declared.First.{First}
use Rattle.lines.specs.Claims.{text_of, ReadableFirst, FirstLineNumber}
use Rattle.lines.specs.Claims.{NoLine}
use Rattle.lines.specs.Laws.{FirstLine, Sized, FirstSize, LinesAtMost}
use Rattle.lines.proofs.Parts.{index_most, index_past, divided, parts_found, parts_whole, parts_more}
use Rattle.lines.proofs.Words.{decimal_lacks}
use Rattle.lines.proofs.Texts.{readable_exactly}

module _ (bytes : List ℕ) (i : ℕ) (e : i ≡ index newline bytes) where
  pub first_ended : i < length bytes → first_line_of bytes ≡ first (line_of (take i bytes)) (suc i)
  unfolding first_line_of
  first_ended h = rw (← e, lt-ltb i (length bytes) h) refl

  pub first_unended : length bytes ≤ i → first_line_of bytes ≡ first None (length bytes)
  unfolding first_line_of
  first_unended h = rw (← e, le-ltb i (length bytes) h) refl

-- a text that byte 10 ends, with what stands behind it
pub first_parted : (bytes text rest : List ℕ) → bytes ≡ text ++ (newline ∷ rest) → Lacks newline text
    → first (line_of text) (length text + 1) ≡ first_line_of bytes
unfolding index
first_parted bytes text rest e lacks =
    let all : List ℕ = text ++ (newline ∷ rest) in
    let at : length text ≡ index newline all = omega (arith, index_past newline text (newline ∷ rest) lacks) in
    let inside : length text < length all = omega (arith, length-append text (newline ∷ rest)) in
    rw (e, add-one (length text))
    (sym (first_ended all (length text) at inside
    ∙ ap (λ (w : List ℕ). first (line_of w) (suc (length text))) (take-append_seam text (newline ∷ rest))))

-- ---- the number of the first line
-- two words that lack byte 10, with a space between, lack it
both_lack : (w v : List ℕ) → index newline w ≡ length w → index newline v ≡ length v
    → index newline (w ++ space ∷ v) ≡ length (w ++ space ∷ v)
unfolding index
both_lack w v e f = rw (index_past newline w (space ∷ v) e, length-append w (space ∷ v), f) refl

text_lacks : (c u a b : ℕ) → index newline (text_of c u a b) ≡ length (text_of c u a b)
text_lacks c u a b =
    let two = both_lack (decimal c) (decimal u) (lacks c) (lacks u) in
    both_lack _ (decimal b) (both_lack _ (decimal a) two (lacks a)) (lacks b)
  where
    lacks : (n : ℕ) → index newline (decimal n) ≡ length (decimal n)
    lacks = decimal_lacks newline (omega arith)

-- the text in front of the first byte 10, and what stands behind it
module _ (bytes : List ℕ) (h : index newline bytes < length bytes) where
  abbrev front : List ℕ
  front = take (index newline bytes) bytes

  abbrev behind : List ℕ
  behind = drop (suc (index newline bytes)) bytes

  -- a line in front of byte 10 is unreadable, or is so written
  unread : (ReadableFirst bytes → ⊥) → (line : Line) → line_of front ≡ line → line_number line ≡ 13
  unread none None e = refl
  unread none (Some x) e =
      let w = (readable_exactly front x.code x.activator x.a x.b).0 e in
      absurd
      (none
      (record {
        code = x.code;
        activator = x.activator;
        first = x.a;
        second = x.b;
        rest = behind;
        below = w.below;
        text = divided newline bytes h ∙ ap (◌++ newline ∷ behind) w.text;
      }))

pub first_line_number : FirstLineNumber
first_line_number bytes = record { readable = read; unreadable = λ none. go none (dec_lt i (length bytes)) }
  where
    i : ℕ
    i = index newline bytes

    read : ReadableFirst bytes → line_number (first_line_of bytes).line ≡ 0
    read w =
        let lacks = text_lacks w.code w.activator w.first w.second in
        ap (λ (f : First). line_number f.line) (sym (first_parted bytes (text_of _ _ _ _) w.rest w.text lacks))
        ∙ (ap line_number ((readable_exactly _ _ _ _ _).1 (record { below = w.below; text = refl })))

    go : (ReadableFirst bytes → ⊥) → Dec (i < length bytes) → line_number (first_line_of bytes).line ≡ 13
    go none (yes h) = rw (first_ended bytes i refl h) (unread bytes h none _ refl)
    go none (no h) = rw (first_unended bytes i refl (omega arith)) refl

-- ---- the lines of an input
pub no_line : NoLine
unfolding parts lines_of
no_line = refl

pub first_line : FirstLine
unfolding parts lines_of
first_line [] some = absurd (omega arith)
first_line (x ∷ rest) some = go (dec_lt i (length bytes))
  where
    bytes : List ℕ
    bytes = x ∷ rest

    i : ℕ
    i = index newline bytes

    go : Dec (i < length bytes) → lines_of bytes ≡ (first_line_of bytes).line ∷ lines_of (drop (first_line_of bytes).size bytes)
    go (yes h) =
        let more = parts_more newline (drop (suc i) bytes) in
        rw (first_ended bytes i refl h, parts_found newline bytes h, more.2) refl
    go (no h) =
        let none : length bytes ≤ i = omega arith in
        rw (first_unended bytes i refl none, parts_whole newline bytes (omega (arith, index_most newline bytes)), drop-length bytes) refl

pub first_size : FirstSize
first_size bytes some = go (dec_lt i (length bytes))
  where
    i : ℕ
    i = index newline bytes

    go : Dec (i < length bytes) → Sized bytes
    go (yes h) = let e = first_ended bytes i refl h in record { some = rw e (omega arith); within = rw e h }
    go (no h) = let e = first_unended bytes i refl (omega arith) in record { some = rw e some; within = rw e (omega arith) }

-- no more lines than bytes: what stands behind the first line is shorter
shorter : (bytes : List ℕ) → ((rest : List ℕ) → length rest < length bytes → length (lines_of rest) ≤ length rest) → length (lines_of bytes) ≤ length bytes
shorter [] before = rw no_line (omega arith)
shorter (x ∷ rest) before = rw (first_line bytes some) (omega (arith, fewer))
  where
    bytes : List ℕ
    bytes = x ∷ rest

    some : 0 < length bytes
    some = omega arith

    behind : List ℕ
    behind = drop (first_line_of bytes).size bytes

    less : length behind < length bytes
    less = omega (arith, length-drop (first_line_of bytes).size bytes, (first_size bytes some).some, (first_size bytes some).within)

    fewer : suc (length (lines_of behind)) ≤ length bytes
    fewer = omega (arith, before behind less, less)

pub lines_at_most : LinesAtMost
lines_at_most input = below (length input) input (omega arith)
  where
    below : (most : ℕ) (bytes : List ℕ) → length bytes ≤ most → length (lines_of bytes) ≤ length bytes
    below zero bytes h = shorter bytes (λ rest b. absurd (omega arith))
    below (suc most) bytes h = shorter bytes (λ rest b. below most rest (omega arith))
