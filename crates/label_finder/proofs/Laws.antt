-- The claims of specs/Claims.antt and the laws of specs/Laws.antt, each proved under its name.
-- Assumes nothing.
use Prim.Native.Nat.{ℕ, ◌+◌, ◌*◌, ◌≤◌, ◌<◌}
use Rattle.std.proofs.Common.{Some, None}
use mathlib.Core.Path.{◌≡◌, refl, sym, ap, ◌∙◌}
use mathlib.Core.Logic.{◌⊎◌, inl, inr}
use mathlib.Core.Bool.{Bool, true, false, cond}
use mathlib.Core.List.{List}
use native.Mathlib.Omega.{arith}
use native.Mathlib.Decide.{dec_lt, ℕ_discrete}
use borrow.Author.Tests.{ne_eqb, eqb-false}
use lib.Dec.{T, eqb}
use lib.ListN.{length, get_or, take, drop, length-take, length-drop}
use lib.Seq.{get_or-take, get_or-drop, ext_get_or}
use Rattle.state.proofs.Bools.{fails, test}
use Rattle.label_tables.specs.Labels.{label_count, label_area, label_length, label_index, entry_text, label_of}
use Rattle.label_tables.proofs.Entries.{entry_long, entry_byte, text_there, text_none}
use Rattle.label_tables.proofs.Laws.{label_found, label_there, label_area_fits, label_length_fits}
use Rattle.site_format.specs.Format.{labels, offset_in, size_in, part}
use Rattle.site_file.specs.Reading.{file_refusal}
use Rattle.site_file.proofs.Checked.{checked, sized, lies}
use Rattle.label_finder.specs.Finder.{has_label, text_at, text_length, place_of, label_text, block_at, block_length, block_place, place_or_front}
use Rattle.label_finder.specs.Claims
use Rattle.label_finder.specs.Laws
use Rattle.label_finder.specs.Claims.{AtFront}
use Rattle.label_finder.proofs.Texts.{same_place, entry, found, front, no_refusal, an_entry, labelled}

at_front : (file : List ℕ) (a : ℕ) → (T (has_label file a) → ⊥) → AtFront file a
at_front file a f =
    let place = front file a f in
    record { starts = place.0; long = place.1; text = ap (λ (n : ℕ). take n (drop (text_at file a) file)) place.1 }

pub no_label_refused : Claims.NoLabelRefused
no_label_refused file a ne = at_front file a (λ t. ne (no_refusal file a t))

pub no_label_of_area : Claims.NoLabelOfArea
no_label_of_area file a none = at_front file a (λ t. none (entry file a) (an_entry file a t) (label_there (part file labels) a (an_entry file a t)))

pub no_label_above : Claims.NoLabelAbove
no_label_above file a h = at_front file a above
  where
    above : T (has_label file a) → ⊥
    above t =
        let area : label_area (part file labels) (entry file a) < 32 = label_area_fits (part file labels) (entry file a) ((checked file (no_refusal file a t)).is_in_range labels) (an_entry file a t) in
        let same : label_area (part file labels) (entry file a) ≡ a = label_there (part file labels) a (an_entry file a t) in
        omega arith

pub label_behind_front : Laws.LabelBehindFront
label_behind_front file a t = rw (found file a t).0 (omega arith)

pub no_label_at_front : Laws.NoLabelAtFront
no_label_at_front file a e = at_front file a (fails e)

-- entry k of the table lies in the file, and its text within the entry
module _ (file : List ℕ) (e : file_refusal file ≡ 0) (k : ℕ) (h : k < label_count (part file labels)) where
  text_within : label_length (part file labels) k ≤ 30
  text_within = (label_length_fits (part file labels) k ((checked file e).is_in_range labels) h).1

  entry_within : offset_in file labels + (k * 32 + 32) ≤ length file
  entry_within = omega (arith, sized file (checked file e) labels, (lies file (checked file e) labels).1)

pub label_inside : Claims.LabelInside
label_inside file a = go (test (has_label file a))
  where
    go : T (has_label file a) ⊎ (has_label file a ≡ false) → text_at file a + text_length file a ≤ length file
    go (inl t) =
        let f = found file a t in
        rw (f.0, f.1) (omega (arith, entry_within file (no_refusal file a t) (entry file a) (an_entry file a t), text_within file (no_refusal file a t) (entry file a) (an_entry file a t)))
    go (inr e) = let f = front file a (fails e) in rw (f.0, f.1) (omega arith)

pub label_small : Laws.LabelSmall
label_small file bytes a = go (test (has_label file a))
  where
    go : T (has_label file a) ⊎ (has_label file a ≡ false) → text_at file a + text_length file a < 65536
    go (inl t) = omega (arith, label_inside file a, (checked file (no_refusal file a t)).length_stated, bytes 2, bytes 3)
    go (inr e) = let f = front file a (fails e) in rw (f.0, f.1) (omega arith)

pub label_part : Claims.LabelPart
label_part file k e h = record { starts = starts; text = text; long = size }
  where
    table : List ℕ
    table = part file labels

    a : ℕ
    a = label_area table k

    same : label_index table a ≡ k
    same = label_found table k ((checked file e).ascends labels) h

    f : (text_at file a ≡ offset_in file labels + (entry file a * 32 + 2)) × (text_length file a ≡ label_length table (entry file a))
    f = found file a (labelled file a e (rw same h))

    starts : text_at file a ≡ offset_in file labels + (k * 32 + 2)
    starts = f.0 ∙ ap (λ (n : ℕ). offset_in file labels + (n * 32 + 2)) same

    long : text_length file a ≡ label_length table k
    long = f.1 ∙ ap (label_length table) same

    -- the text lies in the file, and in the table
    size : length (label_text file a) ≡ label_length table k
    size =
        let n = length-take (text_length file a) (drop (text_at file a) file) in
        let m = length-drop (text_at file a) file in
        let inside : text_at file a + text_length file a ≤ length file = label_inside file a in
        omega (arith, long)

    within : k * 32 + 2 + label_length table k ≤ length table
    within = let short : label_length table k ≤ 30 = text_within file e k h in omega arith

    -- byte i of both is one byte of the file
    byte : (i : ℕ) → i < label_length table k → get_or (label_text file a) i 0 ≡ get_or (entry_text table k) i 0
    byte i b =
        let near : i < text_length file a = rw long b in
        let whole : length table ≡ size_in file labels = sized file (checked file e) labels in
        let inside : k * 32 + 2 + label_length table k ≤ length table = within in
        let far : k * 32 + 2 + i < size_in file labels = omega arith in
        let place : text_at file a + i ≡ offset_in file labels + (k * 32 + 2 + i) = omega (arith, starts) in
        get_or-take (text_length file a) (drop (text_at file a) file) i 0 near
        ∙ get_or-drop (text_at file a) file i 0
        ∙ ap (λ (n : ℕ). get_or file n 0) place
        ∙ sym (get_or-drop (offset_in file labels) file (k * 32 + 2 + i) 0)
        ∙ sym (get_or-take (size_in file labels) (drop (offset_in file labels) file) (k * 32 + 2 + i) 0 far)
        ∙ sym (entry_byte table k i b)

    text : label_text file a ≡ entry_text table k
    text =
        ext_get_or 0 (label_text file a) (entry_text table k)
        (size ∙ sym (entry_long table k ((checked file e).is_in_range labels) h)) (λ i b. byte i (rw size at b))

pub label_is_text : Claims.LabelIsText
label_is_text file a e = go (dec_lt (entry file a) (label_count table))
  where
    table : List ℕ
    table = part file labels

    go : Dec (entry file a < label_count table) → label_text file a ≡ label_of table a
    go (yes h) =
        ap (label_text file) (sym (label_there table a h))
        ∙ (label_part file (entry file a) e h).text
        ∙ sym (text_there table a h)
    go (no h) = (at_front file a (λ t. h (an_entry file a t))).text ∙ sym (text_none table a (omega arith))

-- ---- the label block
pub block_found : (file : List ℕ) → file_refusal file ≡ 0 → (block_at file ≡ offset_in file labels) × (block_length file ≡ size_in file labels)
unfolding block_at block_length
block_found file e = rw e (refl, refl)

pub block_is_labels : Claims.BlockIsLabels
block_is_labels file e =
    let f = block_found file e in
    record {
      bytes = rw (f.0, f.1) refl;
      long = sized file (checked file e) labels ∙ sym f.1;
      behind_header = rw f.0 (lies file (checked file e) labels).0;
    }

pub no_block_refused : Claims.NoBlockRefused
unfolding block_at block_length
no_block_refused file ne = rw (ne_eqb (file_refusal file) 0 ne) (refl, refl)

pub block_small : Laws.BlockSmall
block_small file bytes = go (ℕ_discrete (file_refusal file) 0)
  where
    go : Dec (file_refusal file ≡ 0) → block_at file + block_length file < 65536
    go (yes e) =
        let k = checked file e in
        omega (arith, block_found file e, (lies file k labels).1, k.length_stated, bytes 2, bytes 3)
    go (no ne) = let f = no_block_refused file ne in rw (f.0, f.1) (omega arith)

-- ---- what is answered
pub found_place_lem : Laws.FoundPlace
found_place_lem file a = go (has_label file a) refl
  where
    go : (b : Bool) → has_label file a ≡ b → place_or_front (cond b (Some (place_of file a)) None) ≡ place_of file a
    go true e = refl
    go false e = let f = front file a (fails e) in same_place (sym f.0) (sym f.1)

pub found_block_lem : Laws.FoundBlock
found_block_lem file = go (eqb (file_refusal file) 0) refl
  where
    go : (b : Bool) → eqb (file_refusal file) 0 ≡ b → place_or_front (cond b (Some (block_place file)) None) ≡ block_place file
    go true e = refl
    go false e = let f = no_block_refused file (eqb-false (file_refusal file) 0 e) in same_place (sym f.0) (sym f.1)
