-- The text of a label: where it is and how long, with a label and without; a place by its two parts;
-- and an answer by its test.
-- Assumes nothing.
use Prim.Native.Nat.{ℕ, ◌+◌, ◌*◌, ◌<◌}
use mathlib.Core.Path.{◌≡◌, refl}
use mathlib.Core.Bool.{Bool, true, false, cond}
use mathlib.Core.List.{List}
use Rattle.std.proofs.Common.{Some, None}
use lib.Dec.{T, eqb, ltb, eqb→eq, ltb→lt, lt→ltb}
use Rattle.state.proofs.Bools.{and_both, and_left, and_right, is_true, is_false}
use Rattle.label_tables.specs.Labels.{label_count, label_length, label_index}
use Rattle.site_format.specs.Format.{labels, offset_in, part}
use Rattle.site_file.specs.Reading.{file_refusal}
use Rattle.label_finder.specs.Finder.{has_label, text_at, text_length}
use Rattle.label_finder.specs.declared.Place.{Place}

pub same_place : {at length m n : ℕ} → at ≡ m → length ≡ n → ◌≡◌ {A = Place} (record { at = at; length = length }) (record { at = m; length = n })
same_place e f i = record { at = e i; length = f i }

-- what an answer says of the test behind it
pub found_some : {A : Type 0} (b : Bool) (x y : A) → Some x ≡ cond b (Some y) None → (b ≡ true) × (x ≡ y)
found_some true x y e = (refl, cc)
found_some false x y e = cc

pub found_none : {A : Type 0} (b : Bool) (y : A) → None ≡ cond b (Some y) None → b ≡ false
found_none true y e = cc
found_none false y e = refl

module _ (file : List ℕ) (a : ℕ) where
  -- the entry that is looked up
  abbrev pub entry : ℕ
  entry = label_index (part file labels) a

  pub found : T (has_label file a) → (text_at file a ≡ offset_in file labels + (entry * 32 + 2)) × (text_length file a ≡ label_length (part file labels) entry)
  unfolding text_at text_length
  found t = rw (is_true (has_label file a) t) (refl, refl)

  pub front : (T (has_label file a) → ⊥) → (text_at file a ≡ 0) × (text_length file a ≡ 0)
  unfolding text_at text_length
  front f = rw (is_false (has_label file a) f) (refl, refl)

  -- what it says that there is a label
  pub no_refusal : T (has_label file a) → file_refusal file ≡ 0
  no_refusal t = eqb→eq (file_refusal file) 0 (and_left (eqb (file_refusal file) 0) (ltb entry (label_count (part file labels))) t)

  pub an_entry : T (has_label file a) → entry < label_count (part file labels)
  an_entry t = ltb→lt entry (label_count (part file labels)) (and_right (eqb (file_refusal file) 0) (ltb entry (label_count (part file labels))) t)

  pub labelled : file_refusal file ≡ 0 → entry < label_count (part file labels) → T (has_label file a)
  labelled e h = and_both (eqb (file_refusal file) 0) (ltb entry (label_count (part file labels))) (rw e tt) (lt→ltb entry (label_count (part file labels)) h)
