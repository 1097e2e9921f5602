-- The tests of a label block decide whether it is lawful.
--     tested, untested     a block that fails none is lawful, and the other way round
-- Assumes nothing.
use Prim.Native.Nat.{ℕ, ◌*◌, ◌%◌}
use mathlib.Core.Path.{◌≡◌, refl}
use mathlib.Core.Bool.{false, ◌||◌, not}
use mathlib.Core.List.{List}
use native.Mathlib.Omega.{arith}
use borrow.Author.Tests.{eq-eqb}
use lib.Dec.{eqb, eqb→eq}
use lib.ListN.{length}
use Rattle.state.specs.Site.{Site}
use Rattle.state.proofs.Bools.{is_true, neither, so}
use Rattle.label_tables.specs.Labels.{label_count, label_size, labels_fit, labels_ascend, labels_listed}
use Rattle.site_encoding.specs.Encode.{Lawful}
use Rattle.site_encoding.specs.Writer.{has_partial, breaks_labels, is_unlawful}

module _ (s : Site) (l : List ℕ) where
  pub tested : is_unlawful s l ≡ false → Lawful s l
  tested e =
      let block = neither (has_partial l) (breaks_labels s l) e in
      let ordered = neither (not (labels_fit l) || not (labels_ascend l)) (not (labels_listed s.areas l)) block.1 in
      let ranged = neither (not (labels_fit l)) (not (labels_ascend l)) ordered.0 in
      let no_rest : length l % label_size ≡ 0 = eqb→eq (length l % label_size) 0 (so (eqb (length l % label_size) 0) block.0) in
      record {
        block = record { whole = omega arith; is_in_range = so (labels_fit l) ranged.0; ascending = so (labels_ascend l) ranged.1 };
        listed = so (labels_listed s.areas l) ordered.1;
      }

  pub untested : Lawful s l → is_unlawful s l ≡ false
  untested law =
      let whole : length l ≡ label_count l * label_size = law.block.whole in
      let no_rest : length l % label_size ≡ 0 = omega arith in
      rw (eq-eqb (length l % label_size) 0 no_rest, is_true (labels_fit l) law.block.is_in_range, is_true (labels_ascend l) law.block.ascending, is_true (labels_listed s.areas l) law.listed) refl
