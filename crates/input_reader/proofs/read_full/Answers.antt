use Rattle.std.proofs.Common.{◌≡◌, ℕ, ◌+◌, ◌≤◌, List, ◌++◌, length, take, sym, subst, le_refl, rules, drop_at, length-take-le}
use Rattle.std.proofs.lemmas.Slice.{take-put_mid_below}
use Rattle.std.specs.Io.KnownBytes.{Consumes}
use Rattle.std.proofs.KnownBytes.{Consumes-trans}
use borrow.Rule.Slice.PartMut.{put_mid, post_of}
use lib.Seq.{take-add, take-append-le}
use Rattle.input_reader.proofs.read_full.Goals as goal

-- What a read left in front of the part of a buffer that it was given stands behind what stood there before.
grown : (a k n : ℕ) (xs ys : List ℕ) → a ≤ length xs → n ≤ length ys
    → take (a + n) (put_mid a k xs ys) ≡ take a xs ++ take n ys
grown a k n xs ys h fits =
    rw (
      take-add a n (put_mid a k xs ys),
      take-put_mid_below a k xs ys a (le_refl a) h,
      drop_at (take a xs) (ys ++ post_of a k xs) a (length-take-le a xs h),
      take-append-le n ys (post_of a k xs) fits,
    )

pub loop-count-preserved : goal.loop-count-preserved
loop-count-preserved g c = record {
  within = search rules;
  bytes = subst (Consumes _ _)
      (sym (grown c.loop-count.count _ c.in_ok-more.more c.loop-count.buffer c.read.new.buf c.loop-count.invariant.within
      c.in_ok-more.ensures.bound.0))
      (Consumes-trans _ _ _ _ _ c.loop-count.invariant.bytes c.in_ok-more.ensures.bytes.0);
}
