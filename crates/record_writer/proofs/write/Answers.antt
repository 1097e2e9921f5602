-- `record_writer::write` meets its contract: each set or relation is laid behind the one before it, and together they fill the buffer.
-- Assumes nothing.
use Prim.Native.Nat.{ℕ}
use mathlib.Core.Path.{◌≡◌, sym, ap, ◌∙◌}
use mathlib.Core.Bool.{Bool, true, false, cond}
use mathlib.Core.List.{List}
use native.Mathlib.Omega.{arith}
use borrow.Author.Tests.{eq-eqb, ne_eqb}
use lib.ListN.{length}
use Rattle.state.specs.Site.{Site}
use Rattle.state.specs.Stands.{site}
use Rattle.records.specs.Record.{record_size, places, bytes_of, is_sized, number_for, stored}
use Rattle.record_writer.proofs.Lay.{Front, front_first, front_more, front_whole}
use Rattle.record_writer.proofs.write.Goals as goal

-- by how the test of the length came out
numbered : (b : List ℕ) (v : Bool) → is_sized b ≡ v → number_for b ≡ cond v 0 31
numbered b v e = ap (λ (w : Bool). cond w 0 31) e

kept : (b : List ℕ) (s : Site) (v : Bool) → is_sized b ≡ v → stored b s ≡ cond v (bytes_of s) b
unfolding stored
kept b s v e = ap (λ (w : Bool). cond w (bytes_of s) b) e

whole : (b : List ℕ) (s : Site) (l : List ℕ) → length b ≡ record_size → Front b record_size (places s) l → l ≡ bytes_of s
unfolding bytes_of
whole b s l h t = front_whole b record_size (places s) l h t

pub returns-then-buffer-ne-SIZE : goal.returns-then-buffer-ne-SIZE
returns-then-buffer-ne-SIZE c =
    let before = c.args.buffer.now in
    let other = ne_eqb (length before) record_size c.if-buffer-ne-SIZE.true in
    record { number = sym (numbered before false other); bytes = sym (kept before (site c.args.s.now) false other) }

pub returns : goal.returns
unfolding site
returns c =
    let before = c.args.buffer.now in
    let s = site c.args.s.now in
    let sized : length before ≡ record_size = c.if-buffer-ne-SIZE.false in
    let t = c.args.s.now in
    let laid1 : Front before 4 s.users c.write_rows.new.bytes = front_first _ 1 t.users (omega arith) c.write_rows.ensures in
    let laid2 = front_more before 4 1 _ t.areas (omega arith) c.write_rows-2.ensures laid1 in
    let laid3 = front_more before 8 2 _ t.objects (omega arith) c.write_rows-3.ensures laid2 in
    let laid4 = front_more before 16 32 _ t.owners (omega arith) c.write_rows-4.ensures laid3 in
    let laid5 = front_more before 144 64 _ t.definitions (omega arith) c.write_rows-5.ensures laid4 in
    let laid6 = front_more before 400 32 _ t.structure (omega arith) c.write_rows-6.ensures laid5 in
    let laid7 = front_more before 528 64 _ t.imports (omega arith) c.write_rows-7.ensures laid6 in
    let laid8 = front_more before 784 64 _ t.exports (omega arith) c.write_rows-8.ensures laid7 in
    let long = eq-eqb (length before) record_size sized in
    record {
      number = sym (numbered before true long);
      bytes = whole before s _ sized laid8 ∙ sym (kept before s true long);
    }
