-- `label_finder::block_place` meets its contract: the table of labels stands where its row of the layout says.
-- Assumes nothing.
use Rattle.std.proofs.Common.{ℕ, Result, Ok, Err, Some, None}
use Rattle.std.specs.Result.{is_ok}
use mathlib.Core.Path.{◌≡◌, sym, ap, ◌∙◌}
use mathlib.Core.Bool.{Bool, true, false, cond}
use mathlib.Core.List.{List}
use native.Mathlib.Omega.{arith}
use borrow.Author.Tests.{eqb-true, ne_eqb}
use lib.Dec.{eqb}
use Rattle.verdicts.proofs.Laws.{never_zero}
use Rattle.verdicts.specs.Refusals.{number}
use Rattle.state.specs.Site.{Verdict}
use Rattle.state.specs.declared.State.{State}
use Rattle.site_format.specs.Format.{labels, Layout, offset_in, size_in}
use Rattle.site_format.proofs.Tables.{field_by, size_by}
use Rattle.site_file.specs.declared.ReadRefused.{ReadRefused}
use Rattle.site_file.specs.Reading.{file_refusal, read_of, as_verdict}
use Rattle.label_finder.specs.Finder.{block_at, block_length, block_place, found_block}
use Rattle.label_finder.proofs.Laws.{block_found, block_small}
use Rattle.label_finder.proofs.Texts.{same_place}
use Rattle.label_finder.proofs.block_place.Goals as goal

module _ (file : List ℕ) where
  -- the file is accepted where the reading is
  refusal_so : {v : Verdict} → v ≡ read_of file → v.refusal ≡ file_refusal file
  unfolding read_of
  refusal_so e = ap (λ (v : Verdict). v.refusal) e

  accepted : (result : Result State ReadRefused) → as_verdict result ≡ read_of file → is_ok result ≡ eqb (file_refusal file) 0
  accepted (Ok s) e = ap (λ (n : ℕ). eqb n 0) (refusal_so e)
  accepted (Err r) e = sym (ne_eqb (number r.refusal) 0 (never_zero r.refusal)) ∙ ap (λ (n : ℕ). eqb n 0) (refusal_so e)

  module _ (result : Result State ReadRefused) (e : as_verdict result ≡ read_of file) where
    answer : (ok : Bool) → is_ok result ≡ ok → cond ok (Some (block_place file)) None ≡ found_block file
    answer ok t = ap (λ (b : Bool). cond b (Some (block_place file)) None) (sym t ∙ accepted result e)

    found : is_ok result ≡ true → (block_at file ≡ offset_in file labels) × (block_length file ≡ size_in file labels)
    found t = block_found file (eqb-true (file_refusal file) 0 (sym (accepted result e) ∙ t))

pub returns-then-is_err : goal.returns-then-is_err
returns-then-is_err c = answer _ _ c.read.ensures.equation false c.if-is_err.ensures.negation

pub overflow_mul-length : goal.overflow_mul-length
overflow_mul-length c =
    let file = c.args.file.now in
    let long = size_by file labels c.field_at.ensures c.layout_of-layout.ensures in
    let known = found file _ c.read.ensures.equation c.if-is_err.ensures.negation in
    omega (arith, long, known.1, block_small file (λ i. (c.type_inv.file i).fits))

pub returns : goal.returns
returns c =
    let file = c.args.file.now in
    let row = c.layout_of-layout.ensures in
    let known = found file _ c.read.ensures.equation c.if-is_err.ensures.negation in
    ap Some
    (same_place
    (field_by file (λ (l : Layout). l.offset_at) c.field_at-at.ensures row ∙ sym known.0)
    (size_by file labels c.field_at.ensures row ∙ sym known.1))
    ∙ answer _ _ c.read.ensures.equation true c.if-is_err.ensures.negation
