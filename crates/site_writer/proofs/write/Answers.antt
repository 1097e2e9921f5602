-- `site_writer::write` meets its contract.
-- Assumes nothing.
use Prim.Native.Nat.{ℕ, ◌≤◌, ◌<◌}
use mathlib.Core.Path.{◌≡◌, refl, sym, ap, subst, ◌∙◌}
use mathlib.Core.Bool.{Bool, true, false, not}
use mathlib.Core.List.{List}
use borrow.Author.Tests.{lt-ltb, le-ltb, not-true, not-false}
use lib.Dec.{ltb}
use Rattle.state.specs.Site.{Site}
use Rattle.state.specs.Stands.{site}
use Rattle.soundness.specs.Tests.{is_sound}
use Rattle.output.specs.Buffer.{written}
use Rattle.site_encoding.specs.Writer.{is_unlawful}
use Rattle.site_encoding.proofs.Answer.{is_12, is_30, is_31, is_0, refused_so, written_so}
use Rattle.site_writer.proofs.Whole.{stated_length, whole_file}
use Rattle.site_writer.proofs.write.Goals as goal

module _ (s : Site) (l : List ℕ) {told : Bool} where
  -- each test, as it came out
  unsound : told ≡ is_sound s → told ≡ false → not (is_sound s) ≡ true
  unsound e n = ap not (sym e ∙ n)

  sound : told ≡ is_sound s → told ≡ true → not (is_sound s) ≡ false
  sound e t = ap not (sym e ∙ t)

  unlawful : told ≡ not (is_unlawful s l) → told ≡ false → is_unlawful s l ≡ true
  unlawful e n = not-false _ (sym e ∙ n)

  lawful : told ≡ not (is_unlawful s l) → told ≡ true → is_unlawful s l ≡ false
  lawful e t = not-true _ (sym e ∙ t)

too_short : (room n size : ℕ) → n ≡ size → room < n → ltb room size ≡ true
too_short room n size e h = lt-ltb room size (subst (λ (k : ℕ). room < k) e h)

large_enough : (room n size : ℕ) → n ≡ size → n ≤ room → size ≤ room
large_enough room n size e h = subst (λ (k : ℕ). k ≤ room) e h

-- ---- what is asked, and what is returned
pub returns-then-not-is_sound : goal.returns-then-not-is_sound
returns-then-not-is_sound c =
    let s = site c.args.s.now in
    let l = c.args.labels.now in
    let r = refused_so _ _ _ 12 (is_12 _ _ _ (unsound s l c.is_sound.ensures.equation c.if-not-is_sound.true)) refl in
    record { answer = r.0; buffer = r.1 }

pub returns-then-not-is_lawful : goal.returns-then-not-is_lawful
returns-then-not-is_lawful c =
    let s = site c.args.s.now in
    let l = c.args.labels.now in
    let t₁ = sound s l c.is_sound.ensures.equation c.if-not-is_sound.false in
    let t₂ = unlawful s l c.is_lawful.ensures c.if-not-is_lawful.true in
    let r = refused_so _ _ _ 30 (is_30 _ _ _ t₁ t₂) refl in
    record { answer = r.0; buffer = r.1 }

pub returns-then-file-length : goal.returns-then-file-length
returns-then-file-length c =
    let s = site c.args.s.now in
    let l = c.args.labels.now in
    let t₁ = sound s l c.is_sound.ensures.equation c.if-not-is_sound.false in
    let t₂ = lawful s l c.is_lawful.ensures c.if-not-is_lawful.false in
    -- the length that is compared is the file's
    let long = stated_length _ _ _ c.fields-fields.ensures in
    let r = refused_so _ _ _ 31 (is_31 _ _ _ t₁ t₂ (too_short _ _ _ long c.if-file-length.true)) refl in
    record { answer = r.0; buffer = r.1 }

pub returns : goal.returns
returns c =
    let s = site c.args.s.now in
    let l = c.args.labels.now in
    let t₁ = sound s l c.is_sound.ensures.equation c.if-not-is_sound.false in
    let t₂ = lawful s l c.is_lawful.ensures c.if-not-is_lawful.false in
    let long = stated_length _ _ _ c.fields-fields.ensures in
    let room = large_enough _ _ _ long c.if-file-length.false in
    let r = written_so _ _ _ (is_0 _ _ _ t₁ t₂ (le-ltb _ _ room)) in
    let header = c.put_fields-header_end.ensures in
    let body = c.put_tables.ensures in
    let whole =
    whole_file _ _ _ c.fields-fields.ensures _ _ _ _ _ c.well_formed.1.1.0.0 room (header.place, header.buffer)
    (body.place, body.buffer)
    in
    record { answer = ap (written 0) long ∙ r.0; buffer = whole ∙ r.1 }
