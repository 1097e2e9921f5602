-- The claims of specs/Claims.antt, each proved under its name.
-- Assumes nothing.
use Prim.Native.Nat.{ℕ, zero, suc, ◌≤◌}
use mathlib.Core.Path.{◌≡◌, sym, subst, ◌∙◌, refl}
use mathlib.Core.List.{List}
use native.Mathlib.Omega.{arith}
use lib.Dec.{T}
use lib.ListN.{length, drop, length-append}
use Rattle.state.specs.Below.{some_below}
use Rattle.state.specs.Site.{Site, owner, related}
use Rattle.state.proofs.Laws.{related_inside}
use Rattle.pair_tables.specs.Pairs.{pair_count, is_pair_of, has_pair, table_of}
use Rattle.pair_tables.proofs.Laws.{table_holds}
use Rattle.label_tables.specs.Labels.{LawfulBlock}
use Rattle.label_tables.proofs.Laws.{one_block}
use Rattle.site_format.specs.Format.{AreBytes, labels, tables, part}
use Rattle.site_file.specs.Reading.{file_refusal, read_of, state_in}
use Rattle.site_file.proofs.Checked.{Checked, checked, accepted, state_sound, state_read}
use Rattle.label_finder.proofs.Laws.{label_is_text}
use Rattle.site_encoding.specs.Encode.{body_of, field_bytes, fields_of, encode}
use Rattle.site_encoding.specs.Claims
use Rattle.site_encoding.specs.Claims.{Accepted, Encoding}
use Rattle.site_encoding.proofs.Accept
use Rattle.site_encoding.proofs.Encoded

encoding : (file : List ℕ) → AreBytes file → (s : Site) (l : List ℕ) → Accepted file s l → Encoding file s l
encoding file bytes s l a =
    subst (λ (t : Site). Encoding file t l) (sym (state_read file a.no_refusal) ∙ a.state)
    (subst (Encoding file (state_in file)) a.block
    (record { sound = state_sound file k; lawful = Accept.lawful file k; encoded = Accept.encoded file k bytes }))
  where
    k : Checked file
    k = checked file a.no_refusal

acceptance : (file s : _) (l : List ℕ) → Encoding file s l → Accepted file s l
unfolding encode
acceptance file s l e =
    let no_refusal = accepted file (Encoded.passes s l e.sound e.lawful file e.encoded) in
    record {
      no_refusal = no_refusal;
      state = state_read file no_refusal ∙ Encoded.held s l e.sound e.lawful file e.encoded;
      block = Encoded.written s l e.sound e.lawful file e.encoded labels;
    }

pub single_encoding : Claims.SingleEncoding
single_encoding file bytes s l = (encoding file bytes s l, acceptance file s l)

pub one_file : Claims.OneFile
one_file f g bytes-f bytes-g s l a b = (encoding f bytes-f s l a).encoded ∙ sym (encoding g bytes-g s l b).encoded

pub one_meaning : Claims.OneMeaning
one_meaning file s t l m e d =
    let a = acceptance file s l e in
    let b = acceptance file t m d in
    (sym a.state ∙ b.state, sym a.block ∙ b.block)

pub one_file_of_texts : Claims.OneFileOfTexts
one_file_of_texts f g bytes-f bytes-g ok_f ok-g same texts =
    one_file f g bytes-f bytes-g (read_of f).state (part f labels)
    (record { no_refusal = ok_f; state = refl; block = refl })
    (record { no_refusal = ok-g; state = sym same; block = sym block })
  where
    lawful : (file : List ℕ) → file_refusal file ≡ 0 → LawfulBlock (part file labels)
    lawful file ok = (Accept.lawful file (checked file ok)).block

    block : part f labels ≡ part g labels
    block =
        one_block (part f labels) (part g labels) (lawful f ok_f) (lawful g ok-g)
        (λ a. sym (label_is_text f a ok_f) ∙ texts a ∙ label_is_text g a ok-g)

pub encode_bytes : Claims.EncodeBytes
encode_bytes s l h law = Encoded.are_bytes s l h law

pub encode_accepted : Claims.EncodeAccepted
encode_accepted s l h law = acceptance (encode s l) s l (record { sound = h; lawful = law; encoded = refl })

pub encode_most : Claims.EncodeMost
unfolding encode
encode_most s l h law = Encoded.at_most s l h law (encode s l) refl

-- a sound state has an owner pair, so its table of owners has one
some_pair : (t : List ℕ) (u a : ℕ) → T (has_pair t u a) → 1 ≤ pair_count t
unfolding has_pair some_below
some_pair t u a h = go (pair_count t) h
  where
    go : (n : ℕ) → T (some_below n (is_pair_of t u a)) → 1 ≤ n
    go zero none = absurd none
    go (suc n) some = omega arith

pub encode_least : Claims.EncodeLeast
unfolding encode
encode_least s l h =
    let a = h.some_area in
    let u = h.acceptable.areas a.0 a.1 in
    let inside = related_inside s owner u.0 a.0 h.shaped u.1 in
    let there : T (has_pair (table_of 32 (related s owner)) u.0 a.0) = rw (table_holds 32 (related s owner) u.0 a.0 inside.0 inside.1) u.1 in
    let one = some_pair (table_of 32 (related s owner)) u.0 a.0 there in
    omega (arith, one, length-append (field_bytes (fields_of s l)) (body_of s l tables), length-append (table_of 32 (related s owner)) (body_of s l (drop 1 tables)))

pub accepted_most : Claims.AcceptedMost
accepted_most file bytes ok =
    let e = encoding file bytes (read_of file).state (part file labels) (record { no_refusal = ok; state = refl; block = refl }) in
    subst (λ (f : List ℕ). length f ≤ Claims.most_bytes) (sym e.encoded) (encode_most _ _ e.sound e.lawful)
