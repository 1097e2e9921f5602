-- Of a state, a label block and a buffer one of four is so, and each has its number.
--     Decided, decided     the four cases
-- Assumes nothing.
use Prim.Native.Nat.{ℕ, ◌<◌}
use mathlib.Core.Path.{◌≡◌, ap}
use mathlib.Core.Logic.{◌⊎◌, inl, inr}
use mathlib.Core.Bool.{false, not}
use mathlib.Core.List.{List}
use borrow.Author.Tests.{ltb-false}
use lib.Dec.{T, ltb→lt}
use lib.ListN.{length}
use Rattle.state.specs.Site.{Site, Shaped}
use Rattle.state.proofs.Bools.{is_true, fails, test}
use Rattle.soundness.specs.Sound.{Sound}
use Rattle.soundness.specs.Tests.{is_sound}
use Rattle.soundness.proofs.Laws.{sound_decided}
use Rattle.output.specs.Buffer.{is_short}
use Rattle.site_encoding.specs.Encode.{Lawful, encode}
use Rattle.site_encoding.specs.WriterClaims.{Writable}
use Rattle.site_encoding.specs.Writer.{is_unlawful, write_refusal}
use Rattle.site_encoding.proofs.Answer.{is_12, is_30, is_31, is_0}
use Rattle.site_encoding.proofs.Lawful.{tested, untested}

pub data Decided (s : Site) (l buffer : List ℕ) : Type 0 where
  unsound : (Sound s → ⊥) → write_refusal s l buffer ≡ 12 → Decided s l buffer
  unlawful : Sound s → (Lawful s l → ⊥) → write_refusal s l buffer ≡ 30 → Decided s l buffer
  short : Sound s → Lawful s l → length buffer < length (encode s l) → write_refusal s l buffer ≡ 31 → Decided s l buffer
  fits : Writable s l buffer → write_refusal s l buffer ≡ 0 → Decided s l buffer

pub decided : (s : Site) → Shaped s → (l buffer : List ℕ) → Decided s l buffer
decided s shaped l buffer = by_sound (test (is_sound s))
  where
    by_room : T (is_sound s) → is_unlawful s l ≡ false → T (is_short (encode s l) buffer) ⊎ (is_short (encode s l) buffer ≡ false) → Decided s l buffer
    by_room t e (inl less) =
        short ((sound_decided s shaped).0 t) (tested s l e) (ltb→lt (length buffer) (length (encode s l)) less)
        (is_31 s l buffer (ap not (is_true (is_sound s) t)) e (is_true (is_short (encode s l) buffer) less))
    by_room t e (inr room) =
        fits
        (record { sound = (sound_decided s shaped).0 t; lawful = tested s l e; room = ltb-false (length buffer) (length (encode s l)) room })
        (is_0 s l buffer (ap not (is_true (is_sound s) t)) e room)

    by_lawful : T (is_sound s) → T (is_unlawful s l) ⊎ (is_unlawful s l ≡ false) → Decided s l buffer
    by_lawful t (inl b) =
        unlawful ((sound_decided s shaped).0 t) (λ law. fails (untested s l law) b) (is_30 s l buffer (ap not (is_true (is_sound s) t)) (is_true (is_unlawful s l) b))
    by_lawful t (inr e) = by_room t e (test (is_short (encode s l) buffer))

    by_sound : T (is_sound s) ⊎ (is_sound s ≡ false) → Decided s l buffer
    by_sound (inl t) = by_lawful t (test (is_unlawful s l))
    by_sound (inr e) = unsound (λ h. fails e ((sound_decided s shaped).1 h)) (is_12 s l buffer (ap not e))
