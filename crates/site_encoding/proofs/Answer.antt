-- What the writer answers, and the buffer, by the refusal's number; and which number is given.
--     is_12, is_30, is_31, is_0     the number, by the tests
--     refused_so, written_so        answer and buffer beside a refusal, and beside 0
-- Assumes nothing.
use Prim.Native.Nat.{ℕ}
use mathlib.Core.Path.{◌≡◌, refl, ◌∙◌}
use mathlib.Core.Bool.{true, false, not}
use mathlib.Core.List.{List, ◌++◌}
use lib.Dec.{eqb}
use lib.ListN.{length, drop}
use Rattle.state.specs.Site.{Site}
use Rattle.state.proofs.Checks.{met, passed, none_met}
use Rattle.soundness.specs.Tests.{is_sound}
use Rattle.site_encoding.specs.Encode.{encode}
use Rattle.output.specs.Buffer.{written, is_short}
use Rattle.site_encoding.specs.Writer.{is_unlawful, write_refusal, write_of, buffer_after}

module _ (s : Site) (l buffer : List ℕ) where
  pub is_12 : not (is_sound s) ≡ true → write_refusal s l buffer ≡ 12
  unfolding write_refusal
  is_12 e = met _ _ e

  module _ (sound : not (is_sound s) ≡ false) where
    pub is_30 : is_unlawful s l ≡ true → write_refusal s l buffer ≡ 30
    unfolding write_refusal
    is_30 e = passed _ _ sound ∙ met _ _ e

    module _ (lawful : is_unlawful s l ≡ false) where
      pub is_31 : is_short (encode s l) buffer ≡ true → write_refusal s l buffer ≡ 31
      unfolding write_refusal
      is_31 e = passed _ _ sound ∙ passed _ _ lawful ∙ met _ _ e

      pub is_0 : is_short (encode s l) buffer ≡ false → write_refusal s l buffer ≡ 0
      unfolding write_refusal
      is_0 e = passed _ _ sound ∙ passed _ _ lawful ∙ passed _ _ e ∙ none_met

  pub refused_so : (n : ℕ) → write_refusal s l buffer ≡ n → eqb n 0 ≡ false → (written n 0 ≡ write_of s l buffer) × (buffer ≡ buffer_after s l buffer)
  unfolding write_of buffer_after
  refused_so n e some = rw (e, some) (refl, refl)

  pub written_so : write_refusal s l buffer ≡ 0 → (written 0 (length (encode s l)) ≡ write_of s l buffer) × (encode s l ++ drop (length (encode s l)) buffer ≡ buffer_after s l buffer)
  unfolding write_of buffer_after
  written_so e = rw e (refl, refl)
