-- A buffer that is too short for a text, and one that is not.
--     short_written, short_buffer, fits_written, fits_buffer    what is answered, and the buffer
--     laid_front                                                a text that fits, from the buffer's front on
--     counted_short, counted_fits                               both, where the text was counted over a buffer of no bytes
-- Assumes nothing.
use Prim.Native.Nat.{ℕ, ◌+◌, ◌≤◌, ◌<◌}
use mathlib.Core.Path.{◌≡◌, refl, ap, subst, ◌∙◌}
use mathlib.Core.List.{List, ◌++◌}
use native.Mathlib.Nat.{zero-add}
use native.Mathlib.Omega.{arith}
use borrow.Author.Tests.{lt-ltb, le-ltb}
use lib.ListN.{length, drop}
use lib.Seq.{sets-eq}
use Rattle.output.specs.Buffer.{laid, last_place, place_behind, written, written_of, buffer_of}

module _ (text buffer : List ℕ) where
  module _ (short : length buffer < length text) where
    pub short_written : written 31 0 ≡ written_of text buffer
    unfolding written_of
    short_written = rw (lt-ltb (length buffer) (length text) short) refl

    pub short_buffer : buffer ≡ buffer_of text buffer
    unfolding buffer_of
    short_buffer = rw (lt-ltb (length buffer) (length text) short) refl

  module _ (fits : length text ≤ length buffer) where
    pub fits_written : written 0 (length text) ≡ written_of text buffer
    unfolding written_of
    fits_written = rw (le-ltb (length buffer) (length text) fits) refl

    pub laid_front : laid text 0 buffer ≡ text ++ drop (length text) buffer
    unfolding laid
    laid_front =
        let room : 0 + length text ≤ length buffer = omega arith in
        sets-eq text buffer 0 room ∙ ap (λ (k : ℕ). text ++ drop k buffer) (zero-add (length text))

    pub fits_buffer : laid text 0 buffer ≡ buffer_of text buffer
    unfolding buffer_of
    fits_buffer = rw (le-ltb (length buffer) (length text) fits) laid_front

  -- the text was counted first; there is a bound on its length
  module _ (n : ℕ) (counted : n ≡ place_behind 0 text) (bound : length text ≤ last_place) where
    all : n ≡ length text
    unfolding place_behind
    all = omega arith

    pub counted_short : length buffer < n → (written 31 0 ≡ written_of text buffer) × (buffer ≡ buffer_of text buffer)
    counted_short h = let short = subst (λ (k : ℕ). length buffer < k) all h in (short_written short, short_buffer short)

    pub counted_fits : n ≤ length buffer → (after : List ℕ) → after ≡ laid text 0 buffer
        → (written 0 n ≡ written_of text buffer) × (after ≡ buffer_of text buffer)
    counted_fits h after e =
        let fits = subst (λ (k : ℕ). k ≤ length buffer) all h in
        (ap (written 0) all ∙ fits_written fits, e ∙ fits_buffer fits)
