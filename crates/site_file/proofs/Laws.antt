-- The claims of specs/Claims.antt, each proved under its name.
-- Assumes nothing.
use mathlib.Core.Path.{◌≡◌, sym, ap, subst, refl}
use mathlib.Core.Bool.{Bool, cond}
use mathlib.Core.List.{◌∷◌}
use native.Mathlib.Decide.{ℕ_discrete}
use borrow.Author.Tests.{ne_eqb}
use Rattle.state.specs.Site.{founding}
use Rattle.state.specs.Checks.{among}
use Rattle.state.proofs.Checks.{first_meets}
use Rattle.soundness.specs.Sound.{Sound}
use Rattle.soundness.proofs.Laws.{founding_sound}
use Rattle.site_file.specs.Reading.{state_in, file_checks, read_numbers, file_refusal, read_of}
use Rattle.site_file.specs.Claims
use Rattle.site_file.proofs.Checked.{checked, state_sound, state_read}

-- ---- the state beside the number is sound
pub refused_founding : Claims.RefusedFounding
unfolding read_of
refused_founding file ne = ap (λ (b : Bool). cond b (state_in file) founding) (ne_eqb (file_refusal file) 0 ne)

pub read_numbers_lem : Claims.ReadNumbers
unfolding file_refusal
read_numbers_lem file = first_meets (λ n. among n (0 ∷ read_numbers)) (file_checks file) tt tt

pub read_number : Claims.ReadNumber
unfolding read_of
read_number file = refl

pub read_sound : Claims.ReadSound
read_sound file = go (ℕ_discrete (file_refusal file) 0)
  where
    go : Dec (file_refusal file ≡ 0) → Sound (read_of file).state
    go (yes e) = subst Sound (sym (state_read file e)) (state_sound file (checked file e))
    go (no ne) = subst Sound (sym (refused_founding file ne)) founding_sound

-- ---- the table of refusals, and the header of an accepted file
pub file_order : Claims.FileOrder
file_order file = refl

pub accepted_header : Claims.AcceptedHeader
accepted_header file e =
    let k = checked file e in
    record { long = k.header_long; version = k.version_known; size = k.length_stated }
