-- The claims of specs/Claims.antt: a number tells its refusal.
-- Assumes nothing.
use Rattle.std.proofs.Common.{ℕ, ◌≡◌, cond, eqb}
use native.Mathlib.Omega.{arith}
use mathlib.Core.Path.{refl, sym, ap, ◌∙◌}
use Rattle.verdicts.specs.Claims
use Rattle.verdicts.specs.Refusals.{number}
use Rattle.verdicts.specs.declared.Refusal.{Refusal}
use Rattle.verdicts.specs.declared.Refusal.TheVariants.{UnknownCode, OutOfRange, ActivatorUnlisted, NotListed, NotOwner}
use Rattle.verdicts.specs.declared.Refusal.TheVariants.{AlreadyThere, NotThere, LastOne, AreaInUse, WouldLackAccess}
use Rattle.verdicts.specs.declared.Refusal.TheVariants.{WouldLoseAccess, UnsoundState, UnreadableLine, RecipeForm}
use Rattle.verdicts.specs.declared.Refusal.TheVariants.{OwnImport, FileTooShort, FileVersion, FileLength, FileCount}
use Rattle.verdicts.specs.declared.Refusal.TheVariants.{FileOffset, FileRange, FileOrder, FileLists, FileLacksAccess}
use Rattle.verdicts.specs.declared.Refusal.TheVariants.{LabelBlock, BufferLength}

-- the refusal with a number; for a number of none, some refusal
with_number : ℕ → Refusal
with_number n =
    cond (eqb n 1) UnknownCode (cond (eqb n 2) OutOfRange (cond (eqb n 3) ActivatorUnlisted (cond (eqb n 4) NotListed (cond (eqb n 5) NotOwner (cond (eqb n 6) AlreadyThere (cond (eqb n 7) NotThere (cond (eqb n 8) LastOne (cond (eqb n 9) AreaInUse (cond (eqb n 10) WouldLackAccess (cond (eqb n 11) WouldLoseAccess (cond (eqb n 12) UnsoundState (cond (eqb n 13) UnreadableLine (cond (eqb n 14) RecipeForm (cond (eqb n 15) OwnImport (cond (eqb n 21) FileTooShort (cond (eqb n 22) FileVersion (cond (eqb n 23) FileLength (cond (eqb n 24) FileCount (cond (eqb n 25) FileOffset (cond (eqb n 26) FileRange (cond (eqb n 27) FileOrder (cond (eqb n 28) FileLists (cond (eqb n 29) FileLacksAccess (cond (eqb n 30) LabelBlock (BufferLength)))))))))))))))))))))))))

told : (r : Refusal) → with_number (number r) ≡ r
unfolding with_number
told UnknownCode = refl
told OutOfRange = refl
told ActivatorUnlisted = refl
told NotListed = refl
told NotOwner = refl
told AlreadyThere = refl
told NotThere = refl
told LastOne = refl
told AreaInUse = refl
told WouldLackAccess = refl
told WouldLoseAccess = refl
told UnsoundState = refl
told UnreadableLine = refl
told RecipeForm = refl
told OwnImport = refl
told FileTooShort = refl
told FileVersion = refl
told FileLength = refl
told FileCount = refl
told FileOffset = refl
told FileRange = refl
told FileOrder = refl
told FileLists = refl
told FileLacksAccess = refl
told LabelBlock = refl
told BufferLength = refl

pub one_each : Claims.OneEach
one_each r t same = sym (told r) ∙ ap with_number same ∙ told t

pub never_zero : Claims.NeverZero
never_zero UnknownCode e = omega (arith, e)
never_zero OutOfRange e = omega (arith, e)
never_zero ActivatorUnlisted e = omega (arith, e)
never_zero NotListed e = omega (arith, e)
never_zero NotOwner e = omega (arith, e)
never_zero AlreadyThere e = omega (arith, e)
never_zero NotThere e = omega (arith, e)
never_zero LastOne e = omega (arith, e)
never_zero AreaInUse e = omega (arith, e)
never_zero WouldLackAccess e = omega (arith, e)
never_zero WouldLoseAccess e = omega (arith, e)
never_zero UnsoundState e = omega (arith, e)
never_zero UnreadableLine e = omega (arith, e)
never_zero RecipeForm e = omega (arith, e)
never_zero OwnImport e = omega (arith, e)
never_zero FileTooShort e = omega (arith, e)
never_zero FileVersion e = omega (arith, e)
never_zero FileLength e = omega (arith, e)
never_zero FileCount e = omega (arith, e)
never_zero FileOffset e = omega (arith, e)
never_zero FileRange e = omega (arith, e)
never_zero FileOrder e = omega (arith, e)
never_zero FileLists e = omega (arith, e)
never_zero FileLacksAccess e = omega (arith, e)
never_zero LabelBlock e = omega (arith, e)
never_zero BufferLength e = omega (arith, e)
