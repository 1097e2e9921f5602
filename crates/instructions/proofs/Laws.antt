-- The claims of specs/Claims.antt, each proved under its name.
-- Assumes nothing.
use Rattle.std.proofs.Common.{Some, None, Ok, Err}
use Prim.Native.Nat.{ℕ, zero, suc, ◌≤◌, ◌<◌}
use mathlib.Core.Path.{◌≡◌, refl, sym, ap, subst, ◌∙◌}
use mathlib.Core.Logic.{◌⊎◌, inl, inr}
use mathlib.Core.Bool.{Bool, true, false, cond}
use mathlib.Core.List.{List, [], ◌∷◌}
use native.Mathlib.Nat.{not-suc-le-zero, le_of_suc-le-suc}
use native.Mathlib.Omega.{arith}
use lib.Dec.{T}
use lib.ListN.{length}
use Rattle.state.proofs.Bools.{holds, is_true}
use Rattle.state.specs.Checks.{first_met}
use Rattle.state.proofs.Checks.{met, passed, none_met}
use Rattle.verdicts.specs.declared.Refusal.{Refusal}
use Rattle.verdicts.specs.declared.Refusal.TheVariants.{UnknownCode, OutOfRange}
use Rattle.instructions.specs.Instructions.{Bytes, Picked, instructions, pick, instruction_of}
use Rattle.instructions.specs.Decode.{Decoded, in_range, decoded_as, decoded_number, misfits}
use Rattle.instructions.specs.Claims
use Rattle.instructions.specs.declared.Instruction.{Instruction}
use Rattle.instructions.specs.declared.Instruction.TheVariants.{ListArea}

-- ---- a code past the last picks nothing, and one within picks something
past : (l : List Instruction) (n : ℕ) → length l ≤ n → pick l n ≡ None
past [] n h = refl
past (x ∷ rest) zero h = absurd (not-suc-le-zero h)
past (x ∷ rest) (suc n) h = past rest n (le_of_suc-le-suc h)

is_picked : Picked → Bool
is_picked None = false
is_picked (Some x) = true

within : (l : List Instruction) (n : ℕ) → pick l n ≡ None → length l ≤ n
unfolding is_picked
within [] n e = omega arith
within (x ∷ rest) zero e = absurd (subst T (ap is_picked e) tt)
within (x ∷ rest) (suc n) e = let h = within rest n e in omega arith

pub no_code_exactly : Claims.NoCodeExactly
no_code_exactly zero = (λ e. inl refl, λ s. refl)
no_code_exactly (suc n) = (λ e. let h = within instructions n e in inr (omega arith), λ s. past instructions n (above s))
  where
    above : (suc n ≡ 0) ⊎ (length instructions < suc n) → length instructions ≤ n
    above (inl e) = absurd (omega arith)
    above (inr h) = omega arith

-- ---- what is decoded
-- the instruction, or any if there is none; and the refusal, or any
fitting : Decoded → Instruction
fitting (Ok x) = x
fitting (Err refusal) = ListArea

misfitting : Decoded → Refusal
misfitting (Ok x) = UnknownCode
misfitting (Err refusal) = refusal

-- an instruction, if its numbers are in range
abbrev ranged_by : Instruction → Bool → Decoded
ranged_by x v = cond v (Ok x) (Err OutOfRange)

pub refused_as_two : Claims.RefusedAsTwo
unfolding misfitting
refused_as_two bytes None refusal e = inl (sym (ap misfitting e))
refused_as_two bytes (Some x) refusal e = go (in_range x bytes.activator bytes.a bytes.b) e
  where
    go : (v : Bool) → ranged_by x v ≡ Err refusal → (refusal ≡ UnknownCode) ⊎ (refusal ≡ OutOfRange)
    go true f = inl (sym (ap misfitting f))
    go false f = inr (sym (ap misfitting f))

pub decoded_by_table : Claims.DecodedByTable
decoded_by_table bytes None = sym (met _ _ refl)
decoded_by_table bytes (Some x) = go (in_range x bytes.activator bytes.a bytes.b)
  where
    go : (v : Bool) → decoded_number (ranged_by x v) ≡ first_met (misfits (ranged_by x v))
    go true = sym (passed _ _ refl ∙ passed _ _ refl ∙ none_met)
    go false = sym (passed _ _ refl ∙ met _ _ refl)

-- ---- which bytes fit
module _ (bytes : Bytes) (x : Instruction) where
  abbrev ranged : Instruction → Bool
  ranged y = in_range y bytes.activator bytes.a bytes.b

  there : (p : Picked) → decoded_as bytes p ≡ Ok x → (p ≡ Some x) × T (ranged x)
  unfolding fitting
  there None e = let no_code : ◌≡◌ {A = ℕ} 1 0 = ap decoded_number e in absurd (omega arith)
  there (Some y) e = go (ranged y) refl e
    where
      go : (v : Bool) → ranged y ≡ v → ranged_by y v ≡ Ok x → (Some y ≡ Some x) × T (ranged x)
      go true q f = let same : y ≡ x = ap fitting f in (ap Some same, subst (λ (z : Instruction). T (ranged z)) same (holds q))
      go false q f = let out : ◌≡◌ {A = ℕ} 2 0 = ap decoded_number f in absurd (omega arith)

  back : (p : Picked) → p ≡ Some x → T (ranged x) → decoded_as bytes p ≡ Ok x
  back p e r = ap (decoded_as bytes) e ∙ ap (λ (v : Bool). ranged_by x v) (is_true (ranged x) r)

pub fits_exactly : Claims.FitsExactly
fits_exactly bytes x = (
  λ e. let t = there bytes x (instruction_of bytes.code) e in record { picked = t.0; is_in_range = t.1 },
  λ f. back bytes x (instruction_of bytes.code) f.picked f.is_in_range,
)
