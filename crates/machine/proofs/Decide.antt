-- The number of a step as functions find it, in the order of its checks, and what is given with it.
--     misfit_some                                     what fits no instruction has a number other than 0
--     unsound_number, misfit_number, found_number     a record that is not sound, bytes that fit no instruction, the checks of the instruction
--     refused_number                                  bytes that fit no instruction, of a sound state
--     refused_step, accepted_step                     what the step gives with its number
-- Assumes nothing.
use Rattle.std.proofs.Common.{Ok, Err}
use Prim.Native.Nat.{ℕ}
use mathlib.Core.Path.{◌≡◌, refl, sym, ap, subst, ◌∙◌}
use mathlib.Core.Bool.{Bool, false, not, cond}
use mathlib.Core.List.{◌++◌}
use lib.Dec.{eqb}
use borrow.Author.Tests.{eq-eqb, ne_eqb}
use Rattle.state.specs.Site.{Site, verdict}
use Rattle.state.proofs.Bools.{fails, holds, is_true}
use Rattle.soundness.specs.Sound.{Sound}
use Rattle.soundness.specs.Tests.{is_sound}
use Rattle.soundness.proofs.Laws.{sound_decided}
use Rattle.verdicts.specs.Refusals.{number as number_of}
use Rattle.verdicts.specs.declared.Refusal.{Refusal}
use Rattle.verdicts.proofs.Laws.{never_zero}
use Rattle.instructions.specs.Instructions.{Bytes, instruction_of}
use Rattle.instructions.specs.Decode.{Decoded, decode_of, decoded_number, misfits}
use Rattle.instructions.proofs.Laws.{decoded_by_table}
use Rattle.successors.specs.Successor.{successor_of}
use Rattle.state.specs.Checks.{first_met}
use Rattle.refusals.specs.Refusals.{instruction_checks, checks_of}
use Rattle.refusals.specs.Parts.{found_checks}
use Rattle.machine.specs.Step.{decided, step_refusal, step_of}
use Rattle.instructions.specs.declared.Instruction.{Instruction}
use Rattle.state.proofs.Checks.{met, passed}
use Rattle.refusals.proofs.Late.{found_by_result}

-- what fits no instruction has a number other than 0
pub misfit_some : (d : Decoded) → ((x : Instruction) → d ≡ Ok x → ⊥) → eqb (decoded_number d) 0 ≡ false
misfit_some (Ok x) k = absurd (k x refl)
misfit_some (Err refusal) k = ne_eqb (number_of refusal) 0 (never_zero refusal)

module _ (s : Site) (bytes : Bytes) where
  -- the number of what was decoded: 1 or 2, or that of the instruction's checks
  abbrev number : Decoded → ℕ
  number d = first_met (misfits d ++ checks_of s bytes d)

  first_fit : (x : Instruction) → number (Ok x) ≡ first_met (instruction_checks s x bytes.activator bytes.a bytes.b)
  first_fit x = passed _ _ refl ∙ passed _ _ refl

  -- ---- the number
  pub unsound_number : is_sound s ≡ false → 12 ≡ step_refusal s bytes
  unfolding step_refusal
  unsound_number e = sym (met _ _ (ap not e))

  -- of a state that 12 is not met of, from what was decoded
  by_decoded : not (is_sound s) ≡ false → {d : Decoded} → d ≡ decode_of bytes → number d ≡ step_refusal s bytes
  unfolding step_refusal
  by_decoded sound decoded = ap number decoded ∙ sym (passed _ _ sound)

  by_table : not (is_sound s) ≡ false → (refusal : Refusal) → Err refusal ≡ decode_of bytes → number_of refusal ≡ step_refusal s bytes
  by_table sound refusal decoded =
      let table = subst (λ (d : Decoded). decoded_number d ≡ first_met (misfits d)) (sym decoded) (decoded_by_table bytes (instruction_of bytes.code)) in
      table ∙ by_decoded sound decoded

  of_misfit : not (is_sound s) ≡ false → (d : Decoded) → d ≡ decode_of bytes → ((x : Instruction) → d ≡ Ok x → ⊥) → decoded_number d ≡ step_refusal s bytes
  of_misfit sound (Ok x) decoded k = absurd (k x refl)
  of_misfit sound (Err refusal) decoded k = by_table sound refusal decoded

  pub misfit_number : not (is_sound s) ≡ false → (d : Decoded) → d ≡ decode_of bytes → ((x : Instruction) → d ≡ Ok x → ⊥)
      → {n : ℕ} → n ≡ decoded_number d → (n ≡ step_refusal s bytes) × (n ≡ 0 → ⊥)
  misfit_number sound d decoded k e =
      (e ∙ of_misfit sound d decoded k, λ z. fails (misfit_some d k) (holds (eq-eqb (decoded_number d) 0 (sym e ∙ z))))

  -- of a sound state 12 is not met
  past_12 : Sound s → not (is_sound s) ≡ false
  past_12 h = ap not (is_true (is_sound s) ((sound_decided s h.shaped).1 h))

  pub refused_number : Sound s → (refusal : Refusal) → Err refusal ≡ decode_of bytes → number_of refusal ≡ step_refusal s bytes
  refused_number h refusal decoded = by_table (past_12 h) refusal decoded

  pub found_number : Sound s → (x : Instruction) → Ok x ≡ decode_of bytes
      → {n : ℕ} → n ≡ first_met (found_checks s x bytes.activator bytes.a bytes.b) → n ≡ step_refusal s bytes
  found_number h x decoded e =
      e ∙ ap first_met (sym (found_by_result s h x bytes.activator bytes.a bytes.b)) ∙ sym (first_fit x) ∙ by_decoded (past_12 h) decoded

  -- ---- and what is given with it
  pub refused_step : (refusal : Refusal) → number_of refusal ≡ step_refusal s bytes → verdict (number_of refusal) s ≡ step_of s bytes
  unfolding step_of
  refused_step refusal e =
      let next = successor_of s bytes (decode_of bytes) in
      ap (λ (p : Bool). verdict (number_of refusal) (cond p next s)) (sym (ne_eqb (number_of refusal) 0 (never_zero refusal))) ∙ ap (decided s next) e

  pub accepted_step : 0 ≡ step_refusal s bytes → {t : Site} → t ≡ successor_of s bytes (decode_of bytes) → verdict 0 t ≡ step_of s bytes
  unfolding step_of
  accepted_step e next = (λ i. verdict 0 (next i)) ∙ ap (decided s (successor_of s bytes (decode_of bytes))) e
