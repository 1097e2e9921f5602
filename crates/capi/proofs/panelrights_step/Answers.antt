-- `capi::panelrights_step` meets its contract: the number is that of the machine, and where it is 0 the bytes are made those of its state.
-- Assumes nothing.
use Prim.Native.Nat.{ℕ}
use mathlib.Core.Path.{◌≡◌, refl, ap, sym, ◌∙◌}
use mathlib.Core.List.{List}
use Rattle.verdicts.proofs.Laws.{never_zero}
use Rattle.state.specs.Site.{Site}
use Rattle.records.specs.Record.{state_of}
use Rattle.instructions.specs.Instructions.{Bytes}
use Rattle.instructions.specs.Decode.{decode_of}
use Rattle.successors.specs.Successor.{successor_of}
use Rattle.machine.specs.Step.{step_refusal, step_of}
use Rattle.machine.proofs.Laws.{number_is_refusal, accepted_gives}
use Rattle.record_changes.specs.Change.{changed_record}
use Rattle.interface.specs.Interface.{step_number, step_buffer}
use Rattle.interface.proofs.Steps.{steps}
use Rattle.capi.proofs.Changing.{unchanged, made}
use Rattle.capi.proofs.panelrights_step.Goals as goal

module _ (state : List ℕ) (x : Bytes) {s : Site} {n : ℕ} (told : s ≡ state_of state) (given : n ≡ step_refusal s x) where
  number : n ≡ (step_of s x).refusal
  number = given ∙ sym (number_is_refusal s x)

  left_alone : (n ≡ 0 → ⊥) → (n ≡ step_number state x) × (state ≡ step_buffer state x)
  left_alone f = unchanged (steps x) state told number f

  changed : {now : List ℕ} → n ≡ 0 → now ≡ changed_record state x → (0 ≡ step_number state x) × (now ≡ step_buffer state x)
  changed z w =
      let next = successor_of (state_of state) x (decode_of x) in
      let given_next : next ≡ (step_of s x).state = ap (λ (t : Site). successor_of t x (decode_of x)) (sym told) ∙ sym (accepted_gives s x (sym number ∙ z)) in
      let there = made (steps x) state told next (sym number ∙ z) given_next w in
      (sym there.0, there.1)

pub returns-in-Err : goal.returns-in-Err
returns-in-Err c =
    let n = c.number.ensures in
    let p = left_alone _ _ c.state_of.ensures (n ∙ c.in-Err.ensures) (λ z. never_zero _ (sym n ∙ z)) in
    record { number = p.0; buffer = p.1 }

pub returns : goal.returns
returns c =
    let p = changed _ _ c.state_of.ensures c.in_default.ensures refl c.change.ensures in
    record { number = p.0; buffer = p.1 }
