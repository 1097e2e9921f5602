-- `explain::explain_step` meets its contract: the number of the step, no pair beside another than 11, and with 11 the first pair that is lost.
-- Assumes nothing.
use Prim.Native.Nat.{ℕ}
use mathlib.Core.Path.{◌≡◌, sym, ap, ◌∙◌}
use mathlib.Core.Bool.{Bool, cond}
use native.Mathlib.Omega.{arith}
use borrow.Author.Tests.{ne_eqb}
use borrow.Author.Rules.{rules}
use denote.Enum.Bare.{differs_true, differs_false}
use Rattle.std.proofs.Common.{Option, None}
use Rattle.verdicts.specs.Refusals.{number}
use Rattle.verdicts.specs.contracts.Refusal.{the_type}
use Rattle.verdicts.specs.declared.Refusal.TheVariants.{WouldLoseAccess}
use Rattle.verdicts.proofs.Laws.{one_each}
use Rattle.state.specs.Site.{Site}
use Rattle.instructions.specs.Instructions.{Bytes}
use Rattle.instructions.specs.Decode.{decode_of}
use Rattle.successors.specs.Successor.{successor_of}
use Rattle.machine.specs.Step.{step_refusal}
use Rattle.reasons.specs.declared.Lost.{Lost}
use Rattle.reasons.specs.Lost.{first_lost, reason, reason_for, step_reason_of}
use Rattle.reasons.proofs.Laws.{reason_so}
use Rattle.explain.proofs.explain_step.Goals as goal

module _ (s : Site) (x : Bytes) (n : ℕ) (e : n ≡ step_refusal s x) where
  no_pair : (n ≡ 11 → ⊥) → reason n None ≡ step_reason_of s x
  no_pair other =
      ap (λ (p : Bool). reason n (cond p (first_lost (successor_of s x (decode_of x))) None)) (sym (ne_eqb n 11 other))
      ∙ ap (λ (k : ℕ). reason_for k (successor_of s x (decode_of x))) e ∙ sym (reason_so s x)

  the_pair : n ≡ 11 → (lost : Option Lost) → lost ≡ first_lost (successor_of s x (decode_of x)) → reason n lost ≡ step_reason_of s x
  the_pair eleven lost found =
      ap (reason n) found ∙ ap (λ (k : ℕ). reason k (first_lost (successor_of s x (decode_of x)))) eleven
      ∙ ap (λ (k : ℕ). reason_for k (successor_of s x (decode_of x))) (sym eleven ∙ e) ∙ sym (reason_so s x)

pub returns-in_default : goal.returns-in_default
returns-in_default c = no_pair _ _ 0 c.in_default.ensures (λ e. omega arith)

pub returns-then-ne : goal.returns-then-ne
returns-then-ne c =
    no_pair _ _ _ c.in-Err.ensures (λ e. differs_true the_type _ _ (sym c.if-ne.ensures) (one_each c.in-Err.refusal WouldLoseAccess e))

pub returns : goal.returns
returns c =
    the_pair _ _ _ c.in-Err.ensures (ap number (differs_false the_type (search rules) c.in-Err.refusal WouldLoseAccess (sym c.if-ne.ensures))) _ c.lost_by-lost.ensures
