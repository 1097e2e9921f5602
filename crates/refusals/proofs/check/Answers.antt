-- `refusals::check` meets its contract: an early check decides, or where none is met the late ones do.
-- Assumes nothing.
use Rattle.std.proofs.Common.{ℕ, ◌≡◌, sym, ap, ◌∙◌, Bool, cond, List, rules}
use borrow.Author.Tests.{eq-eqb, ne_eqb}
use Rattle.state.specs.Checks.{Check, first_met}
use Rattle.state.specs.Site.{Site}
use Rattle.state.proofs.Checks.{first_of_two}
use Rattle.verdicts.specs.Refusals.{number, refusal_number}
use Rattle.verdicts.specs.declared.Refusal.{Refusal}
use Rattle.verdicts.proofs.Laws.{never_zero}
use Rattle.readings.specs.Readings.{seen_of}
use Rattle.readings.specs.declared.Seen.{Seen}
use Rattle.instructions.specs.Instructions.{rule}
use Rattle.instructions.specs.declared.Instruction.{Instruction}
use Rattle.instructions.specs.declared.Rule.{Rule}
use Rattle.successors.specs.Successor.{successor}
use Rattle.refusals.specs.Refusals.{early_checks}
use Rattle.refusals.specs.Parts.{result_checks, found_checks}
use Rattle.refusals.proofs.check.Goals as goal

module _ (s : Site) (x : Instruction) (u a b : ℕ) {v : Seen} {r : Rule} (seen : v ≡ seen_of s u a b) (row : r ≡ rule x) where
  abbrev early : List Check
  early = early_checks (seen_of s u a b) (rule x)

  abbrev late : List Check
  late = result_checks (successor s x u a b) (rule x).target (rule x).adds a b

  read : first_met (early_checks v r) ≡ first_met early
  read i = first_met (early_checks (seen i) (row i))

  -- an early check refuses
  refused : (refusal : Refusal) → number refusal ≡ first_met (early_checks v r) → number refusal ≡ first_met (found_checks s x u a b)
  refused refusal e =
      let decides = ne_eqb (first_met early) 0 (λ z. never_zero refusal (e ∙ read ∙ z)) in
      e ∙ read ∙ sym (first_of_two early late tt ∙ ap (λ (p : Bool). cond p (first_met late) (first_met early)) decides)

  -- or none is met, and the late ones decide
  passed_on : 0 ≡ first_met (early_checks v r) → {t : Site} → t ≡ successor s x u a b
      → {k : ℕ} → k ≡ first_met (result_checks t r.target r.adds a b) → k ≡ first_met (found_checks s x u a b)
  passed_on e next f =
      let passes = eq-eqb (first_met early) 0 (sym (e ∙ read)) in
      f ∙ (λ i. first_met (result_checks (next i) (row i).target (row i).adds a b))
      ∙ sym (first_of_two early late tt ∙ ap (λ (p : Bool). cond p (first_met late) (first_met early)) passes)

pub returns-in_err-check_early : goal.returns-in_err-check_early
returns-in_err-check_early c =
    let given : refusal_number c.from_residual.result ≡ number c.in_err-check_early.field-0.0 = search rules in
    given ∙ refused _ _ _ _ _ c.look.ensures c.rule_of-rule.ensures c.in_err-check_early.field-0.0 c.in_err-check_early.ensures

pub returns : goal.returns
returns c =
    passed_on _ _ _ _ _ c.look.ensures c.rule_of-rule.ensures c.in_ok-check_early.ensures c.obey.ensures c.check_late.ensures
