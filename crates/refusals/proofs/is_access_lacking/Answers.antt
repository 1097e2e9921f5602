-- `refusals::is_access_lacking` meets its contract: there is access where the answer is a number of steps.
-- Assumes nothing.
use Rattle.std.proofs.Common.{ℕ, ◌≡◌, refl, sym, ap, ◌∙◌, Bool, true, false, not, ◌&&◌, inl, inr, ◌⊎◌, Some, None}
use Rattle.std.specs.Option.{is_some}
use Rattle.access.specs.Lending.{Lending}
use Rattle.access.specs.Answer.{Answer, answer, access}
use Rattle.access.specs.Claims.{is_steps}
use Rattle.access.proofs.Laws.{access_is_steps}
use Rattle.instructions.specs.declared.Target.{Target}
use Rattle.instructions.specs.declared.Target.TheVariants.{Import, Export}
use Rattle.refusals.specs.Refusals.{is_entry}
use Rattle.refusals.proofs.is_access_lacking.Goals as goal

no_steps : (x : Answer) (n : Bool) → is_some x ≡ not n → n ≡ not (is_steps x)
no_steps (Some k) true e = e
no_steps (Some k) false e = refl
no_steps None true e = refl
no_steps None false e = e

entry : (k : Target) → (k ≡ Import) ⊎ (k ≡ Export) → is_entry k ≡ true
entry k (inl e) = ap is_entry e
entry k (inr e) = ap is_entry e

lacking : (l : Lending) (a : ℕ) (k : Target) {x : Answer} {n : Bool} → x ≡ answer l a → is_some x ≡ not n → is_entry k ≡ true
    → n ≡ (is_entry k && not (access l a))
lacking l a k {x} {n} found some entries =
    no_steps x n some ∙ ap (λ (y : Answer). not (is_steps y)) found ∙ sym (ap not (access_is_steps l a))
    ∙ ap (λ (v : Bool). v && not (access l a)) (sym entries)

pub returns-in-Import : goal.returns-in-Import
returns-in-Import c = lacking _ _ c.args.target c.steps.ensures.equation c.is_none.ensures (entry c.args.target c.in-Import.is)
