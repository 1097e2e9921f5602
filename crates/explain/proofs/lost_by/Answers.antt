-- `explain::lost_by` meets its contract: 11 says that the bytes fit a removal from a valid state, of a pair that bears access.
-- Assumes nothing.
use mathlib.Core.Path.{◌≡◌, refl, sym, ap, ◌∙◌}
use mathlib.Core.Bool.{false, ◌&&◌}
use lib.Dec.{T, ltb, ltb→lt}
use Rattle.std.proofs.Common.{Ok}
use Rattle.state.specs.Site.{Site, user, area, limit}
use Rattle.state.specs.Stands.{site}
use Rattle.state.proofs.Bools.{and_right}
use Rattle.instructions.specs.Instructions.{Bytes, rule}
use Rattle.instructions.specs.Decode.{Decoded, fits, decode_of}
use Rattle.instructions.specs.declared.Instruction.{Instruction}
use Rattle.instructions.specs.declared.Rule.{Rule}
use Rattle.instructions.specs.declared.Target.{Target}
use Rattle.instructions.specs.declared.Target.TheVariants.{TheArea, Owner, Definition, Structure, Import, Export}
use Rattle.instructions.proofs.Laws.{fits_exactly}
use Rattle.successors.specs.Successor.{changed, successor, successor_of}
use Rattle.refusals.specs.Refusals.{bears_access}
use Rattle.machine.specs.Step.{step_refusal}
use Rattle.reasons.specs.Lost.{first_lost, lost_of}
use Rattle.reasons.proofs.Laws.{lost_is_own, eleven_removes}
use Rattle.reasons.proofs.Losing.{eleven_fits, eleven_valid}
use Rattle.explain.proofs.lost_by.Goals as goal

module _ (s : Site) (x : Bytes) (y : Instruction) (fit : decode_of x ≡ Ok y) (eleven : step_refusal s x ≡ 11) where
  b_fits : T (fits (rule y).target x.b)
  b_fits = and_right (ltb x.activator (limit user) && ltb x.a (limit area)) (fits (rule y).target x.b) ((fits_exactly x y).0 fit).is_in_range

  -- what is lost where something is removed that bears access, and is no pair of the structure: a pair of an object
  own : (target : Target) → T (bears_access target) → (target ≡ Structure → ⊥) → T (fits target x.b)
      → lost_of (changed s target false x.activator x.a x.b) x.b ≡ first_lost (changed s target false x.activator x.a x.b)
  own TheArea bears other h = absurd bears
  own Owner bears other h = absurd bears
  own Structure bears other h = absurd (other refl)
  own Definition bears other h = sym (lost_is_own s (eleven_valid s x eleven) Definition tt x.activator x.a x.b (ltb→lt x.b 64 h))
  own Import bears other h = sym (lost_is_own s (eleven_valid s x eleven) Import tt x.activator x.a x.b (ltb→lt x.b 64 h))
  own Export bears other h = sym (lost_is_own s (eleven_valid s x eleven) Export tt x.activator x.a x.b (ltb→lt x.b 64 h))

  of_object_b : ((rule y).target ≡ Structure → ⊥) → lost_of (successor s y x.activator x.a x.b) x.b ≡ first_lost (successor_of s x (decode_of x))
  of_object_b other =
      let removes = eleven_removes s x y fit eleven in
      let here : lost_of (successor s y x.activator x.a x.b) x.b ≡ first_lost (successor s y x.activator x.a x.b) =
      rw removes.0 (own (rule y).target removes.1 other b_fits) in
      here ∙ ap (λ (d : Decoded). first_lost (successor_of s x d)) (sym fit)

pub returns-in_default : goal.returns-in_default
returns-in_default c =
    absurd (eleven_fits (site c.args.s.now) c.args.bytes c.requires _ (sym c.decode.ensures.equation ∙ c.in_default.is))

pub returns-in_default-target : goal.returns-in_default-target
returns-in_default-target c =
    c.first_lost_of.ensures ∙ ap (λ (t : Site). lost_of t c.args.bytes.b) c.obey.ensures
    ∙ of_object_b (site c.args.s.now) c.args.bytes _ (sym c.decode.ensures.equation ∙ c.in-Ok.is) c.requires
    (λ e. c.in_default-target.not-Structure (ap (λ (r : Rule). r.target) c.rule_of-rule.ensures ∙ e))
