-- `inspection::is_sound` meets its contract: sound is well-formed, valid and without an own import.
-- Assumes nothing.
use mathlib.Core.Path.{◌≡◌, refl, sym, subst, ◌∙◌}
use mathlib.Core.Logic.{◌↔◌}
use mathlib.Core.Bool.{Bool, true, false, ◌&&◌}
use native.Mathlib.Omega.{arith}
use lib.Dec.{T}
use Rattle.state.specs.Site.{Site, Shaped}
use Rattle.state.specs.Stands.{site}
use Rattle.state.proofs.Stands.{shaped_by_rows}
use Rattle.soundness.specs.Sound.{Sound}
use Rattle.soundness.specs.Tests.{is_well_formed, is_valid, no_own_import, is_sound}
use Rattle.soundness.proofs.Laws.{sound_decided}
use Rattle.inspection.proofs.Parts.{disjoint_by_rows}
use Rattle.inspection.proofs.is_sound.Goals as goal
use Rattle.inspection.proofs.is_sound.Goals.{then-is_well_formed, else-is_well_formed}

module _ (s : Site) where
  abbrev two : Bool
  two = is_well_formed s && no_own_import s

  -- the first two tests, by what the calls promise: the second is made where the first holds
  both_made : (both : Bool) → is_well_formed s ≡ true → both ≡ no_own_import s → both ≡ two
  both_made both e n = rw e n

  one_made : (both first : Bool) → both ≡ first → first ≡ is_well_formed s → first ≡ false → both ≡ two
  one_made both first b e f = let h : is_well_formed s ≡ false = sym e ∙ f in rw h (b ∙ f)

  -- where they hold, the third decides; else the record is unsound
  by_validity : two ≡ true → is_valid s ≡ is_sound s
  unfolding is_sound
  by_validity e = go (is_well_formed s) (is_valid s) (no_own_import s) e
    where
      go : (f v n : Bool) → (f && n) ≡ true → v ≡ (f && v && n)
      go true true true e = refl
      go true false n e = refl
      go true true false e = cc e
      go false v n e = cc e

  unsound : two ≡ false → false ≡ is_sound s
  unfolding is_sound
  unsound e = go (is_well_formed s) (is_valid s) (no_own_import s) e
    where
      go : (f v n : Bool) → (f && n) ≡ false → false ≡ (f && v && n)
      go true true true e = cc e
      go true true false e = refl
      go true false n e = refl
      go false v n e = refl

  -- with the equation the meaning
  meaning : Shaped s → (b : Bool) → b ≡ is_sound s → T b ↔ Sound s
  meaning h b e = subst (λ (v : Bool). T v ↔ Sound s) (sym e) (sound_decided s h)

pub returns-then-are_disjoint : goal.returns-then-are_disjoint
unfolding site
returns-then-are_disjoint c =
    let s = site c.args.s.now in
    let shaped =
    shaped_by_rows c.args.s.now (omega arith) (omega arith) (omega arith) (omega arith) (omega arith) (omega arith)
    (omega arith) (omega arith) in
    let apart = disjoint_by_rows c.args.s.now.imports c.args.s.now.definitions (omega arith) in
    let both : c.if-is_well_formed.value ≡ two s =
    elim c.if-is_well_formed.branch [
      | then-is_well_formed w ↦ both_made s _ (sym c.is_well_formed.ensures ∙ w.if-is_well_formed.true) (w.value-is ∙ w.are_disjoint.ensures ∙ apart)
      | else-is_well_formed w ↦ one_made s _ _ w.value-is c.is_well_formed.ensures w.if-is_well_formed.false
    ] in
    let e = c.is_valid.ensures.equation ∙ by_validity s (sym both ∙ c.if-are_disjoint.true) in
    record { equation = e; meaning = meaning s shaped _ e }

pub returns-else-are_disjoint : goal.returns-else-are_disjoint
unfolding site
returns-else-are_disjoint c =
    let s = site c.args.s.now in
    let shaped =
    shaped_by_rows c.args.s.now (omega arith) (omega arith) (omega arith) (omega arith) (omega arith) (omega arith)
    (omega arith) (omega arith) in
    let apart = disjoint_by_rows c.args.s.now.imports c.args.s.now.definitions (omega arith) in
    let both : c.if-is_well_formed.value ≡ two s =
    elim c.if-is_well_formed.branch [
      | then-is_well_formed w ↦ both_made s _ (sym c.is_well_formed.ensures ∙ w.if-is_well_formed.true) (w.value-is ∙ w.are_disjoint.ensures ∙ apart)
      | else-is_well_formed w ↦ one_made s _ _ w.value-is c.is_well_formed.ensures w.if-is_well_formed.false
    ] in
    let e = c.if-are_disjoint.false ∙ unsound s (sym both ∙ c.if-are_disjoint.false) in
    record { equation = e; meaning = meaning s shaped _ e }
