-- `capi::panelrights_read_file` meets its contract: the reading's state, written, and its number where the buffer fits.
-- Assumes nothing.
use Prim.Native.Nat.{ℕ}
use mathlib.Core.Path.{◌≡◌, refl, ap, ◌∙◌}
use mathlib.Core.Bool.{Bool, true, false, cond}
use mathlib.Core.List.{List}
use native.Mathlib.Omega.{arith}
use Rattle.std.specs.Prelude.{Result, Ok, Err}
use Rattle.std.specs.Result.{result_and}
use Rattle.verdicts.specs.Refusals.{number, refusal_number}
use Rattle.verdicts.specs.declared.Refusal.{Refusal}
use Rattle.verdicts.proofs.Laws.{never_zero}
use Rattle.state.specs.Site.{Verdict}
use Rattle.records.specs.Record.{is_sized, number_for, stored}
use Rattle.site_file.specs.Reading.{read_of}
use Rattle.interface.specs.Interface.{file_number, file_buffer}
use Rattle.capi.proofs.panelrights_read_file.Goals as goal

module _ (file state : List ℕ) {v : Verdict} (e : v ≡ read_of file) where
  numbered : cond (is_sized state) v.refusal 31 ≡ file_number file state
  unfolding file_number
  numbered = ap (λ (q : Verdict). cond (is_sized state) q.refusal 31) e

  -- the reading's state, written
  kept : {after : List ℕ} → after ≡ stored state v.state → after ≡ file_buffer file state
  kept w = w ∙ ap (λ (q : Verdict). stored state q.state) e

-- 31 before the number of the file
first_of_both : (state : List ℕ) (w : Result Unit Refusal) (r : Refusal) → refusal_number w ≡ number_for state
    → refusal_number {A = Unit {0}} (result_and w (Err r)) ≡ cond (is_sized state) (number r) 31
first_of_both state (Ok done) r e = go (is_sized state) e
  where
    go : (b : Bool) → ◌≡◌ {A = ℕ} 0 (cond b 0 31) → number r ≡ cond b (number r) 31
    go true z = refl
    go false z = absurd (omega arith)
first_of_both state (Err other) r e = go (is_sized state) e
  where
    go : (b : Bool) → number other ≡ cond b 0 31 → number other ≡ cond b (number r) 31
    go true z = absurd (never_zero other z)
    go false z = z

pub returns-in-Ok : goal.returns-in-Ok
returns-in-Ok c =
    let e = c.in-Ok.ensures.equation in
    record {
      number = c.number_of.ensures ∙ c.write.ensures.number ∙ numbered _ _ e;
      buffer = kept _ _ e c.write.ensures.bytes;
    }

pub returns-in-Err : goal.returns-in-Err
returns-in-Err c =
    let e = c.in-Err.ensures.equation in
    let w = c.write-written.ensures in
    record {
      number =
          c.number_of-in-Err.ensures ∙ ap refusal_number c.and.ensures ∙ first_of_both c.args.state.now c.write-written.result c.in-Err.refused.refusal w.number
          ∙ numbered _ _ e;
      buffer = kept _ _ e w.bytes;
    }
