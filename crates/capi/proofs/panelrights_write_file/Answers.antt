-- `capi::panelrights_write_file` meets its contract: what the writer gives for the state that the bytes stand for.
-- Assumes nothing.
use Prim.Native.Nat.{ℕ, ◌+◌, ◌≤◌}
use mathlib.Core.Path.{◌≡◌, refl, sym, ap, subst, ◌∙◌}
use mathlib.Core.List.{List}
use native.Mathlib.Omega.{arith}
use Rattle.verdicts.proofs.Laws.{never_zero}
use Rattle.state.specs.Site.{Site}
use Rattle.records.specs.Record.{state_of}
use Rattle.output.specs.Buffer.{Written}
use Rattle.site_encoding.specs.Writer.{write_of, buffer_after}
use Rattle.interface.specs.Interface.{write_answer, write_buffer}
use Rattle.interface.proofs.Writes.{buffer_is, refused_answer, written_answer, written_small}
use Rattle.capi.proofs.panelrights_write_file.Goals as goal

-- what the writer answered is what it answers for the state of the bytes
module _ (state block file : List ℕ) (s : Site) (made : s ≡ state_of state) (w : Written) (e : w ≡ write_of s block file) where
  own : w ≡ write_of (state_of state) block file
  own = e ∙ ap (λ (t : Site). write_of t block file) made

  refused : (w.refusal ≡ 0 → ⊥) → 65536 + w.refusal ≡ write_answer state block file
  refused f = subst (λ (v : Written). (v.refusal ≡ 0 → ⊥) → 65536 + v.refusal ≡ write_answer state block file) (sym own) (refused_answer state block file) f

  accepted : w.refusal ≡ 0 → w.length ≡ write_answer state block file
  accepted z = subst (λ (v : Written). v.refusal ≡ 0 → v.length ≡ write_answer state block file) (sym own) (written_answer state block file) z

  small : w.refusal ≡ 0 → w.length ≤ 13340
  small z = subst (λ (v : Written). v.refusal ≡ 0 → v.length ≤ 13340) (sym own) (written_small state block file) z

  kept : (after : List ℕ) → after ≡ buffer_after s block file → after ≡ write_buffer state block file
  kept after h = h ∙ ap (λ (t : Site). buffer_after t block file) made ∙ sym (buffer_is state block file)

pub returns-in-Err : goal.returns-in-Err
returns-in-Err c =
    let made = c.state_of.ensures in
    let e = c.in-Err.ensures in
    let n = c.number.ensures in
    record {
      number = ap (λ (k : ℕ). 65536 + k) n ∙ refused _ _ _ _ made _ e.answer (never_zero _);
      buffer = kept _ _ _ _ made _ e.answer _ e.buffer;
    }

pub overflow_cast-result : goal.overflow_cast-result
overflow_cast-result c =
    let made = c.state_of.ensures in
    omega (arith, small _ _ _ _ made _ c.in-Ok.ensures.answer refl)

pub returns-in-Ok : goal.returns-in-Ok
returns-in-Ok c =
    let made = c.state_of.ensures in
    let e = c.in-Ok.ensures in
    record { number = accepted _ _ _ _ made _ e.answer refl; buffer = kept _ _ _ _ made _ e.answer _ e.buffer }
