-- `site_file::read` meets its contract: the header's refusal, then 26 and 27, then those of the state; the first that
-- is met decides.
-- Assumes nothing.
use Rattle.std.proofs.Common.{ℕ, Result, Ok}
use mathlib.Core.Path.{◌≡◌, sym, ap, ap₂, subst, ◌∙◌}
use mathlib.Core.Bool.{Bool, true, not, cond}
use mathlib.Core.List.{List, ◌∷◌, ◌++◌}
use borrow.Author.Tests.{ne_eqb}
use lib.Dec.{eqb}
use Rattle.verdicts.proofs.Laws.{never_zero}
use Rattle.verdicts.specs.Refusals.{number}
use Rattle.verdicts.specs.declared.Refusal.{Refusal}
use Rattle.verdicts.specs.declared.Refusal.TheVariants.{FileRange, FileOrder}
use Rattle.state.specs.Checks.{Check, ◌when◌, first_met}
use Rattle.state.specs.Site.{Site, founding, Verdict, verdict}
use Rattle.state.specs.Stands.{site}
use Rattle.state.specs.declared.State.{State}
use Rattle.state.proofs.Checks.{met, passed, first_of_two}
use Rattle.soundness.specs.Sound.{Sound}
use Rattle.site_format.specs.Format.{labels, part}
use Rattle.site_header.specs.Header.{header_checks}
use Rattle.site_file.specs.declared.ReadRefused.{ReadRefused}
use Rattle.site_file.specs.Reading.{tables_fit, tables_ascend, state_in, table_checks, state_checks, file_refusal, read_of, as_state, as_verdict}
use Rattle.site_file.proofs.Laws.{read_sound}
use Rattle.site_file.proofs.read.Goals as goal
use Rattle.site_file.proofs.read.Goals.{Else-not-in_range}

-- the two promises
pub record Promised (file : List ℕ) (result : Result State ReadRefused) : Type 0 where
  pub equation : as_verdict result ≡ read_of file
  pub sound : Sound (as_state result)

module _ (file : List ℕ) where
  -- both from the first
  promised : (result : Result State ReadRefused) → as_verdict result ≡ read_of file → Promised file result
  promised result e =
      record { equation = e; sound = subst (λ (v : Verdict). Sound v.state) (sym e) (read_sound file) }

  -- a reading with a refusal, and one without
  refusing : (result : Result State ReadRefused) (r : Refusal) → as_verdict result ≡ verdict (number r) founding → number r ≡ file_refusal file → Promised file result
  unfolding read_of
  refusing result r e m =
      let some = sym (ne_eqb (number r) 0 (never_zero r)) ∙ ap (λ (k : ℕ). eqb k 0) m in
      promised result (e ∙ ap₂ verdict m (ap (λ (b : Bool). cond b (state_in file) founding) some))

  accepting : (s : State) → site s ≡ state_in file → 0 ≡ file_refusal file → Promised file (Ok s)
  unfolding read_of
  accepting s f m =
      promised (Ok s) (ap₂ verdict m (f ∙ ap (λ (k : ℕ). cond (eqb k 0) (state_in file) founding) m))

  -- the checks behind those of the header, and behind those of the tables
  abbrev of_state : List Check
  of_state = state_checks (state_in file) (part file labels)

  abbrev later : List Check
  later = table_checks file ++ of_state

  of_header : {n : ℕ} → n ≡ first_met (header_checks file) → file_refusal file ≡ cond (eqb n 0) (first_met later) n
  unfolding file_refusal
  of_header e = first_of_two (header_checks file) later tt ∙ ap (λ (k : ℕ). cond (eqb k 0) (first_met later) k) (sym e)

  in_header : (r : Refusal) → number r ≡ first_met (header_checks file) → number r ≡ file_refusal file
  in_header r e =
      sym (of_header e ∙ ap (λ (b : Bool). cond b (first_met later) (number r)) (ne_eqb (number r) 0 (never_zero r)))

  behind_header : 0 ≡ first_met (header_checks file) → file_refusal file ≡ first_met later
  behind_header e = of_header e

  -- what a test that is passed says of the refusal
  fitting : {b : Bool} → file_refusal file ≡ first_met later → b ≡ tables_fit file → b ≡ true
      → file_refusal file ≡ first_met ((27 when not (tables_ascend file)) ∷ of_state)
  fitting m e t = m ∙ passed _ _ (ap not (sym e ∙ t))

  ascending : {b : Bool} → file_refusal file ≡ first_met ((27 when not (tables_ascend file)) ∷ of_state)
      → b ≡ tables_ascend file → b ≡ true → file_refusal file ≡ first_met of_state
  ascending m e t = m ∙ passed _ _ (ap not (sym e ∙ t))

  -- the refusal is that of the state
  behind_tables : {n : ℕ} {s : Site} → file_refusal file ≡ first_met of_state → s ≡ state_in file
      → n ≡ first_met (state_checks s (part file labels)) → n ≡ file_refusal file
  behind_tables e h m = m ∙ ap (λ (x : Site). first_met (state_checks x (part file labels))) h ∙ sym e

-- past the header, and the tables' range
ranged : (c : Else-not-in_range)
    → file_refusal c.args.file.now ≡ first_met ((27 when not (tables_ascend c.args.file.now)) ∷ of_state c.args.file.now)
ranged c =
    fitting _ (behind_header _ c.in_default.ensures) c.tables_fit-in_range.ensures c.if-not-in_range.false

pub returns-in-Err : goal.returns-in-Err
returns-in-Err c =
    let q = refusing _ _ _ c.refused.ensures (in_header _ _ c.in-Err.ensures) in
    record { equation = q.equation; sound = q.sound }

pub returns-then-not-in_range : goal.returns-then-not-in_range
returns-then-not-in_range c =
    let headed = behind_header _ c.in_default.ensures in
    let number = headed ∙ met _ _ (ap not (sym c.tables_fit-in_range.ensures ∙ c.if-not-in_range.true)) in
    let q = refusing _ _ FileRange c.refused-then-not-in_range.ensures (sym number) in
    record { equation = q.equation; sound = q.sound }

pub returns-then-not-ascending : goal.returns-then-not-ascending
returns-then-not-ascending c =
    let past = ranged (goal.at.returns-then-not-ascending c).Else-not-in_range in
    let number = past ∙ met _ _ (ap not (sym c.tables_ascend-ascending.ensures ∙ c.if-not-ascending.true)) in
    let q = refusing _ _ FileOrder c.refused-then-not-ascending.ensures (sym number) in
    record { equation = q.equation; sound = q.sound }

pub returns-in-Err-check_state : goal.returns-in-Err-check_state
returns-in-Err-check_state c =
    let past = ranged (goal.at.returns-in-Err-check_state c).Else-not-in_range in
    let ordered = ascending _ past c.tables_ascend-ascending.ensures c.if-not-ascending.false in
    let told = behind_tables _ ordered c.state_in-s.ensures c.in-Err-check_state.ensures in
    let q = refusing _ _ _ c.refused-in-Err-check_state.ensures told in
    record { equation = q.equation; sound = q.sound }

pub returns : goal.returns
returns c =
    let past = ranged (goal.at.returns c).Else-not-in_range in
    let ordered = ascending _ past c.tables_ascend-ascending.ensures c.if-not-ascending.false in
    let told = behind_tables _ ordered c.state_in-s.ensures c.in_default-check_state.ensures in
    let q = accepting c.args.file.now _ c.state_in-s.ensures told in
    record { equation = q.equation; sound = q.sound }
