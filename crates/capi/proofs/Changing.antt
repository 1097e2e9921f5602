-- What changes a record in place, a step or a recipe, by its number and the state after it: no byte is changed beside a refusal,
-- and else the record is that of the state after it.
-- Assumes nothing.
use Prim.Native.Nat.{ℕ}
use mathlib.Core.Path.{◌≡◌, ap, sym, ◌∙◌}
use mathlib.Core.Bool.{Bool, cond}
use mathlib.Core.List.{List}
use borrow.Author.Tests.{eq-eqb}
use lib.ListN.{length}
use Rattle.state.specs.Site.{Site}
use Rattle.records.specs.Record.{record_size, bytes_of, state_of, number_for, stored}
use Rattle.records.proofs.Laws.{record_length, stored_sized}
use Rattle.interface.specs.Interface.{answered_by, changed_by}
use Rattle.interface.proofs.Steps.{Obeys, number_is, obeyed, refused, accepted}

-- a buffer that has the length of a record gets number 0
numbered : (buffer : List ℕ) → length buffer ≡ record_size → number_for buffer ≡ 0
numbered buffer h = ap (λ (b : Bool). cond b 0 31) (eq-eqb (length buffer) record_size h)

module _ {number : Site → ℕ} {next : Site → Site} (o : Obeys number next) (buffer : List ℕ) {s : Site} (told : s ≡ state_of buffer) where
  same_number : number s ≡ answered_by number buffer
  same_number = ap number told ∙ sym (number_is o buffer)

  pub unchanged : {n : ℕ} → n ≡ number s → (n ≡ 0 → ⊥) → (n ≡ answered_by number buffer) × (buffer ≡ changed_by number next buffer)
  unchanged e f = (e ∙ same_number, sym (refused o buffer (λ z. f (e ∙ same_number ∙ z))))

  -- the record of the state after it is there
  pub made : (t : Site) {now : List ℕ} → number s ≡ 0 → t ≡ next s → now ≡ stored buffer t → (answered_by number buffer ≡ 0) × (now ≡ changed_by number next buffer)
  made t zero q w =
      let none : answered_by number buffer ≡ 0 = sym same_number ∙ zero in
      let long : length buffer ≡ record_size = record_length buffer (obeyed o buffer none) in
      (none, w ∙ stored_sized buffer t long ∙ ap bytes_of (q ∙ ap next told) ∙ sym (accepted o buffer none))

  -- and it was written
  pub written : {n : ℕ} {t : Site} {now : List ℕ} → number s ≡ 0 → t ≡ next s → n ≡ number_for buffer → now ≡ stored buffer t
      → (n ≡ answered_by number buffer) × (now ≡ changed_by number next buffer)
  written {t = t} zero q e w =
      let there = made t zero q w in
      (e ∙ numbered buffer (record_length buffer (obeyed o buffer there.0)) ∙ sym there.0, there.1)
