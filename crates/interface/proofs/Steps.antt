-- What the machine gives with the state of a buffer is what the interface gives with the buffer, whether its bytes are
-- a record or not: bytes that are none stand for the state of nothing, which is not sound. A step and a recipe have this
-- in common (Obeys), so it is said once.
--     steps, recipes                   a step and a recipe, whose answer is 0 where its number is (accepted_answer)
--     number_is                        the number
--     obeyed, obeyed_sound             only a record is obeyed, and that of a sound state
--     refused, accepted                the buffer afterwards
--     after_record, next_state         the same for a record, in both cases; the record stays one (next_record)
--     same_length                      and the buffer has the bytes that it had
--     no_record                        bytes that are no record are 12
--     unsound                          and stand for the state of nothing, which is not sound
--     sound_record                     a sound state is that of a record
--     reply_is                         the access question
-- Assumes nothing.
use Prim.Native.Nat.{ℕ}
use mathlib.Core.Path.{◌≡◌, refl, sym, ap, ◌∙◌}
use mathlib.Core.Logic.{◌⊎◌, inl, inr}
use mathlib.Core.Bool.{Bool, true, false, cond}
use mathlib.Core.List.{List}
use native.Mathlib.Omega.{arith}
use native.Mathlib.Decide.{ℕ_discrete}
use borrow.Author.Tests.{eq-eqb, ne_eqb}
use lib.Dec.{T}
use lib.ListN.{length}
use Rattle.state.specs.Site.{Site, Shaped}
use Rattle.state.proofs.Bools.{is_true, fails, test}
use Rattle.soundness.specs.Sound.{Sound}
use Rattle.soundness.specs.Tests.{is_sound}
use Rattle.soundness.proofs.Laws.{sound_decided, empty_unsound}
use Rattle.records.specs.Record.{bytes_of, is_record, state_of}
use Rattle.records.proofs.Laws.{state_shaped, bytes_are_record, bytes_length, record_length, state_of_bytes, bytes_of_state, no_record_empty}
use Rattle.instructions.specs.Instructions.{Bytes}
use Rattle.machine.specs.Step.{step_of, Refused, reply_of}
use Rattle.machine.proofs.Laws.{unsound_refused, unsound_unanswered, refused_unchanged}
use Rattle.guarantees.proofs.Demand3.{step_sound}
use Rattle.recipes.specs.Run.{recipe_of}
use Rattle.recipes.specs.declared.Call.{Call}
use Rattle.recipe_guarantees.specs.Commands.{Command, single, recipe}
use Rattle.recipes.proofs.Laws.{unsound_recipe}
use Rattle.recipe_guarantees.proofs.Laws.{all_or_nothing, accepted_place, recipe_sound}
use Rattle.interface.specs.Interface.{answered_by, changed_by, placed, answer_of, access_number}

-- what a step and a recipe have in common
pub record Obeys (number : Site → ℕ) (next : Site → Site) : Type 0 where
  pub unsound_12 : (s : Site) → is_sound s ≡ false → number s ≡ 12
  pub unchanged : (s : Site) → (number s ≡ 0 → ⊥) → next s ≡ s
  pub sound : (s : Site) → Sound s → Sound (next s)

pub steps : (x : Bytes) → Obeys (λ s. (step_of s x).refusal) (λ s. (step_of s x).state)
steps x =
    record {
      unsound_12 = λ s. unsound_refused s x;
      unchanged = λ s. refused_unchanged s x;
      sound = λ s. step_sound s x;
    }

-- the answer of a recipe is 0 where its number is
pub accepted_answer : (s : Site) (bytes : List ℕ) (call : Call) → (recipe_of s bytes call).refusal ≡ 0 → placed (recipe_of s bytes call) ≡ 0
accepted_answer s bytes call e = let at : (recipe_of s bytes call).place ≡ 0 = accepted_place s bytes call e in omega arith

pub recipes : (bytes : List ℕ) (call : Call) → Obeys (λ s. placed (recipe_of s bytes call)) (λ s. (recipe_of s bytes call).state)
recipes bytes call =
    record {
      unsound_12 = λ s e. ap placed (unsound_recipe s bytes call e);
      unchanged = λ s f. (all_or_nothing s bytes call).not_at_all (λ e. f (accepted_answer s bytes call e));
      sound = λ s h. recipe_sound s bytes call h;
    }

-- the number of a command
abbrev pub command_number : Command → Site → ℕ
command_number (single x) s = (step_of s x).refusal
command_number (recipe bytes call) s = placed (recipe_of s bytes call)

-- the state of nothing is not sound
pub unsound : (buffer : List ℕ) → is_record buffer ≡ false → is_sound (state_of buffer) ≡ false
unsound buffer e = ap is_sound (no_record_empty buffer e) ∙ empty_unsound

module _ {number : Site → ℕ} {next : Site → Site} (o : Obeys number next) (buffer : List ℕ) where
  abbrev here : Site
  here = state_of buffer

  answer_by : (v : Bool) → is_record buffer ≡ v → answered_by number buffer ≡ cond v (number here) 12
  unfolding answered_by
  answer_by v e = ap (λ (b : Bool). cond b (number here) 12) e

  pub no_record : is_record buffer ≡ false → answered_by number buffer ≡ 12
  no_record e = answer_by false e

  pub number_is : answered_by number buffer ≡ number here
  number_is = go (test (is_record buffer))
    where
      go : T (is_record buffer) ⊎ (is_record buffer ≡ false) → answered_by number buffer ≡ number here
      go (inl t) = answer_by true (is_true (is_record buffer) t)
      go (inr e) = no_record e ∙ sym (o.unsound_12 here (unsound buffer e))

  -- only a record is obeyed
  pub obeyed : answered_by number buffer ≡ 0 → T (is_record buffer)
  obeyed e = go (test (is_record buffer))
    where
      go : T (is_record buffer) ⊎ (is_record buffer ≡ false) → T (is_record buffer)
      go (inl t) = t
      go (inr f) = let twelve : ◌≡◌ {A = ℕ} 12 0 = sym (no_record f) ∙ e in absurd (omega arith)

  -- and its state is sound
  pub obeyed_sound : answered_by number buffer ≡ 0 → Sound here
  obeyed_sound e = go (test (is_sound here))
    where
      go : T (is_sound here) ⊎ (is_sound here ≡ false) → Sound here
      go (inl t) = (sound_decided here (state_shaped buffer)).0 t
      go (inr f) = let twelve : ◌≡◌ {A = ℕ} 12 0 = sym (o.unsound_12 here f) ∙ sym number_is ∙ e in absurd (omega arith)

  pub refused : (answered_by number buffer ≡ 0 → ⊥) → changed_by number next buffer ≡ buffer
  unfolding changed_by
  refused f = rw (ne_eqb (answered_by number buffer) 0 f) refl

  pub accepted : answered_by number buffer ≡ 0 → changed_by number next buffer ≡ bytes_of (next here)
  unfolding changed_by
  accepted e = rw (eq-eqb (answered_by number buffer) 0 e) refl

  -- a refusal leaves the state
  stays : (answered_by number buffer ≡ 0 → ⊥) → next here ≡ here
  stays f = o.unchanged here (λ e. f (number_is ∙ e))

  -- a record stays one: that of the machine's state
  after_shaped : Shaped (next here)
  after_shaped = go (ℕ_discrete (answered_by number buffer) 0)
    where
      go : Dec (answered_by number buffer ≡ 0) → Shaped (next here)
      go (yes e) = (o.sound here (obeyed_sound e)).shaped
      go (no f) = rw (stays f) (state_shaped buffer)

  pub after_record : T (is_record buffer) → changed_by number next buffer ≡ bytes_of (next here)
  after_record t = go (ℕ_discrete (answered_by number buffer) 0)
    where
      go : Dec (answered_by number buffer ≡ 0) → changed_by number next buffer ≡ bytes_of (next here)
      go (yes e) = accepted e
      go (no f) = refused f ∙ sym (bytes_of_state buffer t) ∙ ap bytes_of (sym (stays f))

  pub next_state : T (is_record buffer) → state_of (changed_by number next buffer) ≡ next here
  next_state t = ap state_of (after_record t) ∙ state_of_bytes (next here) after_shaped

  pub next_record : T (is_record buffer) → T (is_record (changed_by number next buffer))
  next_record t = rw (after_record t) (bytes_are_record (next here) after_shaped)

  pub same_length : length (changed_by number next buffer) ≡ length buffer
  same_length = go (ℕ_discrete (answered_by number buffer) 0)
    where
      go : Dec (answered_by number buffer ≡ 0) → length (changed_by number next buffer) ≡ length buffer
      go (yes e) = ap length (accepted e) ∙ bytes_length (next here) ∙ sym (record_length buffer (obeyed e))
      go (no f) = ap length (refused f)

-- the same with the bytes of a state
module _ {number : Site → ℕ} {next : Site → Site} (o : Obeys number next) (s : Site) (h : Shaped s) where
  pub state_number : answered_by number (bytes_of s) ≡ number s
  state_number = number_is o (bytes_of s) ∙ ap number (state_of_bytes s h)

  pub state_after : changed_by number next (bytes_of s) ≡ bytes_of (next s)
  state_after = after_record o (bytes_of s) (bytes_are_record s h) ∙ ap (λ (t : Site). bytes_of (next t)) (state_of_bytes s h)

module _ (buffer : List ℕ) where
  -- a sound state is that of a record
  pub sound_record : Sound (state_of buffer) → T (is_record buffer)
  sound_record h = go (test (is_record buffer))
    where
      go : T (is_record buffer) ⊎ (is_record buffer ≡ false) → T (is_record buffer)
      go (inl t) = t
      go (inr e) = absurd (fails (unsound buffer e) ((sound_decided (state_of buffer) h.shaped).1 h))

  pub reply_is : (a b : ℕ) → access_number buffer a b ≡ answer_of (reply_of (state_of buffer) a b)
  unfolding access_number
  reply_is a b = ap answer_of (go (test (is_record buffer)))
    where
      go : T (is_record buffer) ⊎ (is_record buffer ≡ false) → cond (is_record buffer) (reply_of (state_of buffer) a b) (Refused 12) ≡ reply_of (state_of buffer) a b
      go (inl t) = rw (is_true (is_record buffer) t) refl
      go (inr e) = rw e (sym (unsound_unanswered (state_of buffer) a b (unsound buffer e)))
