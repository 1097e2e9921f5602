-- "Show that old and new records stand for the same sound states one to one, and that every instruction and question
-- gives the same answers on both." (document 02, point 11). Each claim is a type, which proofs/Laws.antt inhabits under
-- the claim's name.
use Rattle.std.specs.Prelude.{ℕ, ◌≡◌, ◌↔◌, List, [], ◌∷◌, Result}
use Rattle.verdicts.specs.Refusals.{refusal_number}
use Rattle.verdicts.specs.declared.Refusal.{Refusal}
use Rattle.state.specs.Site.{Site, Shaped, verdict}
use Rattle.state.specs.Stands.{site, Fits}
use Rattle.state.specs.declared.State.{State}
use Rattle.soundness.specs.Sound.{Sound}
use Rattle.instructions.specs.Instructions.{Bytes}
use Rattle.machine.specs.Step.{Reply, step_of, run, reply_of}
use Rattle.refinement.specs.Refinement.{record_of}

-- ---- "one to one"
-- an old record has one new record, which stands for it
pub record Kept (t : Site) : Type 0 where
  pub fits : Fits (record_of t)
  pub stands : site (record_of t) ≡ t

abbrev pub NewOfOld : Type 0
NewOfOld = (t : Site) → Shaped t → Kept t

-- a new record is that of the old one which it stands for; that no other is, is NothingLost (state)
abbrev pub OldOfNew : Type 0
OldOfNew = (s : State) → Fits s → record_of (site s) ≡ s

-- "the same sound states": an old record is sound where its new one stands for a sound state
abbrev pub SoundAlike : Type 0
SoundAlike = (t : Site) → Shaped t → Sound t ↔ Sound (site (record_of t))

-- ---- "every instruction and question gives the same answers on both"
-- What a step gives: the number of its refusal, 0 for none, and the record that it leaves.
pub record Outcome : Type 0 where
  pub refusal : ℕ
  pub state : State

-- of what `machine::step` answers, and the record as it leaves it
abbrev pub as_outcome : Result Unit Refusal → State → Outcome
as_outcome result s = record { refusal = refusal_number result; state = s }

-- What `machine::step` promises, of any function on new records: its number and its state are those of `step_of`, the
-- machine on old records.
pub record Steps (step : State → Bytes → Outcome) : Type 0 where
  pub fits : (s : State) (x : Bytes) → Fits s → Fits (step s x).state
  pub promise : (s : State) (x : Bytes) → verdict (step s x).refusal (site (step s x).state) ≡ step_of (site s) x

-- so `machine::step` is such a function: what its contract says of its answer, and of the record as it leaves it
abbrev pub StepsByContract : Type 0
StepsByContract =
    (answer : State → Bytes → Result Unit Refusal) (left : State → Bytes → State)
    → ((s : State) (x : Bytes) → Fits s → Fits (left s x))
    → ((s : State) (x : Bytes) → verdict (refusal_number (answer s x)) (site (left s x)) ≡ step_of (site s) x)
    → Steps (λ (s : State) (x : Bytes). as_outcome (answer s x) (left s x))

-- the same number, and the new record of the same state
pub record SameOutcome (step : State → Bytes → Outcome) (t : Site) (x : Bytes) : Type 0 where
  pub number : (step (record_of t) x).refusal ≡ (step_of t x).refusal
  pub state : (step (record_of t) x).state ≡ record_of (step_of t x).state

abbrev pub SameStep : Type 0
SameStep =
    (step : State → Bytes → Outcome) → Steps step → (t : Site) → Shaped t → (x : Bytes) → SameOutcome step t x

-- the new record after a list of instructions
abbrev pub run_by : (State → Bytes → Outcome) → State → List Bytes → State
run_by step s [] = s
run_by step s (x ∷ rest) = run_by step (step s x).state rest

-- and so it is after any list
abbrev pub SameRun : Type 0
SameRun =
    (step : State → Bytes → Outcome) → Steps step → (t : Site) → Shaped t → (list : List Bytes)
    → run_by step (record_of t) list ≡ record_of (run t list)

-- what `machine::ask` promises of the reply that its result stands for (`as_reply`): the same to every question
abbrev pub SameReply : Type 0
SameReply =
    (ask : State → ℕ → ℕ → Reply) → ((s : State) (a b : ℕ) → ask s a b ≡ reply_of (site s) a b)
    → (t : Site) → Shaped t → (a b : ℕ) → ask (record_of t) a b ≡ reply_of t a b
