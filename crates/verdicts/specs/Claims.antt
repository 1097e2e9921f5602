-- What is claimed of the numbers. Each claim is a type, which proofs/Laws.antt inhabits under the claim's name.
use Rattle.std.specs.Prelude.{◌≡◌}
use Rattle.verdicts.specs.Refusals.{number}
use Rattle.verdicts.specs.declared.Refusal.{Refusal}

-- no refusal has the number 0, which stands for what is not refused
abbrev pub NeverZero : Type 0
NeverZero = (r : Refusal) → number r ≡ 0 → ⊥

-- each number is that of one refusal
abbrev pub OneEach : Type 0
OneEach = (r t : Refusal) → number r ≡ number t → r ≡ t
