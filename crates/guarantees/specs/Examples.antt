-- The examples of refusals 1 to 11 and the session's end (document 01), as one table with a single claim. Each example
-- starts in F, the founding state.
use Rattle.std.specs.Prelude.{ℕ, ◌≡◌, List, [], ◌∷◌, map}
use Rattle.state.specs.Site.{founding, counts}
use Rattle.state.specs.Site.{Site}
use Rattle.instructions.specs.Instructions.{Bytes, four_bytes}
use Rattle.machine.specs.Step.{step_of, run}

-- one instruction of an example, and the paper's number for it: 0, or its refusal
pub record Entry : Type 0 where
  pub bytes : Bytes
  pub number : ℕ

infix 3 ◌gets◌
abbrev pub ◌gets◌ : Bytes → ℕ → Entry
bytes gets n = record { bytes = bytes; number = n }

-- refusals 1 to 10; that of 11 is line 9 of the session
unfoldable pub examples : List (List Entry)
examples =
    ((four_bytes 13 0 0 0 gets 1) ∷ [])
    ∷ ((four_bytes 7 0 0 64 gets 2) ∷ [])
    ∷ ((four_bytes 1 5 1 0 gets 3) ∷ [])
    ∷ ((four_bytes 7 0 6 0 gets 4) ∷ [])
    ∷ ((four_bytes 1 0 1 0 gets 0)
    ∷ (four_bytes 3 0 0 4 gets 0)
    ∷ (four_bytes 7 4 1 9 gets 5)
    ∷ [])
    ∷ ((four_bytes 1 0 0 0 gets 6) ∷ [])
    ∷ ((four_bytes 7 0 0 9 gets 0)
    ∷ (four_bytes 10 0 0 9 gets 7)
    ∷ [])
    ∷ ((four_bytes 4 0 0 0 gets 8) ∷ [])
    ∷ ((four_bytes 1 0 1 0 gets 0)
    ∷ (four_bytes 7 0 1 9 gets 0)
    ∷ (four_bytes 2 0 1 0 gets 9)
    ∷ [])
    ∷ ((four_bytes 1 0 1 0 gets 0)
    ∷ (four_bytes 7 0 0 9 gets 0)
    ∷ (four_bytes 9 0 1 9 gets 10)
    ∷ [])
    ∷ []

-- the session
unfoldable pub session : List Entry
session =
    (four_bytes 1 0 1 0 gets 0)
    ∷ (four_bytes 1 0 2 0 gets 0)
    ∷ (four_bytes 5 0 1 2 gets 0)
    ∷ (four_bytes 5 0 0 2 gets 0)
    ∷ (four_bytes 7 0 1 9 gets 0)
    ∷ (four_bytes 9 0 0 9 gets 10)
    ∷ (four_bytes 11 0 1 9 gets 0)
    ∷ (four_bytes 9 0 0 9 gets 0)
    ∷ (four_bytes 12 0 1 9 gets 11)
    ∷ (four_bytes 3 0 0 4 gets 0)
    ∷ (four_bytes 10 4 0 9 gets 0)
    ∷ (four_bytes 6 4 0 2 gets 0)
    ∷ []

-- `state 2 3 1 4 1 0 1`
abbrev pub session_counts : List ℕ
session_counts = 2 ∷ 3 ∷ 1 ∷ 4 ∷ 1 ∷ 0 ∷ 1 ∷ []

-- the numbers that instructions get, one after the other, from s on
unfoldable pub numbers_from : Site → List Entry → List ℕ
numbers_from s [] = []
numbers_from s (x ∷ rest) = (step_of s x.bytes).refusal ∷ numbers_from (step_of s x.bytes).state rest

-- each instruction gets the number beside it
abbrev pub Holds : List Entry → Type 0
Holds lines = numbers_from founding lines ≡ map (λ x. x.number) lines

unfoldable pub AllHold : List (List Entry) → Type 0
AllHold [] = Unit
AllHold (lines ∷ rest) = Holds lines × AllHold rest

-- the table: the examples, the session line by line, and its state line
pub record PapersTable : Type 0 where
  pub refused : AllHold examples
  pub session_lines : Holds session
  pub session_end : counts (run founding (map (λ x. x.bytes) session)) ≡ session_counts

abbrev pub PapersExamples : Type 0
PapersExamples = PapersTable
