-- Why an area can or can't see a table (document 02, point 5): which bytes are written into a lent buffer, what is
-- answered, and what is refused.
use Rattle.std.specs.Prelude.{ℕ, cond, List, ◌∷◌, ◌++◌, eqb, ltb, length, drop, Some, None, Result, Ok, Err}
use Rattle.verdicts.specs.Refusals.{number}
use Rattle.verdicts.specs.declared.Refusal.{Refusal}
use Rattle.state.specs.Site.{Site}
use Rattle.state.specs.Checks.{Check, ◌when◌, first_met}
use Rattle.access.specs.Lending.{Lending, lending}
use Rattle.access.specs.Answer.{Answer, answer, least_counts}
use Rattle.chains.specs.First.{first_chain}
use Rattle.machine.specs.Step.{question_refusals, question_numbers}
use Rattle.reasons.specs.declared.Explained.{Explained}
use Rattle.reasons.specs.declared.Explained.TheVariants.{Chain, Counts}

-- ---- what is written
-- "For an area and an object with access, write the chain of areas from the definer: a shortest one, and among those
-- the one with the lowest numbers compared from the front. Without access, write for each of the 32 areas its least
-- step count, or 255 if it lacks access." Both are one byte for each area.
abbrev pub bytes_for : Lending → (a : ℕ) → Answer → List ℕ
bytes_for l a (Some n) = first_chain l a
bytes_for l a None = least_counts l

-- the bytes that explain the answer for area a and object b
abbrev pub reason_bytes : Site → (a b : ℕ) → List ℕ
reason_bytes s a b = bytes_for (lending s b) a (answer (lending s b) a)

-- ---- what is refused
-- "Refusals for these two are those of the access question, a buffer under 32 bytes gets 31 before them"
abbrev pub explain_refusals : Site → (a b : ℕ) → (buffer : List ℕ) → List Check
explain_refusals s a b buffer = (31 when ltb (length buffer) 32) ∷ question_refusals s a b

abbrev pub explain_numbers : List ℕ
explain_numbers = 31 ∷ question_numbers

abbrev pub explain_refusal : Site → (a b : ℕ) → (buffer : List ℕ) → ℕ
explain_refusal s a b buffer = first_met (explain_refusals s a b buffer)

-- ---- what is answered: "the answer says which and how many bytes"; or a refusal's number
pub data Explanation : Type 0 where
  Unexplained : ℕ → Explanation
  ByChain : ℕ → Explanation
  ByCounts : ℕ → Explanation

-- what the code answers, as one of these
abbrev pub as_explained : Explained → Explanation
as_explained (Chain count) = ByChain count
as_explained (Counts count) = ByCounts count

abbrev pub as_explanation : Result Explained Refusal → Explanation
as_explanation (Ok explained) = as_explained explained
as_explanation (Err refusal) = Unexplained (number refusal)

abbrev pub which : Answer → (count : ℕ) → Explanation
which (Some n) count = ByChain count
which None count = ByCounts count

-- what is answered where nothing is refused
abbrev pub explained_by : Site → (a b : ℕ) → Explanation
explained_by s a b = which (answer (lending s b) a) (length (reason_bytes s a b))

unfoldable pub explanation_of : Site → (a b : ℕ) → (buffer : List ℕ) → Explanation
explanation_of s a b buffer =
    cond (eqb (explain_refusal s a b buffer) 0) (explained_by s a b) (Unexplained (explain_refusal s a b buffer))

-- the paper's number for each case, 0 for what is not refused; and how many bytes were written
abbrev pub explanation_number : Explanation → ℕ
explanation_number (Unexplained n) = n
explanation_number (ByChain count) = 0
explanation_number (ByCounts count) = 0

abbrev pub explanation_bytes : Explanation → ℕ
explanation_bytes (Unexplained n) = 0
explanation_bytes (ByChain count) = count
explanation_bytes (ByCounts count) = count

-- ---- the buffer: "Chain or counts go into a lent buffer from its front", "and bytes not written stay", "and a refusal
-- writes no byte"
unfoldable pub explained_buffer : Site → (a b : ℕ) → (buffer : List ℕ) → List ℕ
explained_buffer s a b buffer =
    cond (eqb (explain_refusal s a b buffer) 0)
    (reason_bytes s a b ++ drop (length (reason_bytes s a b)) buffer)
    buffer
