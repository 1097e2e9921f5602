-- What is claimed of explanations over the C interface. Each claim is a type, which proofs/Explains.antt inhabits under
-- the claim's name. The words in quotation marks are those of include/panelrights.h.
use Rattle.std.specs.Prelude.{ℕ, suc, ◌+◌, ◌/◌, ◌%◌, ◌≤◌, ◌<◌, ◌≡◌, ◌↔◌, Bool, false, ◌&&◌, ◌||◌, List, map, T, eqb, ltb, length}
use Rattle.state.specs.Checks.{among}
use Rattle.state.specs.Site.{Site, Shaped}
use Rattle.records.specs.Record.{bytes_of, is_record, state_of}
use Rattle.instructions.specs.Instructions.{Bytes}
use Rattle.instructions.specs.Decode.{decode_of}
use Rattle.successors.specs.Successor.{successor_of}
use Rattle.machine.specs.Step.{question_numbers}
use Rattle.reasons.specs.Explanation.{explain_numbers, explanation_of, explained_buffer}
use Rattle.reasons.specs.Lost.{step_reason_of}
use Rattle.reasons.specs.Claims.{ChainThere, CountsThere, NamedIn}
use Rattle.interface.specs.Interface.{step_number, access_number, explanation_code, explain_answer, explain_buffer}
use Rattle.interface.specs.Interface.{lost_of_parts, reason_code, explain_step_answer}

-- ---- an area and an object
-- with a state's record, the interface explains as the state is explained
pub record ExplainsAs (s : Site) (a b : ℕ) (into : List ℕ) : Type 0 where
  pub answer : explain_answer (bytes_of s) a b into ≡ explanation_code (explanation_of s a b into)
  pub bytes : explain_buffer (bytes_of s) a b into ≡ explained_buffer s a b into

abbrev pub ExplainIsExplain : Type 0
ExplainIsExplain = (s : Site) → Shaped s → (a b : ℕ) (into : List ℕ) → ExplainsAs s a b into

-- "1 to 9 is a chain"; "512 + 32" is for counts; 256 and "31, 12, 2 or 4" is for a refusal; and no other answer comes
abbrev pub is_explain_answer : ℕ → Bool
is_explain_answer n = ltb 0 n && ltb n 10 || eqb n (512 + 32) || among n (map (λ k. 256 + k) explain_numbers)

abbrev pub ExplainAnswers : Type 0
ExplainAnswers = (buffer : List ℕ) (a b : ℕ) (into : List ℕ) → T (is_explain_answer (explain_answer buffer a b into))

-- a chain: that many bytes in front are the first chain, and the bytes past them stay
abbrev pub ExplainedByChain : Type 0
ExplainedByChain =
    (buffer : List ℕ) (a b : ℕ) (into : List ℕ) → explain_answer buffer a b into < 256
    → ChainThere (state_of buffer) a b into (explain_answer buffer a b into)

-- counts: the 32 bytes in front are the least counts, and the bytes past them stay
abbrev pub ExplainedByCounts : Type 0
ExplainedByCounts =
    (buffer : List ℕ) (a b : ℕ) (into : List ℕ) → explain_answer buffer a b into ≡ 512 + 32
    → CountsThere (state_of buffer) a b into 32

-- the chain comes exactly where panelrights_access gives a number of steps, and has one byte more; the counts exactly
-- where it gives "255 for no access"
abbrev pub ChainWhereSteps : Type 0
ChainWhereSteps =
    (buffer : List ℕ) (a b : ℕ) (into : List ℕ) → 32 ≤ length into → (n : ℕ) → n ≤ 8
    → (access_number buffer a b ≡ n) ↔ (explain_answer buffer a b into ≡ suc n)

abbrev pub CountsWhereNone : Type 0
CountsWhereNone =
    (buffer : List ℕ) (a b : ℕ) (into : List ℕ) → 32 ≤ length into
    → (access_number buffer a b ≡ 255) ↔ (explain_answer buffer a b into ≡ 512 + 32)

-- "31 is for a buffer of fewer than 32 bytes", whatever bytes the record has
abbrev pub ShortExplainIs31 : Type 0
ShortExplainIs31 =
    (buffer : List ℕ) (a b : ℕ) (into : List ℕ) → length into < 32 → explain_answer buffer a b into ≡ 256 + 31

-- "the others are those of panelrights_access"
abbrev pub RefusedAsAccess : Type 0
RefusedAsAccess =
    (buffer : List ℕ) (a b : ℕ) (into : List ℕ) → 32 ≤ length into → (n : ℕ) → T (among n question_numbers)
    → (access_number buffer a b ≡ 256 + n) ↔ (explain_answer buffer a b into ≡ 256 + n)

-- "and no byte is written"
abbrev pub RefusedExplainSameBytes : Type 0
RefusedExplainSameBytes =
    (buffer : List ℕ) (a b : ℕ) (into : List ℕ) (n : ℕ) → T (among n explain_numbers)
    → explain_answer buffer a b into ≡ 256 + n → explain_buffer buffer a b into ≡ into

-- "A record of another length is 12", where the buffer is long enough
abbrev pub NoRecordUnexplained : Type 0
NoRecordUnexplained =
    (buffer : List ℕ) (a b : ℕ) (into : List ℕ) → is_record buffer ≡ false → 32 ≤ length into
    → explain_answer buffer a b into ≡ 256 + 12

-- ---- an instruction
-- with a state's record, the interface gives the state's reason
abbrev pub ExplainStepIsReason : Type 0
ExplainStepIsReason =
    (s : Site) → Shaped s → (x : Bytes) → explain_step_answer (bytes_of s) x ≡ reason_code (step_reason_of s x)

-- "A record of another length is 12."
abbrev pub NoRecordNoReason : Type 0
NoRecordNoReason = (buffer : List ℕ) (x : Bytes) → is_record buffer ≡ false → explain_step_answer buffer x ≡ 12

-- the four parts of the answer: "The number that panelrights_step would give"; "with any other number lost, object and
-- area are 0"; and "for 11 the first pair", so that 11 alone is no answer: it would name none
pub record ReasonParts (buffer : List ℕ) (x : Bytes) (n : ℕ) : Type 0 where
  pub number : n % 256 ≡ step_number buffer x
  pub none : (n % 256 ≡ 11 → ⊥) → n ≡ n % 256
  pub pair : n % 256 ≡ 11
      → NamedIn (successor_of (state_of buffer) x (decode_of x))
      (lost_of_parts (n / 256 % 256) (n / 65536 % 256) (n / 16777216))

abbrev pub ExplainStepParts : Type 0
ExplainStepParts = (buffer : List ℕ) (x : Bytes) → ReasonParts buffer x (explain_step_answer buffer x)
