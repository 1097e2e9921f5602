-- What is claimed of explanations, in the words of document 02, point 5. Each claim is a type, which proofs/Laws.antt
-- inhabits under the claim's name.
use Rattle.std.specs.Prelude.{ℕ, ◌≤◌, ◌<◌, ◌≡◌, ◌↔◌, ◌⊎◌, false, List, T, length, take, drop, get_or}
use Rattle.std.specs.Prelude.{Option, Some, None}
use Rattle.state.specs.Checks.{numbers}
use Rattle.state.specs.Site.{Site, Relation, import, export, related, Shaped}
use Rattle.access.specs.Lending.{lending, step}
use Rattle.access.specs.Chain.{Shortest}
use Rattle.access.specs.Answer.{access}
use Rattle.chains.specs.Chains.{FirstChain}
use Rattle.instructions.specs.Instructions.{Bytes}
use Rattle.instructions.specs.Decode.{decode_of}
use Rattle.successors.specs.Successor.{successor_of}
use Rattle.machine.specs.Step.{step_of, reply_of, reply_number}
use Rattle.reasons.specs.declared.Entry.{Entry}
use Rattle.reasons.specs.declared.Lost.{Lost}
use Rattle.reasons.specs.declared.Lost.TheVariants.{Import as LostImport, Export as LostExport}
use Rattle.reasons.specs.Explanation.{Unexplained, ByChain, ByCounts}
use Rattle.reasons.specs.Explanation.{explain_refusals, explain_numbers, explain_refusal, explanation_of}
use Rattle.reasons.specs.Explanation.{explanation_number, explained_buffer}
use Rattle.reasons.specs.Lost.{step_reason_of}

-- ---- an area and an object
-- "The reason must be the true one: the chain is there": the n bytes in front are the first chain of the object to the
-- area, and the bytes past them stay
pub record ChainThere (s : Site) (a b : ℕ) (buffer : List ℕ) (n : ℕ) : Type 0 where
  pub sized : length (take n (explained_buffer s a b buffer)) ≡ n
  pub first : FirstChain (lending s b) a (take n (explained_buffer s a b buffer))
  pub past : drop n (explained_buffer s a b buffer) ≡ drop n buffer

abbrev pub ChainIsTrue : Type 0
ChainIsTrue =
    (s : Site) (a b : ℕ) (buffer : List ℕ) (n : ℕ) → explanation_of s a b buffer ≡ ByChain n → ChainThere s a b buffer n

-- "the counts are the least": the 32 bytes in front have for each area the least number of steps, or 255 exactly where
-- it lacks access; and the bytes past them stay
pub record CountsThere (s : Site) (a b : ℕ) (buffer : List ℕ) (n : ℕ) : Type 0 where
  pub sized : n ≡ 32
  pub least : (c : ℕ) → c < 32 → T (access (lending s b) c)
      → Shortest (lending s b).defined_in (step (lending s b)) c (get_or (explained_buffer s a b buffer) c 0)
  pub none : (c : ℕ) → c < 32 → (get_or (explained_buffer s a b buffer) c 0 ≡ 255) ↔ (access (lending s b) c ≡ false)
  pub past : drop n (explained_buffer s a b buffer) ≡ drop n buffer

abbrev pub CountsAreTrue : Type 0
CountsAreTrue =
    (s : Site) (a b : ℕ) (buffer : List ℕ) (n : ℕ) → explanation_of s a b buffer ≡ ByCounts n
    → CountsThere s a b buffer n

-- "For an area and an object with access", the chain, and "Without access", the counts: exactly so, where nothing is
-- refused
abbrev pub ChainExactly : Type 0
ChainExactly =
    (s : Site) (a b : ℕ) (buffer : List ℕ)
    → ((n : ℕ) × (explanation_of s a b buffer ≡ ByChain n))
    ↔ ((explain_refusal s a b buffer ≡ 0) × T (access (lending s b) a))

abbrev pub CountsExactly : Type 0
CountsExactly =
    (s : Site) (a b : ℕ) (buffer : List ℕ)
    → ((n : ℕ) × (explanation_of s a b buffer ≡ ByCounts n))
    ↔ ((explain_refusal s a b buffer ≡ 0) × (access (lending s b) a ≡ false))

-- "a buffer under 32 bytes gets 31 before them"
abbrev pub ExplainOrder : Type 0
ExplainOrder = (s : Site) (a b : ℕ) (buffer : List ℕ) → numbers (explain_refusals s a b buffer) ≡ explain_numbers

abbrev pub ShortBufferIs31 : Type 0
ShortBufferIs31 =
    (s : Site) (a b : ℕ) (buffer : List ℕ) → length buffer < 32 → explanation_of s a b buffer ≡ Unexplained 31

-- "Refusals for these two are those of the access question"
abbrev pub RefusedAsQuestion : Type 0
RefusedAsQuestion =
    (s : Site) (a b : ℕ) (buffer : List ℕ) → 32 ≤ length buffer
    → explanation_number (explanation_of s a b buffer) ≡ reply_number (reply_of s a b)

-- "and a refusal writes no byte"
abbrev pub RefusalWritesNone : Type 0
RefusalWritesNone =
    (s : Site) (a b : ℕ) (buffer : List ℕ) (n : ℕ) → explanation_of s a b buffer ≡ Unexplained n
    → explained_buffer s a b buffer ≡ buffer

-- the buffer stays as long as it was
abbrev pub BufferLength : Type 0
BufferLength = (s : Site) (a b : ℕ) (buffer : List ℕ) → length (explained_buffer s a b buffer) ≡ length buffer

-- ---- an instruction
-- a "pair left whose area then lacks access", in the state t
pub record LostPair (t : Site) (r : Relation) (o a : ℕ) : Type 0 where
  pub left : T (related t r o a)
  pub lacks : access (lending t o) a ≡ false

-- "then by object, then by area": the pair (o, a) does not come after the pair (p, c)
abbrev pub NotAfter : (o a p c : ℕ) → Type 0
NotAfter o a p c = (o < p) ⊎ ((o ≡ p) × (a ≤ c))

-- "the named pair is lost and no earlier one is", of the relation's pairs
pub record FirstOf (t : Site) (r : Relation) (e : Entry) : Type 0 where
  pub lost : LostPair t r e.object e.area
  pub none_earlier : (o a : ℕ) → LostPair t r o a → NotAfter e.object e.area o a

-- "imports before exports": an export is named where no import is lost
abbrev pub NamedIn : Site → Option Lost → Type 0
NamedIn t None = ⊥
NamedIn t (Some (LostImport e)) = FirstOf t import e
NamedIn t (Some (LostExport e)) = FirstOf t export e × ((o a : ℕ) → LostPair t import o a → ⊥)

-- "For a removal refused as 11, name the first pair left": in the state that the removal would give
abbrev pub NamedIsFirst : Type 0
NamedIsFirst =
    (s : Site) → Shaped s → (x : Bytes) → (step_of s x).refusal ≡ 11
    → NamedIn (successor_of s x (decode_of x)) (step_reason_of s x).lost

-- "For an instruction not refused as 11 the answer is its own number or 0, and no pair."
abbrev pub OwnNumber : Type 0
OwnNumber = (s : Site) (x : Bytes) → (step_reason_of s x).refusal ≡ (step_of s x).refusal

abbrev pub PairExactly : Type 0
PairExactly =
    (s : Site) → Shaped s → (x : Bytes) → ((step_reason_of s x).lost ≡ None → ⊥) ↔ ((step_of s x).refusal ≡ 11)
