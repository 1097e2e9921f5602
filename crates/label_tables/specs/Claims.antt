-- What is claimed of the table of labels. Each claim is a type, which proofs/Laws.antt inhabits under the claim's name.
use Rattle.std.specs.Prelude.{ℕ, ◌≤◌, ◌<◌, ◌≡◌, List, T}
use Rattle.label_tables.specs.Labels.{label_count, label_length, text_byte}
use Rattle.label_tables.specs.Labels.{labels_fit, labels_ascend, label_of, LawfulBlock}

-- "Counts are at most .. 32": so many areas can ascend in their range
abbrev pub LabelCountFits : Type 0
LabelCountFits = (t : List ℕ) → T (labels_fit t) → T (labels_ascend t) → label_count t ≤ 32

-- "the text (bytes 32 to 126)"
abbrev pub LabelTextFits : Type 0
LabelTextFits =
    (t : List ℕ) (k i : ℕ) → T (labels_fit t) → k < label_count t → i < label_length t k
    → (32 ≤ text_byte t k i) × (text_byte t k i ≤ 126)

-- "then zeros"
abbrev pub LabelFiller : Type 0
LabelFiller =
    (t : List ℕ) (k i : ℕ) → T (labels_fit t) → k < label_count t → label_length t k ≤ i → i < 30
    → text_byte t k i ≡ 0

-- "length 1 to 30"
abbrev pub LabelLengthFits : Type 0
LabelLengthFits =
    (t : List ℕ) (k : ℕ) → T (labels_fit t) → k < label_count t → (1 ≤ label_length t k) × (label_length t k ≤ 30)

-- the single encoding of labels: two blocks that give every area the same text, or none, are the same bytes
abbrev pub OneBlock : Type 0
OneBlock =
    (t u : List ℕ) → LawfulBlock t → LawfulBlock u → ((a : ℕ) → label_of t a ≡ label_of u a) → t ≡ u
