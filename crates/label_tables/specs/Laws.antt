-- What the layers above use. Each law is a type, which proofs/Laws.antt inhabits under the law's name.
use Rattle.std.specs.Prelude.{ℕ, ◌*◌, ◌<◌, ◌≡◌, List, T, length, get_or}
use Rattle.state.specs.Site.{area, limit}
use Rattle.label_tables.specs.Labels.{label_size, label_count, label_area}
use Rattle.label_tables.specs.Labels.{labels_fit, labels_ascend, label_index}

-- in an ascending table an area has one entry at most, and `label_index` finds it
abbrev pub LabelFound : Type 0
LabelFound = (t : List ℕ) (k : ℕ) → T (labels_ascend t) → k < label_count t → label_index t (label_area t k) ≡ k

abbrev pub LabelNone : Type 0
LabelNone = (t : List ℕ) (a : ℕ) → ((k : ℕ) → k < label_count t → label_area t k ≡ a → ⊥) → label_index t a ≡ label_count t

-- what was found is an entry of that area
abbrev pub LabelThere : Type 0
LabelThere = (t : List ℕ) (a : ℕ) → label_index t a < label_count t → label_area t (label_index t a) ≡ a

-- an entry's area is the number of an area
abbrev pub LabelAreaFits : Type 0
LabelAreaFits = (t : List ℕ) (k : ℕ) → T (labels_fit t) → k < label_count t → label_area t k < limit area

-- what is in range is a byte
abbrev pub LabelsAreBytes : Type 0
LabelsAreBytes = (t : List ℕ) (i : ℕ) → length t ≡ label_count t * label_size → T (labels_fit t) → get_or t i 0 < 256
