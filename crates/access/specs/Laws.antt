-- What the layers above use of access. Each law is a type, which proofs/Laws.antt inhabits under the law's name. All
-- hold whatever the limit of steps is, if it is below 255. ShortChains rests on the number of areas alone, and is here
-- for document 02, point 10.
use Rattle.std.specs.Prelude.{ℕ, ◌<◌, ◌≡◌, ◌⊎◌, Bool, true, false, not, T, eqb, length, get_or}
use Rattle.state.specs.Site.{area, object, limit, Kind, with_listed, Relation, owner, first_kind, with_pair, Shaped}
use Rattle.state.specs.Site.{Site}
use Rattle.access.specs.Lending.{Lending, lending}
use Rattle.access.specs.Chain.{Chain}
use Rattle.access.specs.Answer.{answer_within, answer, access, unreached, answer_number, least_counts, least_count}
use Rattle.access.specs.Claims.{RightWithin}

-- ---- chains and answers within a number of steps
abbrev pub AnswerWithinIsRight : Type 0
AnswerWithinIsRight =
    (start : ℕ → Bool) (move : ℕ → ℕ → Bool) (n a : ℕ) → RightWithin start move n a (answer_within start move n a)

-- Where there is a chain, there is one of fewer than 32 steps: there are 32 areas.
abbrev pub ShortChains : Type 0
ShortChains =
    (start : ℕ → Bool) (move : ℕ → ℕ → Bool) (m a : ℕ) → Chain start move m a
    → (n : ℕ) × (n < limit area) × Chain start move n a

-- an answer depends on the starts and the moves among the areas alone
abbrev pub SameMoves : Type 0
SameMoves =
    (start start' : ℕ → Bool) (move move' : ℕ → ℕ → Bool) → ((a : ℕ) → a < limit area → start a ≡ start' a)
    → ((s r : ℕ) → s < limit area → r < limit area → move s r ≡ move' s r)
    → (n a : ℕ) → answer_within start move n a ≡ answer_within start' move' n a

-- ---- the counts of all areas
-- the count of each area is the number of its answer
abbrev pub CountIsAnswer : Type 0
CountIsAnswer = (l : Lending) (a : ℕ) → a < limit area → get_or (least_counts l) a 0 ≡ answer_number (answer l a)

-- there are 32 of them
abbrev pub CountsLength : Type 0
CountsLength = (l : Lending) → length (least_counts l) ≡ limit area

-- the number of an answer is the least count of the area; past the areas both are that of 'no access'
abbrev pub NumberIsCount : Type 0
NumberIsCount = (l : Lending) (a : ℕ) → answer_number (answer l a) ≡ least_count l a

-- an area has access where its count is another number than that of 'no access'
abbrev pub AccessIsCount : Type 0
AccessIsCount =
    (l : Lending) (a : ℕ) → a < limit area → access l a ≡ not (eqb (get_or (least_counts l) a 0) unreached)

-- ---- more pairs, and equal ones
-- each pair of l is one of k
pub record Included (l k : Lending) : Type 0 where
  pub defined_in : (a : ℕ) → a < limit area → T (l.defined_in a) → T (k.defined_in a)
  pub imported_by : (a : ℕ) → a < limit area → T (l.imported_by a) → T (k.imported_by a)
  pub exported_by : (a : ℕ) → a < limit area → T (l.exported_by a) → T (k.exported_by a)
  pub within : (a b : ℕ) → a < limit area → b < limit area → T (l.within a b) → T (k.within a b)

-- more pairs keep access
abbrev pub MoreKeepsAccess : Type 0
MoreKeepsAccess = (l k : Lending) → Included l k → (a : ℕ) → T (access l a) → T (access k a)

-- equal relations give equal answers
abbrev pub EqualAnswers : Type 0
EqualAnswers = (l k : Lending) → Included l k → Included k l → (a : ℕ) → answer l a ≡ answer k a

-- access means that some area defines the object
abbrev pub AccessIsDefined : Type 0
AccessIsDefined = (l : Lending) (a : ℕ) → T (access l a) → (d : ℕ) × (d < limit area) × T (l.defined_in d)

-- a number that is no area's has no access
abbrev pub AccessIsArea : Type 0
AccessIsArea = (l : Lending) (a : ℕ) → T (access l a) → a < limit area

-- ---- the same of a state
-- a number that is no object's has no access
abbrev pub AccessIsObject : Type 0
AccessIsObject = (s : Site) (o a : ℕ) → Shaped s → T (access (lending s o) a) → o < limit object

-- other objects' pairs, and owner pairs, do not matter
abbrev pub OtherPairs : Type 0
OtherPairs =
    (s : Site) (r : Relation) (p j : ℕ) (v : Bool) (o : ℕ)
    → (r ≡ owner) ⊎ ((first_kind r ≡ object) × (o ≡ p → ⊥)) → lending (with_pair s r p j v) o ≡ lending s o

-- nor does who or what is listed
abbrev pub ListsDoNotMatter : Type 0
ListsDoNotMatter = (s : Site) (k : Kind) (i : ℕ) (v : Bool) (o : ℕ) → lending (with_listed s k i v) o ≡ lending s o

-- an added pair is one pair more, and a removed one is one fewer
abbrev pub AddedIsIncluded : Type 0
AddedIsIncluded = (s : Site) (r : Relation) (i j o : ℕ) → Included (lending s o) (lending (with_pair s r i j true) o)

abbrev pub RemovedIsIncluded : Type 0
RemovedIsIncluded = (s : Site) (r : Relation) (i j o : ℕ) → Included (lending (with_pair s r i j false) o) (lending s o)
