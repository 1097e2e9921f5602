-- What is claimed of the readings and updates: reading after writing the same place, another place, another field;
-- writing back what was read; what lies outside; and that two records with equal readings are equal. Each claim is a
-- type, which proofs/Laws.antt inhabits under the claim's name.
use Rattle.std.specs.Prelude.{ℕ, ◌+◌, ◌*◌, ◌/◌, ◌%◌, ◌≤◌, ◌<◌, ◌≡◌, Bool, true, false, ◌&&◌, ◌⊎◌, ◌↔◌, T, eqb, length, get_or, set}
use Rattle.state.specs.Cells.{Members, Pairs, width, member, mark, pair, put}
use Rattle.state.specs.Walk.{some_member, each_member, some_pair, each_pair, has_first, has_second}
use Rattle.state.specs.Site.{Kind, user, area, object, limit, listed, with_listed, Relation, owner, first_kind}
use Rattle.state.specs.Site.{related, with_pair, empty, founding, counts, Shaped}
use Rattle.state.specs.Site.{Site}

-- ---- a written number
abbrev pub ListedSame : Type 0
ListedSame = (s : Site) (k : Kind) (i : ℕ) (v : Bool) → Shaped s → i < limit k → listed (with_listed s k i v) k i ≡ v

abbrev pub ListedOther : Type 0
ListedOther = (s : Site) (k : Kind) (i n : ℕ) (v : Bool) → (n ≡ i → ⊥) → listed (with_listed s k i v) k n ≡ listed s k n

abbrev pub ListedOtherKind : Type 0
ListedOtherKind =
    (s : Site) (k l : Kind) (i n : ℕ) (v : Bool) → (l ≡ k → ⊥) → listed (with_listed s k i v) l n ≡ listed s l n

-- a number is the written one, or is listed as before
abbrev pub ListedElse : Type 0
ListedElse =
    (s : Site) (k l : Kind) (i n : ℕ) (v : Bool) → ((l ≡ k) × (n ≡ i))
    ⊎ (listed (with_listed s k i v) l n ≡ listed s l n)

-- listing a number unlists none
abbrev pub ListKeepsListed : Type 0
ListKeepsListed = (s : Site) (k l : Kind) (i n : ℕ) → T (listed s l n) → T (listed (with_listed s k i true) l n)

-- unlisting a number lists none
abbrev pub UnlistAddsNone : Type 0
UnlistAddsNone = (s : Site) (k l : Kind) (i n : ℕ) → T (listed (with_listed s k i false) l n) → T (listed s l n)

-- a number that was unlisted is not listed
abbrev pub UnlistedGone : Type 0
UnlistedGone = (s : Site) (k : Kind) (i : ℕ) → Shaped s → T (listed (with_listed s k i false) k i) → ⊥

-- the pairs do not depend on the lists
abbrev pub ListKeepsPairs : Type 0
ListKeepsPairs =
    (s : Site) (k : Kind) (i : ℕ) (v : Bool) (r : Relation) (m n : ℕ)
    → related (with_listed s k i v) r m n ≡ related s r m n

-- a number that is written, and then written as it was, leaves the record of before; so does one written as it is
abbrev pub ListBack : Type 0
ListBack = (s : Site) (k : Kind) (i : ℕ) (v : Bool) → with_listed (with_listed s k i v) k i (listed s k i) ≡ s

abbrev pub ListAsIs : Type 0
ListAsIs = (s : Site) (k : Kind) (i : ℕ) → with_listed s k i (listed s k i) ≡ s

-- ---- a written pair
abbrev pub RelatedSame : Type 0
RelatedSame =
    (s : Site) (r : Relation) (i j : ℕ) (v : Bool) → Shaped s → i < limit (first_kind r) → j < limit area
    → related (with_pair s r i j v) r i j ≡ v

abbrev pub RelatedOther : Type 0
RelatedOther =
    (s : Site) (r : Relation) (i j m n : ℕ) (v : Bool) → (m ≡ i → n ≡ j → ⊥)
    → related (with_pair s r i j v) r m n ≡ related s r m n

abbrev pub RelatedOtherRelation : Type 0
RelatedOtherRelation =
    (s : Site) (r t : Relation) (i j m n : ℕ) (v : Bool) → (t ≡ r → ⊥)
    → related (with_pair s r i j v) t m n ≡ related s t m n

-- a pair is the written one, or is there as before
abbrev pub RelatedElse : Type 0
RelatedElse =
    (s : Site) (r t : Relation) (i j m n : ℕ) (v : Bool) → ((t ≡ r) × (m ≡ i) × (n ≡ j))
    ⊎ (related (with_pair s r i j v) t m n ≡ related s t m n)

-- nor the lists on the pairs
abbrev pub RelateKeepsLists : Type 0
RelateKeepsLists =
    (s : Site) (r : Relation) (i j : ℕ) (v : Bool) (k : Kind) (n : ℕ) → listed (with_pair s r i j v) k n ≡ listed s k n

-- adding a pair removes none
abbrev pub AddKeepsPairs : Type 0
AddKeepsPairs =
    (s : Site) (r t : Relation) (i j m n : ℕ) → T (related s t m n) → T (related (with_pair s r i j true) t m n)

-- removing a pair adds none
abbrev pub RemoveAddsNone : Type 0
RemoveAddsNone =
    (s : Site) (r t : Relation) (i j m n : ℕ) → T (related (with_pair s r i j false) t m n) → T (related s t m n)

-- a pair that was removed is not there
abbrev pub RemovedGone : Type 0
RemovedGone = (s : Site) (r : Relation) (i j : ℕ) → Shaped s → T (related (with_pair s r i j false) r i j) → ⊥

-- another pair than the one that is written stays
abbrev pub OthersStay : Type 0
OthersStay =
    (s : Site) (r t : Relation) (i j m n : ℕ) (v : Bool) → (t ≡ r → m ≡ i → n ≡ j → ⊥) → T (related s t m n)
    → T (related (with_pair s r i j v) t m n)

-- a pair that is written, and then written as it was, leaves the record of before
abbrev pub RelateBack : Type 0
RelateBack = (s : Site) (r : Relation) (i j : ℕ) (v : Bool) → with_pair (with_pair s r i j v) r i j (related s r i j) ≡ s

-- ---- a pair put into the cells of a relation by itself, for what fills one before there is a record
abbrev pub PutSame : Type 0
PutSame = (c : Pairs) (n i j : ℕ) (v : Bool) → length c ≡ n * width → i < n → j < width → pair (put c i j v) i j ≡ v

abbrev pub PutOther : Type 0
PutOther = (c : Pairs) (i j m n : ℕ) (v : Bool) → (m ≡ i → n ≡ j → ⊥) → pair (put c i j v) m n ≡ pair c m n

abbrev pub PutLength : Type 0
PutLength = (c : Pairs) (i j : ℕ) (v : Bool) → length (put c i j v) ≡ length c

-- ---- where a number or a pair lies, for what reads or writes a set or a relation in place
abbrev pub MemberCell : Type 0
MemberCell = (c : Members) (i : ℕ) → member c i ≡ get_or c i false

abbrev pub PairCell : Type 0
PairCell = (c : Pairs) (i j : ℕ) → j < width → pair c i j ≡ get_or c (i * width + j) false

abbrev pub PairPast : Type 0
PairPast = (c : Pairs) (i j : ℕ) → (width ≤ j) ⊎ (length c ≤ i * width + j) → pair c i j ≡ false

abbrev pub MarkCell : Type 0
MarkCell = (c : Members) (i : ℕ) (v : Bool) → mark c i v ≡ set c i v

abbrev pub PutCell : Type 0
PutCell = (c : Pairs) (i j : ℕ) (v : Bool) → j < width → put c i j v ≡ set c (i * width + j) v

abbrev pub PutBeyond : Type 0
PutBeyond = (c : Pairs) (i j : ℕ) (v : Bool) → width ≤ j → put c i j v ≡ c

-- the pair whose cell is k
abbrev pub PairAt : Type 0
PairAt = (c : Pairs) (k : ℕ) → pair c (k / width) (k % width) ≡ get_or c k false

-- ---- some, or each, of what a set or a relation holds
abbrev pub SomeMember : Type 0
SomeMember = (c : Members) (test : ℕ → Bool) → T (some_member c test) ↔ ((i : ℕ) × T (member c i) × T (test i))

abbrev pub EachMember : Type 0
EachMember = (c : Members) (test : ℕ → Bool) → T (each_member c test) ↔ ((i : ℕ) → T (member c i) → T (test i))

abbrev pub SomePair : Type 0
SomePair = (c : Pairs) (test : ℕ → ℕ → Bool) → T (some_pair c test) ↔ ((i : ℕ) × (j : ℕ) × T (pair c i j) × T (test i j))

abbrev pub EachPair : Type 0
EachPair = (c : Pairs) (test : ℕ → ℕ → Bool) → T (each_pair c test) ↔ ((i j : ℕ) → T (pair c i j) → T (test i j))

abbrev pub HasFirst : Type 0
HasFirst = (c : Pairs) (i : ℕ) → T (has_first c i) ↔ ((j : ℕ) × T (pair c i j))

abbrev pub HasSecond : Type 0
HasSecond = (c : Pairs) (j : ℕ) → T (has_second c j) ↔ ((i : ℕ) × T (pair c i j))

-- ---- what is there lies inside
abbrev pub MemberInside : Type 0
MemberInside = (c : Members) (i : ℕ) → T (member c i) → i < length c

abbrev pub PairPlaced : Type 0
PairPlaced = (c : Pairs) (i j : ℕ) → T (pair c i j) → i * width + j < length c

abbrev pub PairArea : Type 0
PairArea = (c : Pairs) (i j : ℕ) → T (pair c i j) → j < width

abbrev pub PairFirst : Type 0
PairFirst = (c : Pairs) (n i j : ℕ) → length c ≡ n * width → T (pair c i j) → i < n

abbrev pub ListedInside : Type 0
ListedInside = (s : Site) (k : Kind) (i : ℕ) → Shaped s → T (listed s k i) → i < limit k

abbrev pub RelatedInside : Type 0
RelatedInside =
    (s : Site) (r : Relation) (i j : ℕ) → Shaped s → T (related s r i j) → (i < limit (first_kind r)) × (j < limit area)

-- ---- what lies outside is not there, and writing it changes nothing
abbrev pub ListedOutside : Type 0
ListedOutside = (s : Site) (k : Kind) (i : ℕ) → Shaped s → limit k ≤ i → listed s k i ≡ false

abbrev pub ListOutside : Type 0
ListOutside = (s : Site) (k : Kind) (i : ℕ) (v : Bool) → Shaped s → limit k ≤ i → with_listed s k i v ≡ s

abbrev pub RelatedOutside : Type 0
RelatedOutside =
    (s : Site) (r : Relation) (i j : ℕ) → Shaped s → (limit (first_kind r) ≤ i) ⊎ (limit area ≤ j)
    → related s r i j ≡ false

abbrev pub RelateOutside : Type 0
RelateOutside =
    (s : Site) (r : Relation) (i j : ℕ) (v : Bool) → Shaped s → (limit (first_kind r) ≤ i) ⊎ (limit area ≤ j)
    → with_pair s r i j v ≡ s

-- ---- the empty record
abbrev pub EmptyRelated : Type 0
EmptyRelated = (r : Relation) (i j : ℕ) → related empty r i j ≡ false

-- ---- the founding state
-- "user 0 owns area 0", and nothing else is there
abbrev pub FoundingListed : Type 0
FoundingListed =
    (i : ℕ)
    → (listed founding user i ≡ eqb i 0) × (listed founding area i ≡ eqb i 0) × (listed founding object i ≡ false)

abbrev pub FoundingOwner : Type 0
FoundingOwner = (i j : ℕ) → related founding owner i j ≡ (eqb i 0 && eqb j 0)

abbrev pub FoundingNoPair : Type 0
FoundingNoPair = (r : Relation) (i j : ℕ) → (r ≡ owner → ⊥) → related founding r i j ≡ false

-- ---- the shape
-- what the type of the record says in the code
abbrev pub ShapedByLengths : Type 0
ShapedByLengths =
    (s : Site)
    → length s.users ≡ 32 → length s.areas ≡ 32 → length s.objects ≡ 64 → length s.owners ≡ 1024
    → length s.definitions ≡ 2048
    → length s.structure ≡ 1024 → length s.imports ≡ 2048 → length s.exports ≡ 2048 → Shaped s

abbrev pub EmptyShaped : Type 0
EmptyShaped = Shaped empty

abbrev pub FoundingShaped : Type 0
FoundingShaped = Shaped founding

abbrev pub ListShaped : Type 0
ListShaped = (s : Site) (k : Kind) (i : ℕ) (v : Bool) → Shaped s → Shaped (with_listed s k i v)

abbrev pub RelateShaped : Type 0
RelateShaped = (s : Site) (r : Relation) (i j : ℕ) (v : Bool) → Shaped s → Shaped (with_pair s r i j v)

-- ---- "Each state has one record": two records with equal readings are equal
pub record SameReadings (s t : Site) : Type 0 where
  pub lists : (k : Kind) (i : ℕ) → i < limit k → listed s k i ≡ listed t k i
  pub pairs : (r : Relation) (i j : ℕ) → i < limit (first_kind r) → j < limit area → related s r i j ≡ related t r i j

abbrev pub OneRecord : Type 0
OneRecord = (s t : Site) → Shaped s → Shaped t → SameReadings s t → s ≡ t

-- ---- no count is above 2,048, the places of the largest relation
abbrev pub CountsAtMost : Type 0
CountsAtMost = (s : Site) → Shaped s → (i : ℕ) → get_or (counts s) i 0 ≤ 2048
