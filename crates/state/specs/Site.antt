-- The state of a site (document 01, 'The state'): "A state has three sets of listed users, areas and objects, and five
-- relations".
--     Site                                        the state
--     Kind, limit, listed, with_listed            the three sets
--     Relation, first_kind, related, with_pair    the five relations
--     owns, defines, inside, imports, exports     the relations by the paper's words
--     empty, founding                             nothing, and the founding state
--     site_of                                     a state from its parts
--     counts                                      how many users, areas, objects and pairs there are
--     Shaped                                      every set and relation has its number of cells
--     Verdict                                     a refusal's number and a state
use Rattle.std.specs.Prelude.{ℕ, ◌*◌, ◌≡◌, Bool, true, false, cond, List, [], ◌∷◌, eqb, length, replicate}
use Rattle.state.specs.Cells.{Members, Pairs, width, member, mark, pair, put}
use Rattle.state.specs.Walk.{count}

-- "three sets of listed users, areas and objects, and five relations"
pub record Site : Type 0 where
  pub users : Members
  pub areas : Members
  pub objects : Members
  pub owners : Pairs
  pub definitions : Pairs
  pub structure : Pairs
  pub imports : Pairs
  pub exports : Pairs

-- the state of three sets and five relations
abbrev pub site_of : (users areas objects : Members) (owners definitions structures imported exported : Pairs) → Site
site_of users areas objects owners definitions structures imported exported =
    record {
      users = users;
      areas = areas;
      objects = objects;
      owners = owners;
      definitions = definitions;
      structure = structures;
      imports = imported;
      exports = exported;
    }

-- "listed users, areas and objects"
pub data Kind : Type 0 where
  user area object : Kind

-- "Users and areas are numbered 0 to 31, objects 0 to 63"
abbrev pub limit : Kind → ℕ
limit user = 32
limit area = width
limit object = 64

abbrev pub members : Site → Kind → Members
members s user = s.users
members s area = s.areas
members s object = s.objects

-- is number i listed
abbrev pub listed : Site → Kind → ℕ → Bool
listed s k i = member (members s k) i

-- the kinds told apart by a number
abbrev pub kind_number : Kind → ℕ
kind_number user = 0
kind_number area = 1
kind_number object = 2

-- a set of kind l, after a write of number i to the set of kind k
abbrev pub after_mark : Kind → ℕ → Bool → Kind → Members → Members
after_mark k i v l before = cond (eqb (kind_number l) (kind_number k)) (mark before i v) before

-- the state with number i listed (v true) or not listed (v false)
abbrev pub with_listed : Site → Kind → ℕ → Bool → Site
with_listed s k i v =
    record {
      users = after_mark k i v user s.users;
      areas = after_mark k i v area s.areas;
      objects = after_mark k i v object s.objects;
      owners = s.owners;
      definitions = s.definitions;
      structure = s.structure;
      imports = s.imports;
      exports = s.exports;
    }

-- "owner pairs (user, area); definition pairs (object, area)", "structure pairs (inner area, outer area)", "import
-- pairs and export pairs (object, area)"
pub data Relation : Type 0 where
  owner definition structure import export : Relation

-- what the first number of a pair is; the second is an area in all five
abbrev pub first_kind : Relation → Kind
first_kind owner = user
first_kind definition = object
first_kind structure = area
first_kind import = object
first_kind export = object

abbrev pub cells : Site → Relation → Pairs
cells s owner = s.owners
cells s definition = s.definitions
cells s structure = s.structure
cells s import = s.imports
cells s export = s.exports

-- is (i, j) a pair of the relation
abbrev pub related : Site → Relation → ℕ → ℕ → Bool
related s r i j = pair (cells s r) i j

-- the relations told apart by a number: their order in the paper
abbrev pub relation_number : Relation → ℕ
relation_number owner = 0
relation_number definition = 1
relation_number structure = 2
relation_number import = 3
relation_number export = 4

-- the cells of relation t, after a write of the pair (i, j) to relation r
abbrev pub after_put : Relation → ℕ → ℕ → Bool → Relation → Pairs → Pairs
after_put r i j v t before = cond (eqb (relation_number t) (relation_number r)) (put before i j v) before

-- the state with the pair (i, j) in the relation (v true) or without it (v false)
abbrev pub with_pair : Site → Relation → ℕ → ℕ → Bool → Site
with_pair s r i j v =
    record {
      users = s.users;
      areas = s.areas;
      objects = s.objects;
      owners = after_put r i j v owner s.owners;
      definitions = after_put r i j v definition s.definitions;
      structure = after_put r i j v structure s.structure;
      imports = after_put r i j v import s.imports;
      exports = after_put r i j v export s.exports;
    }

-- user u owns area a
abbrev pub owns : Site → ℕ → ℕ → Bool
owns s u a = related s owner u a

-- object o is defined in area a
abbrev pub defines : Site → ℕ → ℕ → Bool
defines s o a = related s definition o a

-- "the inner is in the contents of the outer, the outer in the environment of the inner"
abbrev pub inside : Site → ℕ → ℕ → Bool
inside s inner outer = related s structure inner outer

-- object o is imported by area a
abbrev pub imports : Site → ℕ → ℕ → Bool
imports s o a = related s import o a

-- object o is exported by area a
abbrev pub exports : Site → ℕ → ℕ → Bool
exports s o a = related s export o a

-- no number listed, no pair
unfoldable pub empty : Site
empty =
    record {
      users = replicate 32 false;
      areas = replicate 32 false;
      objects = replicate 64 false;
      owners = replicate 1024 false;
      definitions = replicate 2048 false;
      structure = replicate 1024 false;
      imports = replicate 2048 false;
      exports = replicate 2048 false;
    }

-- "In the founding state user 0 owns area 0; its 2,048 import places and 2,048 export places are all empty"
unfoldable pub founding : Site
founding = with_pair (with_listed (with_listed empty user 0 true) area 0 true) owner 0 0 true

-- "the counts of users, areas, objects, owner, structure, import and export pairs"
abbrev pub counts : Site → List ℕ
counts s =
    count (members s user)
    ∷ count (members s area)
    ∷ count (members s object)
    ∷ count (cells s owner)
    ∷ count (cells s structure)
    ∷ count (cells s import)
    ∷ count (cells s export)
    ∷ []

-- Every set and every relation has its number of cells. The type of the record in the code says so; the lists that
-- stand for its arrays here do not, so the laws that need it ask for it.
pub record Shaped (s : Site) : Type 0 where
  pub sets : (k : Kind) → length (members s k) ≡ limit k
  pub relations : (r : Relation) → length (cells s r) ≡ limit (first_kind r) * width

-- What an instruction or a site file gets: the number of the refusal, 0 for none, and a state.
pub record Verdict : Type 0 where
  pub refusal : ℕ
  pub state : Site

abbrev pub verdict : ℕ → Site → Verdict
verdict n s = record { refusal = n; state = s }
