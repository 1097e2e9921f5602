-- "A state is sound when it is consistent (whatever a pair names is listed), acceptable (every listed user owns an
-- area, every listed area has an owner, every listed object is defined in exactly one area), has at least one area, and
-- is valid: for each import or export pair the area has access to the object." (document 01, 'The state'; 001, section
-- 4.2). "From now on no area may import an object that it defines, and a state with such an import is unsound."
-- (document 02, point 4). Each part is a named fact.
use Rattle.std.specs.Prelude.{ℕ, ◌≡◌, T}
use Rattle.state.specs.Site.{user, area, object, Relation, first_kind, listed, related, owns, defines, imports, exports}
use Rattle.state.specs.Site.{Shaped}
use Rattle.state.specs.Site.{Site}
use Rattle.access.specs.Lending.{lending}
use Rattle.access.specs.Answer.{access}

-- what the pair (i, j) of the relation names is listed
pub record Named (s : Site) (r : Relation) (i j : ℕ) : Type 0 where
  pub first : T (listed s (first_kind r) i)
  pub second : T (listed s area j)

-- "consistent (whatever a pair names is listed)"
abbrev pub Consistent : Site → Type 0
Consistent s = (r : Relation) (i j : ℕ) → T (related s r i j) → Named s r i j

-- object o "is defined in exactly one area"
pub record DefinedOnce (s : Site) (o : ℕ) : Type 0 where
  pub place : ℕ
  pub defined : T (defines s o place)
  pub only : (a : ℕ) → T (defines s o a) → a ≡ place

-- "acceptable (every listed user owns an area, every listed area has an owner, every listed object is defined in
-- exactly one area)"
pub record Acceptable (s : Site) : Type 0 where
  pub users : (u : ℕ) → T (listed s user u) → (a : ℕ) × T (owns s u a)
  pub areas : (a : ℕ) → T (listed s area a) → (u : ℕ) × T (owns s u a)
  pub objects : (o : ℕ) → T (listed s object o) → DefinedOnce s o

-- "has at least one area"
abbrev pub SomeArea : Site → Type 0
SomeArea s = (a : ℕ) × T (listed s area a)

-- "valid: for each import or export pair the area has access to the object"
pub record Valid (s : Site) : Type 0 where
  pub imported : (o a : ℕ) → T (imports s o a) → T (access (lending s o) a)
  pub exported : (o a : ℕ) → T (exports s o a) → T (access (lending s o) a)

-- "no area may import an object that it defines". It may export it; and document 01's "An import by the defining area
-- itself is therefore valid." holds of Valid still, and no longer of Sound.
abbrev pub NoOwnImport : Site → Type 0
NoOwnImport s = (o a : ℕ) → T (imports s o a) → T (defines s o a) → ⊥

-- Sound. `shaped` is what the type of the record says in the code. "Each state has one record" needs no part of its
-- own: a record holds its lists and relations and nothing else (state, claim OneRecord), and in a sound one the
-- relations fix the lists (Claims, RecordOfRelations).
pub record Sound (s : Site) : Type 0 where
  pub shaped : Shaped s
  pub consistent : Consistent s
  pub acceptable : Acceptable s
  pub some_area : SomeArea s
  pub valid : Valid s
  pub has_no_own_import : NoOwnImport s
