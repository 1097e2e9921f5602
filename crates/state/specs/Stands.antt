-- What a record of the code stands for: the state whose sets and relations have the cells of its rows (crate `bits`).
-- Contracts see a `State` through `site` and in no other way, so another way of keeping one changes the record, this
-- file, and the functions that read and write its fields.
--     site             the state of a record
--     Fits             what the type of a record says in the code
--     kind_of          the set that a `Kind` of the code stands for
--     relation_of      the relation that a `Relation` of the code stands for
-- Old and new are one to one (document 02, point 11): "Keep each relation as rows of bits, one row of 32 for each user,
-- area or object, however it is kept now. Show that old and new records stand for the same sound states one to one".
-- The old record is `Site`, a cell for each place, as the specification has it; the new one is `State`. The other
-- direction, and that both get the same answers, is claimed in crate `refinement`.
use Rattle.std.specs.Prelude.{ℕ, ◌≡◌, length}
use Rattle.bits.specs.Rows.{Rows, cells_of, Fit}
use Rattle.state.specs.Site.{Site, site_of, Shaped, user, area, object, owner, definition, structure, import, export}
use Rattle.state.specs.Site.{Kind as SetKind, Relation as PairRelation}
use Rattle.state.specs.declared.State.{State}
use Rattle.state.specs.declared.Kind.{Kind}
use Rattle.state.specs.declared.Kind.TheVariants.{User, Area, Object}
use Rattle.state.specs.declared.Relation.{Relation}
use Rattle.state.specs.declared.Relation.TheVariants.{Owner, Definition, Structure, Import, Export}

unfoldable pub site : State → Site
site s =
    site_of (cells_of s.users) (cells_of s.areas) (cells_of s.objects) (cells_of s.owners)
    (cells_of s.definitions) (cells_of s.structure) (cells_of s.imports) (cells_of s.exports)

-- n rows, each a number of 32 bits
pub record Sized (n : ℕ) (rows : Rows) : Type 0 where
  pub long : length rows ≡ n
  pub fit : Fit rows

-- Every field has its rows. The type of the record says so in the code; the lists that stand for its arrays here do
-- not.
pub record Fits (s : State) : Type 0 where
  pub users : Sized 1 s.users
  pub areas : Sized 1 s.areas
  pub objects : Sized 2 s.objects
  pub owners : Sized 32 s.owners
  pub definitions : Sized 64 s.definitions
  pub structure : Sized 32 s.structure
  pub imports : Sized 64 s.imports
  pub exports : Sized 64 s.exports

-- Nothing of a record is lost on the way: two that stand for one state are the same record. So a contract that speaks
-- of `site r` leaves the record r no choice.
abbrev pub NothingLost : Type 0
NothingLost = (s t : State) → Fits s → Fits t → site s ≡ site t → s ≡ t

-- A record has the cells of a state.
abbrev pub SiteShaped : Type 0
SiteShaped = (s : State) → Fits s → Shaped (site s)

abbrev pub kind_of : Kind → SetKind
kind_of User = user
kind_of Area = area
kind_of Object = object

abbrev pub relation_of : Relation → PairRelation
relation_of Owner = owner
relation_of Definition = definition
relation_of Structure = structure
relation_of Import = import
relation_of Export = export
