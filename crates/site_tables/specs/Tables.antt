-- The state that five tables of pairs give (document 01, 'The site file').
use Rattle.std.specs.Prelude.{ℕ, List}
use Rattle.state.specs.Cells.{Pairs}
use Rattle.state.specs.Site.{Site, Relation, owner, definition, structure, import, export, cells, site_of, empty}
use Rattle.state.specs.Site.{user, object, limit}
use Rattle.relations.specs.Relations.{firsts, seconds}
use Rattle.pair_tables.specs.Pairs.{with_pairs}

-- a relation has the pairs of its table
abbrev pub relation_of : Relation → (table : List ℕ) → Pairs
relation_of r table = with_pairs table (cells empty r)

-- the state of five relations: "Listed users and areas are those in owner pairs; listed objects those in definition
-- pairs."
abbrev pub state_by : (Relation → Pairs) → Site
state_by relation =
    site_of
    (firsts (limit user) (relation owner))
    (seconds (relation owner))
    (firsts (limit object) (relation definition))
    (relation owner)
    (relation definition)
    (relation structure)
    (relation import)
    (relation export)

-- the relations of five tables
abbrev pub relations_of : (owners definitions structures imported exported : List ℕ) → Relation → Pairs
relations_of owners definitions structures imported exported owner = relation_of owner owners
relations_of owners definitions structures imported exported definition = relation_of definition definitions
relations_of owners definitions structures imported exported structure = relation_of structure structures
relations_of owners definitions structures imported exported import = relation_of import imported
relations_of owners definitions structures imported exported export = relation_of export exported
