-- What the layers above use. The law is a type, which proofs/Laws.antt inhabits under the law's name.
use Rattle.std.specs.Prelude.{ℕ, ◌≡◌, get_or}
use Rattle.bits.specs.Bits.{bit}
use Rattle.bits.specs.Rows.{Rows, cells_of}
use Rattle.state.specs.Cells.{Pairs}
use Rattle.relations.specs.Relations.{transpose}
use Rattle.access.specs.Lending.{lending_of}
use Rattle.access.specs.Answer.{access}
use Rattle.search.specs.Rounds.{move_by, reachable}

-- what is asked of an object's rows, with the structure and its transpose, is access
abbrev pub ReachableIsAccess : Type 0
ReachableIsAccess =
    (definitions structures : Rows) (transposed : Pairs) (imports exports : Rows) (o a : ℕ)
    → transposed ≡ transpose (cells_of structures)
    → bit (reachable (bit (get_or definitions o 0)) (move_by (cells_of structures) transposed
    (bit (get_or imports o 0)) (bit (get_or exports o 0)))) a
    ≡ access (lending_of (cells_of definitions) (cells_of structures) (cells_of imports) (cells_of exports) o) a
