-- Not needed to believe a claim. What this crate's own functions promise each other, of the rows that they are handed.
use Rattle.std.specs.Prelude.{ℕ, ◌+◌, Bool, ◌&&◌, ◌||◌, not, cond, get_or}
use Rattle.bits.specs.Bits.{bit, intersection, is_empty, is_subset, is_single}
use Rattle.bits.specs.Rows.{Rows}
use Rattle.state.specs.declared.State.{State}
use Rattle.search.specs.Rounds.{object_in}
use Rattle.search.specs.declared.Object.{Object}

-- each place of the row is a listed area, and there is none unless the row's own number is listed
unfoldable pub row_named : (row : ℕ) (first : Bool) (areas : ℕ) → Bool
row_named row first areas = is_subset row (cond first areas 0)

-- what a user owns is listed, and he owns an area if he is listed
unfoldable pub user_fits : (owned : ℕ) (listed : Bool) (areas : ℕ) → Bool
user_fits owned listed areas = row_named owned listed areas && (not listed || not (is_empty owned))

-- what an object's pairs name is listed, and it is defined in exactly one area if it is listed
unfoldable pub object_fits : Object → (listed : Bool) (areas : ℕ) → Bool
object_fits o listed areas =
    row_named o.defined listed areas && row_named o.imported listed areas && row_named o.exported listed areas
    && (not listed || is_single o.defined)

-- the same of user u, of the structure pairs of area a, and of object from + k
abbrev pub user_at : (owners : Rows) (users areas : ℕ) → ℕ → Bool
user_at owners users areas u = user_fits (get_or owners u 0) (bit users u) areas

abbrev pub area_at : (structure : Rows) (areas : ℕ) → ℕ → Bool
area_at structure areas a = row_named (get_or structure a 0) (bit areas a) areas

abbrev pub object_at : State → (from objects areas : ℕ) → ℕ → Bool
object_at s from objects areas k = object_fits (object_in s (from + k)) (bit objects k) areas

-- no place is in row o of both
abbrev pub apart_at : (these those : Rows) → ℕ → Bool
apart_at these those o = is_empty (intersection (get_or these o 0) (get_or those o 0))
