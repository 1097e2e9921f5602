-- Validity object by object.
use Rattle.std.specs.Prelude.{ℕ, Bool, ◌&&◌, ◌||◌, not}
use Rattle.state.specs.Below.{each_below, some_below}
use Rattle.state.specs.Cells.{Pairs, pair}
use Rattle.state.specs.Site.{Site, area, limit, imports, exports}
use Rattle.access.specs.Lending.{lending}
use Rattle.access.specs.Answer.{access}

-- "for each import or export pair the area has access to the object", of the pairs of object o
unfoldable pub valid_for : Site → ℕ → Bool
valid_for s o = each_below (limit area) (λ a. not (imports s o a || exports s o a) || access (lending s o) a)

-- object o has a pair, of these or of those, whose area lacks access
unfoldable pub lacking : Site → (these those : Pairs) → ℕ → Bool
lacking s these those o =
    some_below (limit area) (λ a. (pair these o a || pair those o a) && not (access (lending s o) a))
