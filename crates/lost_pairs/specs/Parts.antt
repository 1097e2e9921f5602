-- Not needed to believe a claim. What this crate's own functions promise each other, of the pairs that they are handed.
use Rattle.std.specs.Prelude.{ℕ, Bool, ◌&&◌, not, cond, ltb, Option, Some, None}
use Rattle.state.specs.Below.{some_below, first_below}
use Rattle.state.specs.Cells.{Pairs, pair}
use Rattle.state.specs.Site.{Site}
use Rattle.access.specs.Lending.{lending}
use Rattle.access.specs.Answer.{access}
use Rattle.reasons.specs.declared.Entry.{Entry}

module _ (s : Site) (pairs : Pairs) where
  -- (o, a) is one of the pairs, and area a lacks access to object o
  unfoldable pub is_lost_by : (o a : ℕ) → Bool
  is_lost_by o a = pair pairs o a && not (access (lending s o) a)

  -- object o has such a pair
  abbrev pub loses_by : (o : ℕ) → Bool
  loses_by o = some_below 32 (is_lost_by o)

  -- the lowest object with such a pair, 64 if there is none, and the lowest area of such a pair of it
  unfoldable pub object_by : ℕ
  object_by = first_below 64 loses_by

  unfoldable pub area_by : ℕ → ℕ
  area_by o = first_below 32 (is_lost_by o)

  -- the first such pair, by object and then by area, if there is one
  abbrev pub entry_by : Option Entry
  entry_by = cond (ltb object_by 64) (Some (record { object = object_by; area = area_by object_by })) None
