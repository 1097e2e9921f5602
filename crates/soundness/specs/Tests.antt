-- The test that decides soundness, part by part. Each part walks the cells that are set, so that the checker can
-- compute it. The shape is not tested: no record of the code is without it (Claims, SoundDecided).
use Rattle.std.specs.Prelude.{ℕ, Bool, true, ◌&&◌, ◌||◌, not, eqb}
use Rattle.state.specs.Cells.{Members, Pairs, member, pair}
use Rattle.state.specs.Walk.{some_member, each_member, some_pair, each_pair, has_first, has_second}
use Rattle.state.specs.Site.{Site}
use Rattle.access.specs.Lending.{lending}
use Rattle.access.specs.Answer.{access}

-- "whatever a pair names is listed", for one relation
unfoldable pub named : (pairs : Pairs) (firsts areas : Members) → Bool
named pairs firsts areas = each_pair pairs (λ i j. member firsts i && member areas j)

abbrev pub is_consistent : Site → Bool
is_consistent s =
    named s.owners s.users s.areas
    && named s.definitions s.objects s.areas
    && named s.structure s.areas s.areas
    && named s.imports s.objects s.areas
    && named s.exports s.objects s.areas

-- "every listed user owns an area"
unfoldable pub all_own : (users : Members) (owners : Pairs) → Bool
all_own users owners = each_member users (has_first owners)

-- "every listed area has an owner"
unfoldable pub all_owned : (areas : Members) (owners : Pairs) → Bool
all_owned areas owners = each_member areas (has_second owners)

-- there is exactly one pair with the first number i
unfoldable pub once : Pairs → ℕ → Bool
once pairs i = some_pair pairs (λ m a. eqb m i && each_pair pairs (λ n b. not (eqb n i) || eqb b a))

-- "every listed object is defined in exactly one area"
unfoldable pub all_defined : (objects : Members) (definitions : Pairs) → Bool
all_defined objects definitions = each_member objects (once definitions)

abbrev pub is_acceptable : Site → Bool
is_acceptable s =
    all_own s.users s.owners && all_owned s.areas s.owners && all_defined s.objects s.definitions

-- "has at least one area"
unfoldable pub some_listed : Members → Bool
some_listed set = some_member set (λ i. true)

-- consistent, acceptable, with at least one area
abbrev pub is_well_formed : Site → Bool
is_well_formed s = is_consistent s && is_acceptable s && some_listed s.areas

-- "for each import or export pair the area has access to the object"
unfoldable pub is_valid : Site → Bool
is_valid s =
    each_pair s.imports (λ o a. access (lending s o) a) && each_pair s.exports (λ o a. access (lending s o) a)

-- no pair is in both relations
unfoldable pub disjoint : (these those : Pairs) → Bool
disjoint these those = each_pair these (λ i j. not (pair those i j))

-- "no area may import an object that it defines"
abbrev pub no_own_import : Site → Bool
no_own_import s = disjoint s.imports s.definitions

unfoldable pub is_sound : Site → Bool
is_sound s = is_well_formed s && is_valid s && no_own_import s
