-- How a set of numbers and a relation are kept: flat lists of cells, one for each number, or one for each number and
-- area.
--     member, mark     read and write a set
--     pair, put        read and write a relation
-- Readings are total: what lies outside is not there. Writes are total: what lies outside changes nothing. How a set or
-- a relation is kept is known in the files of this crate. Above it laws are used (Laws.antt); MemberCell, PairCell,
-- PairAt and PairPast say where a number or a pair lies, MarkCell, PutCell and PutBeyond what a write changes, for what
-- keeps the cells otherwise: as rows of bits (`relations`), as bytes (`records`).
use Rattle.std.specs.Prelude.{ℕ, ◌+◌, ◌*◌, Bool, false, ◌&&◌, cond, List, ltb, get_or, set}

-- a set, and a relation, as they are kept
abbrev pub Members : Type 0
Members = List Bool

abbrev pub Pairs : Type 0
Pairs = List Bool

-- how many areas there can be: every relation's second number is an area, so a row has this many cells
abbrev pub width : ℕ
width = 32

-- is number i in the set
unfoldable pub member : Members → ℕ → Bool
member cells i = get_or cells i false

-- the set with number i in it (v true) or not in it (v false)
unfoldable pub mark : Members → ℕ → Bool → Members
mark cells i v = set cells i v

-- is (i, j) a pair of the relation
unfoldable pub pair : Pairs → ℕ → ℕ → Bool
pair cells i j = ltb j width && get_or cells (i * width + j) false

-- the relation with the pair (i, j) (v true) or without it (v false)
unfoldable pub put : Pairs → ℕ → ℕ → Bool → Pairs
put cells i j v = cond (ltb j width) (set cells (i * width + j) v) cells
