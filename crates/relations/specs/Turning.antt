-- Not needed to believe a claim. What the functions that turn a relation round promise each other. An exchange takes a
-- row as blocks of so many places. Its mask has every other block, the lowest first.
--     is_mask                         whether a number is the mask of a block's size
--     even_bit, odd_bit               a bit of the two rows that an exchange makes of two
--     from_row, from_place            where place j of row i of an exchange comes from
--     exchanged                       the rows after an exchange
use Rattle.std.specs.Prelude.{ℕ, ◌+◌, ◌-◌, ◌/◌, ◌%◌, Bool, ◌&&◌, not, cond, leb, eqb, get_or}
use Rattle.std.specs.Bool.{beq}
use Rattle.state.specs.Below.{each_below}
use Rattle.state.specs.Tabulate.{tabulate}
use Rattle.bits.specs.Bits.{bit, places, word}
use Rattle.bits.specs.Rows.{Rows}

-- place j is in the mask where the place a block below it is none, or is not in the mask
unfoldable pub mask_at : (block mask : ℕ) → ℕ → Bool
mask_at block mask j = beq (bit mask j) (not (leb block j && bit mask (j - block)))

-- so it is for every place
unfoldable pub is_mask : (block mask : ℕ) → Bool
is_mask block mask = each_below places (mask_at block mask)

-- the even row: the places of the mask are `here`'s own, and the others those of `there` a block below
unfoldable pub even_bit : (block mask here there : ℕ) → ℕ → Bool
even_bit block mask here there j = cond (bit mask j) (bit here j) (bit there (j - block))

-- the odd row: the places of the mask are those of `there` a block above, and the others `here`'s own
unfoldable pub odd_bit : (block mask here there : ℕ) → ℕ → Bool
odd_bit block mask here there j = cond (bit mask j) (bit there (block + j)) (bit here j)

-- the rows k and k + 16 become 2 * k and 2 * k + 1: place j of row i comes from this row, and from this place in it
unfoldable pub from_row : (mask i j : ℕ) → ℕ
from_row mask i j = cond (bit mask j) (i / 2) (i / 2 + 16)

unfoldable pub from_place : (block mask i j : ℕ) → ℕ
from_place block mask i j = cond (eqb (i % 2) 0) (cond (bit mask j) j (j - block)) (cond (bit mask j) (block + j) j)

-- row i after an exchange, and all 32
unfoldable pub exchanged_row : (block mask : ℕ) → Rows → ℕ → ℕ
exchanged_row block mask rows i = word places (λ j. bit (get_or rows (from_row mask i j) 0) (from_place block mask i j))

unfoldable pub exchanged : (block mask : ℕ) → Rows → Rows
exchanged block mask rows = tabulate 32 (exchanged_row block mask rows)
