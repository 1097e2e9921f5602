-- Not needed to believe a claim. What this crate's own functions promise each other: a pair as one number.
use Rattle.std.specs.Prelude.{ℕ, ◌+◌, ◌*◌, List}
use Rattle.pair_tables.specs.Pairs.{first_byte, second_byte}

-- the two bytes of pair k as one number
abbrev pub number_at : List ℕ → ℕ → ℕ
number_at t k = first_byte t k * 256 + second_byte t k
