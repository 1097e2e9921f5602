-- What the layers above use. Each law is a type, which proofs/Laws.antt inhabits under the law's name.
use Rattle.std.specs.Prelude.{ℕ, suc, ◌^◌, ◌≤◌, ◌<◌, length}
use Rattle.output.specs.Decimal.{decimal}

-- a number has no more digits than that
abbrev pub DecimalLength : Type 0
DecimalLength = (k n : ℕ) → n < 10 ^ suc k → length (decimal n) ≤ suc k
