-- Not needed to believe a claim. A bit written to a byte of a buffer.
use Rattle.std.specs.Prelude.{ℕ, Bool, List, get_or, set}
use Rattle.bits.specs.Bits.{with_bit}

-- the buffer with bit k of byte `at` set (v true) or not (v false)
unfoldable pub written : (bytes : List ℕ) (at k : ℕ) → Bool → List ℕ
written bytes at k v = set bytes at (with_bit (get_or bytes at 0) k v)
