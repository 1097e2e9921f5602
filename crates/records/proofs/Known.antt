-- What the test of a record says: its length, and which state its bytes give.
-- Assumes nothing.
use Prim.Native.Nat.{ℕ, ◌<◌}
use mathlib.Core.Path.{◌≡◌, ap}
use mathlib.Core.Bool.{Bool, true, false, cond}
use mathlib.Core.List.{List}
use lib.Dec.{T, eqb, eqb→eq}
use lib.ListN.{length}
use Rattle.state.specs.Below.{each_below}
use Rattle.state.specs.Site.{empty}
use Rattle.state.proofs.Bools.{and_left, and_right}
use Rattle.state.proofs.Below.{each_at}
use Rattle.records.specs.Record.{record_size, is_byte, is_record, state_at, state_of}

module _ (bytes : List ℕ) where
  pub record_length : T (is_record bytes) → length bytes ≡ record_size
  unfolding is_record
  record_length t = eqb→eq (length bytes) record_size (and_left (eqb (length bytes) record_size) (each_below (length bytes) (is_byte bytes)) t)

  pub record_byte : T (is_record bytes) → (k : ℕ) → k < length bytes → T (is_byte bytes k)
  unfolding is_record
  record_byte t = each_at (is_byte bytes) (length bytes) (and_right (eqb (length bytes) record_size) (each_below (length bytes) (is_byte bytes)) t)

  pub record_state : is_record bytes ≡ true → state_of bytes ≡ state_at bytes
  unfolding state_of
  record_state e = ap (λ (b : Bool). cond b (state_at bytes) empty) e

  pub no_record_empty : is_record bytes ≡ false → state_of bytes ≡ empty
  unfolding state_of
  no_record_empty e = ap (λ (b : Bool). cond b (state_at bytes) empty) e
