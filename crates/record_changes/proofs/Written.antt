-- A bit that is written to a record is a number written to a set, or a pair to a relation, of its state.
--     bytes_set           the bytes of places of which one is written
--     marked, related     a number, or a pair, written to the bytes and to the state
--     Holds               bytes that are the record of a state; then_same goes on from them
-- Assumes nothing.
use Prim.Native.Nat.{ℕ, ◌+◌, ◌*◌, ◌/◌, ◌%◌, ◌<◌}
use mathlib.Core.Path.{◌≡◌, sym, ap, ◌∙◌}
use mathlib.Core.Bool.{Bool, false, cond}
use mathlib.Core.List.{List}
use native.Mathlib.Omega.{arith}
use native.Mathlib.Decide.{dec_lt, ℕ_discrete}
use borrow.Author.Tests.{eq-eqb, ne_eqb}
use lib.Dec.{T, eqb}
use lib.ListN.{length, get_or, set, length-set}
use lib.Seq.{get_or-set_same, get_or-set_other}
use Rattle.bits.specs.Bits.{bit, word, with_bit}
use Rattle.bits.proofs.Laws.{equal_bits, bit_past, word_bit, word_fits, same_word, with_bit_bit, with_bit_fits}
use Rattle.state.specs.Cells.{width}
use Rattle.state.specs.Site.{Site, Kind, area, limit, with_listed, Relation, first_kind, with_pair, Shaped}
use Rattle.state.proofs.Tabulate.{tabulate_is}
use Rattle.state.proofs.Laws.{list_shaped, relate_shaped}
use Rattle.records.specs.Record.{list_start, pair_start, record_size, places, byte_of, bytes_of_places, bytes_of, is_record, state_of}
use Rattle.records.proofs.Places.{place_count, places_length, list_inside, pair_inside, list_written, pair_written, bytes_long, byte_at, byte_bit}
use Rattle.records.proofs.Laws.{state_shaped, state_of_bytes, bytes_of_state, bytes_are_record, bytes_length, record_length}
use Rattle.record_changes.specs.Writing.{written}

-- ---- a byte with a bit written is a byte
module _ (a k : ℕ) (v : Bool) (small : a < 256) (hk : k < 8) where
  abbrev bit_with : ℕ → Bool
  bit_with j = cond (eqb j k) v (bit a j)

  pub byte_with : with_bit a k v ≡ word 8 bit_with
  byte_with = equal_bits 32 (with_bit a k v) (word 8 bit_with) (with_bit_fits a k v) (omega (arith, word_fits 8 bit_with)) (λ j h. go j h (dec_lt j 8))
    where
      go : (j : ℕ) → j < 32 → Dec (j < 8) → bit (with_bit a k v) j ≡ bit (word 8 bit_with) j
      go j h (yes l) = with_bit_bit a k v j h ∙ sym (word_bit 8 bit_with j l)
      go j h (no l) =
          with_bit_bit a k v j h ∙ ap (λ (b : Bool). cond b v (bit a j)) (ne_eqb j k (λ (e : j ≡ k). omega arith))
          ∙ bit_past 8 a j small (omega arith) ∙ sym (bit_past 8 (word 8 bit_with) j (word_fits 8 bit_with) (omega arith))

  pub byte_fits : with_bit a k v < 256
  byte_fits = rw byte_with (word_fits 8 bit_with)

pub written_length : (bytes : List ℕ) (at k : ℕ) (v : Bool) → length (written bytes at k v) ≡ length bytes
unfolding written
written_length bytes at k v = length-set bytes at (with_bit (get_or bytes at 0) k v)

-- ---- the bytes of places of which one is written
module _ (n : ℕ) (c : List Bool) (at k : ℕ) (v : Bool) (hat : at < n) (hk : k < 8) (inside : at * 8 + k < length c) where
  abbrev after : List Bool
  after = set c (at * 8 + k) v

  abbrev byte : ℕ
  byte = get_or (bytes_of_places n c) at 0

  small : byte < 256
  small = rw (byte_at n c at hat) (word_fits 8 _)

  -- a place of the byte that is written
  place : (j : ℕ) → j < 8 → bit_with byte k v small hk j ≡ get_or after (at * 8 + j) false
  place j h = go (ℕ_discrete j k)
    where
      go : Dec (j ≡ k) → cond (eqb j k) v (bit byte j) ≡ get_or after (at * 8 + j) false
      go (yes e) =
          ap (λ (b : Bool). cond b v (bit byte j)) (eq-eqb j k e) ∙ sym (get_or-set_same c (at * 8 + k) v false inside)
          ∙ ap (λ (i : ℕ). get_or after (at * 8 + i) false) (sym e)
      go (no e) =
          ap (λ (b : Bool). cond b v (bit byte j)) (ne_eqb j k e) ∙ byte_bit n c at j hat h
          ∙ sym (get_or-set_other c (at * 8 + k) (at * 8 + j) v false (λ (q : at * 8 + j ≡ at * 8 + k). e (omega arith)))

  each : (p : ℕ) → p < n → get_or (set (bytes_of_places n c) at (with_bit byte k v)) p 0 ≡ byte_of after p
  each p h = go (ℕ_discrete p at)
    where
      go : Dec (p ≡ at) → get_or (set (bytes_of_places n c) at (with_bit byte k v)) p 0 ≡ byte_of after p
      go (yes e) =
          ap (λ (i : ℕ). get_or (set (bytes_of_places n c) at (with_bit byte k v)) i 0) e
          ∙ get_or-set_same (bytes_of_places n c) at (with_bit byte k v) 0 (rw (bytes_long n c) hat)
          ∙ byte_with byte k v small hk
          ∙ same_word 8 _ _ place
          ∙ ap (byte_of after) (sym e)
      go (no e) =
          get_or-set_other (bytes_of_places n c) at p (with_bit byte k v) 0 e ∙ byte_at n c p h
          ∙ same_word 8 _ _ (λ j q. sym (get_or-set_other c (at * 8 + k) (p * 8 + j) v false (λ (d : p * 8 + j ≡ at * 8 + k). e (omega arith))))

  pub bytes_set : bytes_of_places n after ≡ written (bytes_of_places n c) at k v
  unfolding written bytes_of_places
  bytes_set = sym (tabulate_is (byte_of after) n 0 (written (bytes_of_places n c) at k v) (written_length (bytes_of_places n c) at k v ∙ bytes_long n c) each)

-- ---- bytes that are the record of a state
pub record Holds (bytes : List ℕ) (s : Site) : Type 0 where
  pub shaped : Shaped s
  pub same : bytes ≡ bytes_of s

pub holds_record : (bytes : List ℕ) → T (is_record bytes) → Holds bytes (state_of bytes)
holds_record bytes t = record { shaped = state_shaped bytes; same = sym (bytes_of_state bytes t) }

pub is_a_record : (bytes : List ℕ) (s : Site) → Holds bytes s → T (is_record bytes)
is_a_record bytes s t = rw t.same (bytes_are_record s t.shaped)

pub holds_state : (bytes : List ℕ) (s : Site) → Holds bytes s → state_of bytes ≡ s
holds_state bytes s t = ap state_of t.same ∙ state_of_bytes s t.shaped

pub holds_length : (bytes : List ℕ) (s : Site) → Holds bytes s → length bytes ≡ record_size
holds_length bytes s t = ap length t.same ∙ bytes_length s

-- what is made of the state that the bytes hold is made of that state
pub then_same : (bytes bytes' : List ℕ) (s : Site) (f : Site → Site) → Holds bytes s → bytes' ≡ bytes_of (f (state_of bytes)) → bytes' ≡ bytes_of (f s)
then_same bytes bytes' s f t e = e ∙ ap (λ (x : Site). bytes_of (f x)) (holds_state bytes s t)

pub listed_holds : (bytes bytes' : List ℕ) (k : Kind) (i : ℕ) (v : Bool) → bytes' ≡ bytes_of (with_listed (state_of bytes) k i v)
    → Holds bytes' (with_listed (state_of bytes) k i v)
listed_holds bytes bytes' k i v e = record { shaped = list_shaped (state_of bytes) k i v (state_shaped bytes); same = e }

pub related_holds : (bytes bytes' : List ℕ) (r : Relation) (i j : ℕ) (v : Bool) → bytes' ≡ bytes_of (with_pair (state_of bytes) r i j v)
    → Holds bytes' (with_pair (state_of bytes) r i j v)
related_holds bytes bytes' r i j v e = record { shaped = relate_shaped (state_of bytes) r i j v (state_shaped bytes); same = e }

-- the byte of a number, and of a pair, is there
pub list_room : (bytes : List ℕ) (k : Kind) (i : ℕ) → T (is_record bytes) → i < limit k → list_start k + i / 8 < length bytes
list_room bytes k i t q = omega (arith, list_inside (state_of bytes) (state_shaped bytes) k i q, record_length bytes t)

pub pair_room : (bytes : List ℕ) (r : Relation) (i j : ℕ) → T (is_record bytes) → i < limit (first_kind r) → j < width
    → pair_start r + i * 4 + j / 8 < length bytes
pair_room bytes r i j t q p = omega (arith, pair_inside (state_of bytes) (state_shaped bytes) r i j q p, record_length bytes t)

module _ (bytes bytes' : List ℕ) (s : Site) (t : Holds bytes s) where
  -- place p, bit k of byte `at`, is written
  written_place : (s' : Site) (p at k : ℕ) (v : Bool) → Shaped s' → places s' ≡ set (places s) p v → p < place_count → p ≡ at * 8 + k → k < 8
      → bytes' ≡ written bytes at k v → Holds bytes' s'
  unfolding bytes_of
  written_place s' p at k v shaped cell inside e hk b =
      record {
        shaped = shaped;
        same =
            b ∙ ap (λ (x : List ℕ). written x at k v) t.same
            ∙ sym (bytes_set record_size (places s) at k v (omega arith) hk (rw (places_length s t.shaped, sym e) inside))
            ∙ ap (λ (i : ℕ). bytes_of_places record_size (set (places s) i v)) (sym e) ∙ ap (bytes_of_places record_size) (sym cell);
      }

  pub marked : (k : Kind) (i : ℕ) (v : Bool) → i < limit k → bytes' ≡ written bytes (list_start k + i / 8) (i % 8) v → Holds bytes' (with_listed s k i v)
  marked k i v q e =
      written_place (with_listed s k i v) (list_start k * 8 + i) (list_start k + i / 8) (i % 8) v (list_shaped s k i v t.shaped)
      (list_written s t.shaped k i v q) (list_inside s t.shaped k i q) (omega arith) (omega arith) e

  pub related : (r : Relation) (i j : ℕ) (v : Bool) → i < limit (first_kind r) → j < limit area
      → bytes' ≡ written bytes (pair_start r + i * 4 + j / 8) (j % 8) v → Holds bytes' (with_pair s r i j v)
  related r i j v q p e =
      written_place (with_pair s r i j v) (pair_start r * 8 + (i * width + j)) (pair_start r + i * 4 + j / 8) (j % 8) v (relate_shaped s r i j v t.shaped)
      (pair_written s t.shaped r i j v q p) (pair_inside s t.shaped r i j q p) (omega arith) (omega arith) e
