-- The claims of specs/Claims.antt and the laws of specs/Laws.antt, each proved under its name.
-- Assumes nothing.
use Prim.Native.Nat.{ℕ, ◌+◌, ◌-◌, ◌*◌, ◌/◌, ◌%◌, ◌<◌}
use mathlib.Core.Path.{◌≡◌, refl, sym, ap, ap₂, ◌∙◌}
use mathlib.Core.Logic.{◌⊎◌, inl, inr}
use mathlib.Core.Bool.{Bool, false, cond}
use mathlib.Core.List.{List, ◌++◌}
use native.Mathlib.Omega.{arith}
use native.Mathlib.Decide.{dec_lt}
use borrow.Author.Tests.{eq-eqb, lt-ltb}
use lib.Dec.{T, eqb, ltb→lt}
use lib.ListN.{length, get_or, length-append, get_or-append}
use lib.Seq.{ext_get_or, get_or-append-add}
use Rattle.bits.specs.Bits.{bit}
use Rattle.bits.proofs.Laws.{word_fits, word_is}
use Rattle.state.specs.Tabulate.{tabulate}
use Rattle.state.specs.Cells.{width}
use Rattle.state.specs.Below.{each_below}
use Rattle.state.specs.Site.{Kind, user, area, object, limit, Relation, owner, definition, structure, import, export, first_kind, members, cells, Shaped}
use Rattle.state.specs.Site.{Site}
use Rattle.state.proofs.Bools.{and_both, is_true, holds, test}
use Rattle.state.proofs.Below.{each_by}
use Rattle.state.proofs.Tabulate.{length_tabulate, get_or_tabulate, tabulate_is}
use Rattle.state.proofs.Laws.{member_cell, pair_cell, empty_shaped}
use Rattle.records.specs.Record.{list_start, pair_start, record_size, places, byte_of, bytes_of, is_byte, is_record, is_set, cells_at, list_at, pairs_at, state_at, state_of, stored}
use Rattle.records.specs.Claims
use Rattle.records.specs.Laws
use Rattle.records.proofs.Known
use Rattle.records.proofs.Places.{place_count, Held, list_held, pairs_held, bytes_long, byte_at, byte_bit}

-- ---- a state's bytes are a record
pub bytes_length : Claims.BytesLength
unfolding bytes_of
bytes_length s = bytes_long record_size (places s)

pub every_string : Claims.EveryString
unfolding is_record
every_string bytes long each =
    and_both (eqb (length bytes) record_size) (each_below (length bytes) (is_byte bytes)) (holds (eq-eqb (length bytes) record_size long))
    (each_by (is_byte bytes) (length bytes) (λ k q. holds (lt-ltb (get_or bytes k 0) 256 (each k))))

pub bytes_are_record : Claims.BytesAreRecord
unfolding is_record bytes_of
bytes_are_record s h =
    and_both (eqb (length (bytes_of s)) record_size) (each_below (length (bytes_of s)) (is_byte (bytes_of s)))
    (holds (eq-eqb (length (bytes_of s)) record_size (bytes_length s)))
    (each_by (is_byte (bytes_of s)) (length (bytes_of s))
    (λ k q. holds (lt-ltb (get_or (bytes_of s) k 0) 256 (rw (byte_at record_size (places s) k (rw (bytes_length s) at q)) (word_fits 8 _)))))

-- ---- which bit is which
-- a place of a part that stands in all places
read_place : (s : Site) (start : ℕ) (part : List Bool) → Held (places s) place_count (start * 8) part → (i : ℕ) → i < length part
    → is_set (bytes_of s) start i ≡ get_or part i false
unfolding bytes_of
read_place s start part t i h =
    let inside : start + i / 8 < record_size = omega (arith, t.inside) in
    let e : (start + i / 8) * 8 + i % 8 ≡ start * 8 + i = omega arith in
    byte_bit record_size (places s) (start + i / 8) (i % 8) inside (omega arith) ∙ ap (λ (k : ℕ). get_or (places s) k false) e ∙ t.cell i h

pub listed_byte : Claims.ListedByte
listed_byte s h k i q = read_place s (list_start k) (members s k) (list_held s h k) i (rw (h.sets k) q) ∙ sym (member_cell (members s k) i)

pub pair_byte : Claims.PairByte
pair_byte s h r i j q p =
    let inside : i * width + j < length (cells s r) = rw (h.relations r) (omega arith) in
    let byte : i * 4 + j / 8 ≡ (i * width + j) / 8 = omega arith in
    let place : j % 8 ≡ (i * width + j) % 8 = omega arith in
    ap₂ (λ (m k : ℕ). bit (get_or (bytes_of s) (pair_start r + m) 0) k) byte place
    ∙ read_place s (pair_start r) (cells s r) (pairs_held s h r) (i * width + j) inside ∙ sym (pair_cell (cells s r) i j p)

-- ---- and their own
-- the cells that are read from a state's record are those that stand there
read_back : (s : Site) (start : ℕ) (part : List Bool) (n : ℕ) → length part ≡ n → Held (places s) place_count (start * 8) part → cells_at (bytes_of s) start n ≡ part
read_back s start part n h t =
    sym (tabulate_is (is_set (bytes_of s) start) n false part h (λ k q. sym (read_place s start part t k (rw h q))))

by_fields : (s t : Site) → ((k : Kind) → members s k ≡ members t k) → ((r : Relation) → cells s r ≡ cells t r) → s ≡ t
by_fields s t m c i =
    record {
      users = m user i;
      areas = m area i;
      objects = m object i;
      owners = c owner i;
      definitions = c definition i;
      structure = c structure i;
      imports = c import i;
      exports = c export i;
    }

lists_at : (bytes : List ℕ) (k : Kind) → members (state_at bytes) k ≡ list_at bytes k
lists_at bytes user = refl
lists_at bytes area = refl
lists_at bytes object = refl

pairs_at_lem : (bytes : List ℕ) (r : Relation) → cells (state_at bytes) r ≡ pairs_at bytes r
pairs_at_lem bytes owner = refl
pairs_at_lem bytes definition = refl
pairs_at_lem bytes structure = refl
pairs_at_lem bytes import = refl
pairs_at_lem bytes export = refl

pub state_of_bytes : Claims.StateOfBytes
state_of_bytes s h =
    Known.record_state (bytes_of s) (is_true (is_record (bytes_of s)) (bytes_are_record s h))
    ∙ by_fields (state_at (bytes_of s)) s
    (λ k. lists_at (bytes_of s) k ∙ read_back s (list_start k) (members s k) (limit k) (h.sets k) (list_held s h k))
    (λ r. pairs_at_lem (bytes_of s) r ∙ read_back s (pair_start r) (cells s r) (limit (first_kind r) * width) (h.relations r) (pairs_held s h r))

-- ---- a record is that of its state
module _ (bytes : List ℕ) where
  -- place c of the bytes
  abbrev place_at : ℕ → Bool
  place_at = is_set bytes 0

  -- the cells c are the first n places
  record Front (n : ℕ) (c : List Bool) : Type 0 where
    pub read : c ≡ tabulate n place_at

  -- and with the cells behind them, from byte `start` on, so many more
  grown : (m n start : ℕ) (c : List Bool) → start * 8 ≡ m → Front m c → Front (m + n) (c ++ cells_at bytes start n)
  grown m n start c at f = record { read = tabulate_is place_at (m + n) false (c ++ cells_at bytes start n) long each }
    where
      before : length c ≡ m
      before = ap length f.read ∙ length_tabulate place_at m

      long : length (c ++ cells_at bytes start n) ≡ m + n
      long = length-append c (cells_at bytes start n) ∙ ap₂ ◌+◌ before (length_tabulate (is_set bytes start) n)

      each : (k : ℕ) → k < m + n → get_or (c ++ cells_at bytes start n) k false ≡ place_at k
      each k h = go (dec_lt k m)
        where
          go : Dec (k < m) → get_or (c ++ cells_at bytes start n) k false ≡ place_at k
          go (yes l) =
              get_or-append c (cells_at bytes start n) false k (rw before l) ∙ ap (λ (x : List Bool). get_or x k false) f.read
              ∙ get_or_tabulate place_at m k false l
          go (no l) =
              let e : k ≡ length c + (k - m) = omega (arith, before) in
              let byte : start + (k - m) / 8 ≡ 0 + k / 8 = omega arith in
              let place : (k - m) % 8 ≡ k % 8 = omega arith in
              ap (λ (j : ℕ). get_or (c ++ cells_at bytes start n) j false) e ∙ get_or-append-add c (cells_at bytes start n) (k - m) false
              ∙ get_or_tabulate (is_set bytes start) n (k - m) false (omega arith) ∙ ap₂ (λ (b j : ℕ). bit (get_or bytes b 0) j) byte place

  all_read : Front place_count (places (state_at bytes))
  all_read =
      let users : Front 32 (cells_at bytes 0 32) = record { read = refl } in
      let areas = grown 32 32 4 _ refl users in
      let objects = grown 64 64 8 _ refl areas in
      let owners = grown 128 1024 16 _ refl objects in
      let definitions = grown 1152 2048 144 _ refl owners in
      let structures = grown 3200 1024 400 _ refl definitions in
      let imports = grown 4224 2048 528 _ refl structures in
      grown 6272 2048 784 _ refl imports

  -- a byte of those places is the byte
  pub byte_back : T (is_record bytes) → (p : ℕ) → p < record_size → byte_of (places (state_at bytes)) p ≡ get_or bytes p 0
  byte_back t p h =
      sym (word_is 8 (get_or bytes p 0) _ (ltb→lt (get_or bytes p 0) 256 (Known.record_byte bytes t p (rw (Known.record_length bytes t) h)))
      (λ k q.
      let inside : p * 8 + k < place_count = omega arith in
      let byte : 0 + (p * 8 + k) / 8 ≡ p = omega arith in
      let place : (p * 8 + k) % 8 ≡ k = omega arith in
      sym (ap (λ (c : List Bool). get_or c (p * 8 + k) false) all_read.read ∙ get_or_tabulate place_at place_count (p * 8 + k) false inside
      ∙ ap₂ (λ (b j : ℕ). bit (get_or bytes b 0) j) byte place)))

at_shaped : (bytes : List ℕ) → Shaped (state_at bytes)
at_shaped bytes =
    record {
      sets = λ k. ap length (lists_at bytes k) ∙ length_tabulate (is_set bytes (list_start k)) (limit k);
      relations = λ r. ap length (pairs_at_lem bytes r) ∙ length_tabulate (is_set bytes (pair_start r)) (limit (first_kind r) * width);
    }

pub bytes_of_state : Claims.BytesOfState
unfolding bytes_of
bytes_of_state bytes t =
    ap bytes_of (Known.record_state bytes (is_true (is_record bytes) t))
    ∙ ext_get_or 0 (bytes_of (state_at bytes)) bytes (bytes_length (state_at bytes) ∙ sym (Known.record_length bytes t))
    (λ p q.
    let inside : p < record_size = rw (bytes_length (state_at bytes)) at q in
    byte_at record_size (places (state_at bytes)) p inside ∙ byte_back bytes t p inside)

pub state_shaped : Laws.StateShaped
state_shaped bytes = go (test (is_record bytes))
  where
    go : T (is_record bytes) ⊎ (is_record bytes ≡ false) → Shaped (state_of bytes)
    go (inl t) = rw (Known.record_state bytes (is_true (is_record bytes) t)) (at_shaped bytes)
    go (inr e) = rw (Known.no_record_empty bytes e) empty_shaped

-- ---- what is no record, and a record's length
pub no_record_empty : Laws.NoRecordEmpty
no_record_empty = Known.no_record_empty

pub record_length : Laws.RecordLength
record_length = Known.record_length

-- ---- a buffer that has the length of a record, and one that has not
pub stored_sized : Laws.StoredSized
unfolding stored
stored_sized buffer s h = ap (λ (b : Bool). cond b (bytes_of s) buffer) (eq-eqb (length buffer) record_size h)

pub stored_other : Laws.StoredOther
unfolding stored
stored_other buffer s e = ap (λ (b : Bool). cond b (bytes_of s) buffer) e
