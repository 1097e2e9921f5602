-- Where each set and each relation stands among the places of a state, and the bytes that are there.
--     list_held, pairs_held        the cells of a set, and of a relation, from its start on
--     list_inside, pair_inside     where a number, and a pair, stands
--     list_written, pair_written   what is written there
--     byte_bit                     a bit of a byte is a place
--     bytes_append                 the bytes of places behind each other
-- Assumes nothing.
use Prim.Native.Nat.{ℕ, ◌+◌, ◌-◌, ◌*◌, ◌≤◌, ◌<◌}
use mathlib.Core.Path.{◌≡◌, refl, sym, ap, ap₂, ◌∙◌}
use mathlib.Core.Bool.{Bool, false}
use mathlib.Core.List.{List, [], ◌∷◌, ◌++◌}
use native.Mathlib.Omega.{arith}
use native.Mathlib.Nat.{zero-add, suc-add}
use native.Mathlib.Decide.{dec_lt}
use lib.ListN.{length, get_or, set, length-append, get_or-append}
use lib.Seq.{get_or-append-add, set-append_left}
use Rattle.bits.specs.Bits.{bit}
use Rattle.bits.proofs.Laws.{word_bit, same_word}
use Rattle.state.specs.Cells.{width, mark, put}
use Rattle.state.specs.Site.{Kind, user, area, object, limit, Relation, owner, definition, structure, import, export, first_kind, members, cells, with_listed, with_pair, Shaped}
use Rattle.state.specs.Site.{Site}
use Rattle.records.specs.Record.{list_start, pair_start, places, byte_of, bytes_of_places}
use Rattle.state.proofs.Tabulate.{length_tabulate, get_or_tabulate, tabulate_is}
use Rattle.state.proofs.Laws.{mark_cell, put_cell}

-- how many places there are
abbrev pub place_count : ℕ
place_count = 8320

-- `part` stands in the n cells l, from `start` on
pub record Held (l : List Bool) (n start : ℕ) (part : List Bool) : Type 0 where
  pub long : length l ≡ n
  pub inside : start + length part ≤ n
  pub cell : (i : ℕ) → i < length part → get_or l (start + i) false ≡ get_or part i false

-- ---- places in which a part of m cells is left open from `start` on, n in all: what stands there is read there, and what is
-- written to it is written there
record Frame (n m start : ℕ) (c : List Bool → List Bool) : Type 0 where
  long : (part : List Bool) → length part ≡ m → length (c part) ≡ n
  inside : start + m ≤ n
  cell : (part : List Bool) → length part ≡ m → (i : ℕ) → i < m → get_or (c part) (start + i) false ≡ get_or part i false
  write : (part : List Bool) → length part ≡ m → (i : ℕ) (v : Bool) → i < m → c (set part i v) ≡ set (c part) (start + i) v

set_append_right : (l part : List Bool) (i : ℕ) (v : Bool) → set (l ++ part) (length l + i) v ≡ l ++ set part i v
set_append_right [] part i v = ap (λ (k : ℕ). set part k v) (zero-add i)
set_append_right (x ∷ l) part i v = ap (λ (k : ℕ). set (x ∷ l ++ part) k v) (suc-add (length l) i) ∙ ap (λ (r : List Bool). x ∷ r) (set_append_right l part i v)

frame_first : (m : ℕ) → Frame m m 0 (λ part. part)
frame_first m =
    record {
      long = λ part h. h;
      inside = omega arith;
      cell = λ part h i q. ap (λ (k : ℕ). get_or part k false) (zero-add i);
      write = λ part h i v q. ap (λ (k : ℕ). set part k v) (sym (zero-add i));
    }

frame_last : (l : List Bool) (k m : ℕ) → length l ≡ k → Frame (k + m) m k (λ part. l ++ part)
frame_last l k m h =
    record {
      long = λ part e. length-append l part ∙ ap₂ ◌+◌ h e;
      inside = omega arith;
      cell = λ part e i q. ap (λ (j : ℕ). get_or (l ++ part) (j + i) false) (sym h) ∙ get_or-append-add l part i false;
      write = λ part e i v q. sym (set_append_right l part i v) ∙ ap (λ (j : ℕ). set (l ++ part) (j + i) v) h;
    }

frame_more : (n m start : ℕ) (c : List Bool → List Bool) (rest : List Bool) (r : ℕ) → length rest ≡ r → Frame n m start c → Frame (n + r) m start (λ part. c part ++ rest)
frame_more n m start c rest r h f =
    record {
      long = λ part e. length-append (c part) rest ∙ ap₂ ◌+◌ (f.long part e) h;
      inside = let within = f.inside in omega arith;
      cell = λ part e i q. get_or-append (c part) rest false (start + i) (omega (arith, f.long part e, f.inside)) ∙ f.cell part e i q;
      write = λ part e i v q. ap (λ (x : List Bool). x ++ rest) (f.write part e i v q) ∙ sym (set-append_left (c part) rest (start + i) v (omega (arith, f.long part e, f.inside)));
    }

held : (n m start : ℕ) (c : List Bool → List Bool) → Frame n m start c → (part : List Bool) → length part ≡ m → Held (c part) n start part
held n m start c f part h =
    record { long = f.long part h; inside = let within = f.inside in omega arith; cell = λ i q. f.cell part h i (rw (sym h) q) }

-- ---- the bytes of places
pub bytes_long : (n : ℕ) (c : List Bool) → length (bytes_of_places n c) ≡ n
unfolding bytes_of_places
bytes_long n c = length_tabulate (byte_of c) n

pub byte_at : (n : ℕ) (c : List Bool) (p : ℕ) → p < n → get_or (bytes_of_places n c) p 0 ≡ byte_of c p
unfolding bytes_of_places
byte_at n c p h = get_or_tabulate (byte_of c) n p 0 h

pub byte_bit : (n : ℕ) (c : List Bool) (p k : ℕ) → p < n → k < 8 → bit (get_or (bytes_of_places n c) p 0) k ≡ get_or c (p * 8 + k) false
byte_bit n c p k hp hk = ap (λ (x : ℕ). bit x k) (byte_at n c p hp) ∙ word_bit 8 _ k hk

-- the bytes of places behind others, of which there are eight to a byte
pub bytes_append : (m n : ℕ) (c d : List Bool) → length c ≡ m * 8 → bytes_of_places (m + n) (c ++ d) ≡ bytes_of_places m c ++ bytes_of_places n d
unfolding bytes_of_places
bytes_append m n c d h =
    sym (tabulate_is (byte_of (c ++ d)) (m + n) 0 (bytes_of_places m c ++ bytes_of_places n d)
    (length-append (bytes_of_places m c) (bytes_of_places n d) ∙ ap₂ ◌+◌ (bytes_long m c) (bytes_long n d)) each)
  where
    each : (p : ℕ) → p < m + n → get_or (bytes_of_places m c ++ bytes_of_places n d) p 0 ≡ byte_of (c ++ d) p
    each p hp = go (dec_lt p m)
      where
        go : Dec (p < m) → get_or (bytes_of_places m c ++ bytes_of_places n d) p 0 ≡ byte_of (c ++ d) p
        go (yes l) =
            get_or-append (bytes_of_places m c) (bytes_of_places n d) 0 p (rw (bytes_long m c) l) ∙ byte_at m c p l
            ∙ same_word 8 _ _ (λ k q. sym (get_or-append c d false (p * 8 + k) (omega (arith, h))))
        go (no l) =
            let e : p ≡ length (bytes_of_places m c) + (p - m) = omega (arith, bytes_long m c) in
            let inside : p - m < n = omega arith in
            ap (λ (j : ℕ). get_or (bytes_of_places m c ++ bytes_of_places n d) j 0) e
            ∙ get_or-append-add (bytes_of_places m c) (bytes_of_places n d) (p - m) 0 ∙ byte_at n d (p - m) inside
            ∙ same_word 8 _ _
            (λ k q.
            let f : length c + ((p - m) * 8 + k) ≡ p * 8 + k = omega (arith, h) in
            sym (ap (λ (j : ℕ). get_or (c ++ d) j false) (sym f) ∙ get_or-append-add c d ((p - m) * 8 + k) false))

module _ (s : Site) (h : Shaped s) where
  -- the first two sets and relations, the first three, and so on
  abbrev l2 : List Bool
  l2 = s.users ++ s.areas

  abbrev l3 : List Bool
  l3 = l2 ++ s.objects

  abbrev l4 : List Bool
  l4 = l3 ++ s.owners

  abbrev l5 : List Bool
  l5 = l4 ++ s.definitions

  abbrev l6 : List Bool
  l6 = l5 ++ s.structure

  abbrev l7 : List Bool
  l7 = l6 ++ s.imports

  -- each is open at its last part
  open2 : Frame 64 32 32 (λ part. s.users ++ part)
  open2 = frame_last s.users 32 32 (h.sets user)

  open3 : Frame 128 64 64 (λ part. l2 ++ part)
  open3 = frame_last l2 64 64 (open2.long s.areas (h.sets area))

  open4 : Frame 1152 1024 128 (λ part. l3 ++ part)
  open4 = frame_last l3 128 1024 (open3.long s.objects (h.sets object))

  open5 : Frame 3200 2048 1152 (λ part. l4 ++ part)
  open5 = frame_last l4 1152 2048 (open4.long s.owners (h.relations owner))

  open6 : Frame 4224 1024 3200 (λ part. l5 ++ part)
  open6 = frame_last l5 3200 1024 (open5.long s.definitions (h.relations definition))

  open7 : Frame 6272 2048 4224 (λ part. l6 ++ part)
  open7 = frame_last l6 4224 2048 (open6.long s.structure (h.relations structure))

  open8 : Frame place_count 2048 6272 (λ part. l7 ++ part)
  open8 = frame_last l7 6272 2048 (open7.long s.imports (h.relations import))

  -- and stays so among all places
  module _ (m start : ℕ) (c : List Bool → List Bool) where
    from7 : Frame 6272 m start c → Frame place_count m start (λ part. c part ++ s.exports)
    from7 f = frame_more 6272 m start c s.exports 2048 (h.relations export) f

  module _ (m start : ℕ) (c : List Bool → List Bool) where
    from6 : Frame 4224 m start c → Frame place_count m start (λ part. c part ++ s.imports ++ s.exports)
    from6 f = from7 m start (λ part. c part ++ s.imports) (frame_more 4224 m start c s.imports 2048 (h.relations import) f)

  module _ (m start : ℕ) (c : List Bool → List Bool) where
    from5 : Frame 3200 m start c → Frame place_count m start (λ part. c part ++ s.structure ++ s.imports ++ s.exports)
    from5 f = from6 m start (λ part. c part ++ s.structure) (frame_more 3200 m start c s.structure 1024 (h.relations structure) f)

  module _ (m start : ℕ) (c : List Bool → List Bool) where
    from4 : Frame 1152 m start c → Frame place_count m start (λ part. c part ++ s.definitions ++ s.structure ++ s.imports ++ s.exports)
    from4 f = from5 m start (λ part. c part ++ s.definitions) (frame_more 1152 m start c s.definitions 2048 (h.relations definition) f)

  module _ (m start : ℕ) (c : List Bool → List Bool) where
    from3 : Frame 128 m start c → Frame place_count m start (λ part. c part ++ s.owners ++ s.definitions ++ s.structure ++ s.imports ++ s.exports)
    from3 f = from4 m start (λ part. c part ++ s.owners) (frame_more 128 m start c s.owners 1024 (h.relations owner) f)

  module _ (m start : ℕ) (c : List Bool → List Bool) where
    from2 : Frame 64 m start c → Frame place_count m start (λ part. c part ++ s.objects ++ s.owners ++ s.definitions ++ s.structure ++ s.imports ++ s.exports)
    from2 f = from3 m start (λ part. c part ++ s.objects) (frame_more 64 m start c s.objects 64 (h.sets object) f)

  -- all places, with a set or a relation left open
  abbrev list_open : Kind → List Bool → List Bool
  list_open user part = part ++ s.areas ++ s.objects ++ s.owners ++ s.definitions ++ s.structure ++ s.imports ++ s.exports
  list_open area part = s.users ++ part ++ s.objects ++ s.owners ++ s.definitions ++ s.structure ++ s.imports ++ s.exports
  list_open object part = l2 ++ part ++ s.owners ++ s.definitions ++ s.structure ++ s.imports ++ s.exports

  abbrev pairs_open : Relation → List Bool → List Bool
  pairs_open owner part = l3 ++ part ++ s.definitions ++ s.structure ++ s.imports ++ s.exports
  pairs_open definition part = l4 ++ part ++ s.structure ++ s.imports ++ s.exports
  pairs_open structure part = l5 ++ part ++ s.imports ++ s.exports
  pairs_open import part = l6 ++ part ++ s.exports
  pairs_open export part = l7 ++ part

  list_frame : (k : Kind) → Frame place_count (limit k) (list_start k * 8) (list_open k)
  list_frame user = from2 32 0 (λ part. part ++ s.areas) (frame_more 32 32 0 (λ part. part) s.areas 32 (h.sets area) (frame_first 32))
  list_frame area = from2 32 32 (λ part. s.users ++ part) open2
  list_frame object = from3 64 64 (λ part. l2 ++ part) open3

  pairs_frame : (r : Relation) → Frame place_count (limit (first_kind r) * width) (pair_start r * 8) (pairs_open r)
  pairs_frame owner = from4 1024 128 (λ part. l3 ++ part) open4
  pairs_frame definition = from5 2048 1152 (λ part. l4 ++ part) open5
  pairs_frame structure = from6 1024 3200 (λ part. l5 ++ part) open6
  pairs_frame import = from7 2048 4224 (λ part. l6 ++ part) open7
  pairs_frame export = open8

  -- ---- what is read there
  list_closed : (k : Kind) → list_open k (members s k) ≡ places s
  list_closed user = refl
  list_closed area = refl
  list_closed object = refl

  pairs_closed : (r : Relation) → pairs_open r (cells s r) ≡ places s
  pairs_closed owner = refl
  pairs_closed definition = refl
  pairs_closed structure = refl
  pairs_closed import = refl
  pairs_closed export = refl

  pub list_held : (k : Kind) → Held (places s) place_count (list_start k * 8) (members s k)
  list_held k = rw (list_closed k) at (held place_count (limit k) (list_start k * 8) (list_open k) (list_frame k) (members s k) (h.sets k))

  pub pairs_held : (r : Relation) → Held (places s) place_count (pair_start r * 8) (cells s r)
  pairs_held r = rw (pairs_closed r) at (held place_count (limit (first_kind r) * width) (pair_start r * 8) (pairs_open r) (pairs_frame r) (cells s r) (h.relations r))

  -- there are so many
  pub places_length : length (places s) ≡ place_count
  places_length = (list_held user).long

  pub list_inside : (k : Kind) (i : ℕ) → i < limit k → list_start k * 8 + i < place_count
  list_inside k i q = omega (arith, (list_frame k).inside)

  pub pair_inside : (r : Relation) (i j : ℕ) → i < limit (first_kind r) → j < width → pair_start r * 8 + (i * width + j) < place_count
  pair_inside r i j q p = omega (arith, (pairs_frame r).inside)

  -- ---- and what is written there
  list_marked : (k : Kind) (i : ℕ) (v : Bool) → places (with_listed s k i v) ≡ list_open k (mark (members s k) i v)
  list_marked user i v = refl
  list_marked area i v = refl
  list_marked object i v = refl

  pairs_put : (r : Relation) (i j : ℕ) (v : Bool) → places (with_pair s r i j v) ≡ pairs_open r (put (cells s r) i j v)
  pairs_put owner i j v = refl
  pairs_put definition i j v = refl
  pairs_put structure i j v = refl
  pairs_put import i j v = refl
  pairs_put export i j v = refl

  pub list_written : (k : Kind) (i : ℕ) (v : Bool) → i < limit k → places (with_listed s k i v) ≡ set (places s) (list_start k * 8 + i) v
  list_written k i v q =
      list_marked k i v ∙ ap (list_open k) (mark_cell (members s k) i v) ∙ (list_frame k).write (members s k) (h.sets k) i v q
      ∙ ap (λ (l : List Bool). set l (list_start k * 8 + i) v) (list_closed k)

  pub pair_written : (r : Relation) (i j : ℕ) (v : Bool) → i < limit (first_kind r) → j < width
      → places (with_pair s r i j v) ≡ set (places s) (pair_start r * 8 + (i * width + j)) v
  pair_written r i j v q p =
      pairs_put r i j v ∙ ap (pairs_open r) (put_cell (cells s r) i j v p)
      ∙ (pairs_frame r).write (cells s r) (h.relations r) (i * width + j) v (omega arith)
      ∙ ap (λ (l : List Bool). set l (pair_start r * 8 + (i * width + j)) v) (pairs_closed r)
