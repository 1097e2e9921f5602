-- The entries of a table of labels.
--     each_same                    tests that agree below a bound
--     is_in_range, ascends         what the tests of the table say of the first two bytes of its entries
--     text_at_lem                  and of each byte of their texts and filler
--     text_in_range, filler_zero   what a byte of a text is, and one of its filler
--     entry_long, entry_byte       the text of an entry: how long it is, and its bytes
--     found_at, found_none         the entry of an area, if there is one
--     found_there, found_nowhere   and what is known where one was found, or none
--     text_there, text_none        the text of an area's label, and without one
-- Assumes nothing.
use Prim.Native.Nat.{ℕ, suc, ◌+◌, ◌-◌, ◌*◌, ◌≤◌, ◌<◌}
use mathlib.Core.Path.{◌≡◌, refl, sym, subst, ◌∙◌}
use mathlib.Core.Bool.{Bool, true, false, ◌&&◌, cond}
use mathlib.Core.List.{List, []}
use native.Mathlib.Numerals.{add-one}
use native.Mathlib.Omega.{arith}
use borrow.Author.Tests.{lt-ltb, le-ltb}
use lib.Dec.{T, leb, ltb, eqb, ltb→lt, leb→le, eqb→eq}
use lib.ListN.{length, get_or, drop, length-take, length-drop}
use lib.Seq.{get_or-take, get_or-drop}
use Rattle.std.specs.Prelude.{Some, None}
use Rattle.state.specs.Below.{each_below}
use Rattle.state.proofs.Bools.{and_left, and_right, same_test}
use Rattle.state.proofs.Below.{each_at, each_by}
use Rattle.state.proofs.Ascending.{Ascends, ascends_by}
use Rattle.label_tables.specs.Labels.{label_size, text_size, label_count, label_area, label_length, text_byte, byte_fits}
use Rattle.label_tables.specs.Labels.{label_fits, labels_fit, label_ascends, labels_ascend, label_index, label_found}
use Rattle.label_tables.specs.Labels.{entry_text, label_of}

-- ---- tests that agree below a bound
pub each_same : (n : ℕ) (f g : ℕ → Bool) → ((k : ℕ) → k < n → f k ≡ g k) → each_below n f ≡ each_below n g
each_same n f g same =
    same_test (each_below n f) (each_below n g) (λ t. each_by g n (λ k h. subst T (same k h) (each_at f n t k h)))
    (λ t. each_by f n (λ k h. subst T (sym (same k h)) (each_at g n t k h)))

-- ---- what the tests of the table say
pub is_in_range : (t : List ℕ) → T (labels_fit t) → (k : ℕ) → k < label_count t →
    (label_area t k < 32) × (1 ≤ label_length t k) × (label_length t k ≤ 30)
unfolding labels_fit
is_in_range t fit k h = go (label_area t k) (label_length t k) _ (each_at (label_fits t) (label_count t) fit k h)
  where
    go : (a l : ℕ) (text : Bool) → T (ltb a 32 && leb 1 l && leb l 30 && text) → (a < 32) × (1 ≤ l) × (l ≤ 30)
    go a l text t =
        let sizes = and_left (ltb a 32 && leb 1 l && leb l 30) text t in
        let lower = and_left (ltb a 32 && leb 1 l) (leb l 30) sizes in
        let upper = and_right (ltb a 32 && leb 1 l) (leb l 30) sizes in (
          ltb→lt _ _ (and_left (ltb a 32) (leb 1 l) lower),
          leb→le _ _ (and_right (ltb a 32) (leb 1 l) lower),
          leb→le _ _ upper,
        )

pub ascends : (t : List ℕ) → T (labels_ascend t) → Ascends (label_area t) (label_count t)
unfolding labels_ascend
ascends t up = ascends_by (label_area t) (label_count t) next
  where
    next : (k : ℕ) → suc k < label_count t → label_area t k < label_area t (suc k)
    next k h =
        subst (λ (m : ℕ). label_area t k < label_area t m) (add-one k)
        (ltb→lt _ _ (each_at (label_ascends t) (label_count t - 1) up k (omega arith)))

-- byte i of an entry's text and filler passes its test
pub text_at_lem : (t : List ℕ) (k i : ℕ) → T (labels_fit t) → k < label_count t → i < text_size →
    T (byte_fits (label_length t k) i (text_byte t k i))
unfolding labels_fit
text_at_lem t k i fit h b =
    let byte = λ (j : ℕ). byte_fits (label_length t k) j (text_byte t k j) in
    each_at byte text_size
    (and_right (ltb (label_area t k) 32 && leb 1 (label_length t k) && leb (label_length t k) 30) (each_below text_size byte)
    (each_at (label_fits t) (label_count t) fit k h))
    i b

-- what the test says of a byte of the text, and of one of the filler
pub text_in_range : (size i byte : ℕ) → i < size → T (byte_fits size i byte) → (32 ≤ byte) × (byte ≤ 126)
text_in_range size i byte h t =
    let lower = leb 32 byte in
    let upper = leb byte 126 in
    let both : T (lower && upper) = rw (lt-ltb i size h) at t in
    (leb→le 32 byte (and_left lower upper both), leb→le byte 126 (and_right lower upper both))

pub filler_zero : (size i byte : ℕ) → size ≤ i → T (byte_fits size i byte) → byte ≡ 0
filler_zero size i byte h t = let zeroed : T (eqb byte 0) = rw (le-ltb i size h) at t in eqb→eq byte 0 zeroed

-- ---- the text of an entry
pub entry_long : (t : List ℕ) (k : ℕ) → T (labels_fit t) → k < label_count t →
    length (entry_text t k) ≡ label_length t k
entry_long t k fit h =
    let short : label_length t k ≤ 30 = (is_in_range t fit k h).2 in
    let n = length-take (label_length t k) (drop (k * label_size + 2) t) in
    let m = length-drop (k * label_size + 2) t in
    omega arith

pub entry_byte : (t : List ℕ) (k i : ℕ) → i < label_length t k → get_or (entry_text t k) i 0 ≡ text_byte t k i
entry_byte t k i b =
    get_or-take (label_length t k) (drop (k * label_size + 2) t) i 0 b ∙ get_or-drop (k * label_size + 2) t i 0

-- ---- the entry of an area, if there is one
pub found_at : (t : List ℕ) (a k : ℕ) → k < label_count t → label_index t a ≡ k → label_found t a ≡ Some k
found_at t a k h e = rw (e, lt-ltb k (label_count t) h) refl

pub found_none : (t : List ℕ) (a : ℕ) → label_index t a ≡ label_count t → label_found t a ≡ None
found_none t a e = rw (le-ltb (label_index t a) (label_count t) (omega arith)) refl

-- and what is known where one was found, or none
pub found_there : (t : List ℕ) (a k : ℕ) → Some k ≡ label_found t a → (k ≡ label_index t a) × (ltb (label_index t a) (label_count t) ≡ true)
found_there t a k e = go (ltb (label_index t a) (label_count t)) e
  where
    go : (b : Bool) → Some k ≡ cond b (Some (label_index t a)) None → (k ≡ label_index t a) × (b ≡ true)
    go true q = (cc, refl)
    go false q = cc

pub found_nowhere : (t : List ℕ) (a : ℕ) → None ≡ label_found t a → ltb (label_index t a) (label_count t) ≡ false
found_nowhere t a e = go (ltb (label_index t a) (label_count t)) e
  where
    go : (b : Bool) → None ≡ cond b (Some (label_index t a)) None → b ≡ false
    go true q = cc
    go false q = refl

-- ---- the text of an area's label
pub text_there : (t : List ℕ) (a : ℕ) → label_index t a < label_count t →
    label_of t a ≡ entry_text t (label_index t a)
unfolding label_of
text_there t a h = rw (lt-ltb (label_index t a) (label_count t) h) refl

pub text_none : (t : List ℕ) (a : ℕ) → label_count t ≤ label_index t a → label_of t a ≡ []
unfolding label_of
text_none t a h = rw (le-ltb (label_index t a) (label_count t) h) refl
