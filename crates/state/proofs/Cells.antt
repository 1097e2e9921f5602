-- The laws of a set's and a relation's cells, on lists of any length; those of the record (Laws.antt) and of the functions cite them.
-- Assumes nothing.
use Prim.Native.Nat.{ℕ, zero, suc, ◌+◌, ◌*◌, ◌≤◌, ◌<◌, zero-le}
use mathlib.Core.Path.{◌≡◌, refl, sym, ap, subst, ◌∙◌}
use mathlib.Core.Logic.{◌⊎◌, inl, inr}
use mathlib.Core.Bool.{Bool, true, false, ◌&&◌, cond}
use mathlib.Core.List.{List, [], ◌∷◌}
use native.Mathlib.Omega.{arith}
use native.Mathlib.Decide.{dec_lt, ℕ_discrete}
use borrow.Author.Tests.{lt-ltb, le-ltb, ne_eqb}
use lib.Dec.{T, ltb, eqb}
use lib.ListN.{length, get_or, set, length-set, replicate, length-replicate, get_or-eq_default}
use lib.Seq.{get_or-set_same, get_or-set_other, set-get_or, set_out, ext_get_or}
use Rattle.state.specs.Cells.{Pairs, width, member, mark, pair, put}
use Rattle.state.proofs.Fill.{kept_none}

-- ---- a set
pub member_outside : (c : List Bool) (i : ℕ) → length c ≤ i → member c i ≡ false
unfolding member
member_outside c i h = get_or-eq_default c false h

pub mark_outside : (c : List Bool) (i : ℕ) (v : Bool) → length c ≤ i → mark c i v ≡ c
unfolding mark
mark_outside c i v h = set_out c i v h

pub length_mark : (c : List Bool) (i : ℕ) (v : Bool) → length (mark c i v) ≡ length c
unfolding mark
length_mark c i v = length-set c i v

pub member_same : (c : List Bool) (i : ℕ) (v : Bool) → i < length c → member (mark c i v) i ≡ v
unfolding member mark
member_same c i v h = get_or-set_same c i v false h

pub member_other : (c : List Bool) (i n : ℕ) (v : Bool) → (n ≡ i → ⊥) → member (mark c i v) n ≡ member c n
unfolding member mark
member_other c i n v ne = get_or-set_other c i n v false ne

pub member_ext : (c d : List Bool) → length c ≡ length d → ((i : ℕ) → i < length c → member c i ≡ member d i) → c ≡ d
unfolding member
member_ext c d e each = ext_get_or false c d e each

pub member_else : (c : List Bool) (i n : ℕ) (v : Bool) → (n ≡ i) ⊎ (member (mark c i v) n ≡ member c n)
member_else c i n v = go (ℕ_discrete n i)
  where
    go : Dec (n ≡ i) → (n ≡ i) ⊎ (member (mark c i v) n ≡ member c n)
    go (yes e) = inl e
    go (no f) = inr (member_other c i n v f)

-- a cell that is written, and then as it was
set_back : (c : List Bool) (i : ℕ) (v : Bool) → set (set c i v) i (get_or c i false) ≡ c
set_back [] i v = refl
set_back (x ∷ rest) zero v = refl
set_back (x ∷ rest) (suc i) v = ap (λ (l : List Bool). x ∷ l) (set_back rest i v)

pub mark_back : (c : List Bool) (i : ℕ) (v : Bool) → mark (mark c i v) i (member c i) ≡ c
unfolding member mark
mark_back c i v = set_back c i v

pub mark_as_is : (c : List Bool) (i : ℕ) → mark c i (member c i) ≡ c
unfolding member mark
mark_as_is c i = set-get_or c i false

-- a number of the set has its cell
member_has_cell : (c : List Bool) (i : ℕ) → T (member c i) → i < length c
member_has_cell c i t = go (dec_lt i (length c))
  where
    go : Dec (i < length c) → i < length c
    go (yes h) = h
    go (no h) = absurd (subst T (member_outside c i (omega arith)) t)

pub member_kept : (c : List Bool) (i n : ℕ) → T (member c n) → T (member (mark c i true) n)
member_kept c i n t = go (member_else c i n true)
  where
    go : (n ≡ i) ⊎ (member (mark c i true) n ≡ member c n) → T (member (mark c i true) n)
    go (inl e) = rw (← e) (subst T (sym (member_same c n true (member_has_cell c n t))) tt)
    go (inr e) = subst T (sym e) t

pub member_removed : (c : List Bool) (i n : ℕ) → T (member (mark c i false) n) → T (member c n)
member_removed c i n t = go (member_else c i n false)
  where
    go : (n ≡ i) ⊎ (member (mark c i false) n ≡ member c n) → T (member c n)
    go (inl e) =
        let h = member_has_cell (mark c i false) n t in
        absurd (subst T (member_same c n false (rw (length_mark c i false) at h)) (rw (← e) at t))
    go (inr e) = subst T e t

-- ---- a relation
pub pair_inside : (c : List Bool) (i j : ℕ) → j < width → pair c i j ≡ get_or c (i * width + j) false
unfolding pair
pair_inside c i j h = rw (lt-ltb j width h)

pub pair_outside : (c : List Bool) (i j : ℕ) → width ≤ j → pair c i j ≡ false
unfolding pair
pair_outside c i j h = rw (le-ltb j width h)

pub pair_beyond : (c : List Bool) (i j : ℕ) → length c ≤ i * width + j → pair c i j ≡ false
unfolding pair
pair_beyond c i j h = go (ltb j width)
  where
    go : (b : Bool) → b && get_or c (i * width + j) false ≡ false
    go true = get_or-eq_default c false h
    go false = refl

pub put_inside : (c : List Bool) (i j : ℕ) (v : Bool) → j < width → put c i j v ≡ set c (i * width + j) v
unfolding put
put_inside c i j v h = rw (lt-ltb j width h)

pub put_outside : (c : List Bool) (i j : ℕ) (v : Bool) → width ≤ j → put c i j v ≡ c
unfolding put
put_outside c i j v h = rw (le-ltb j width h)

pub put_past : (c : List Bool) (i j : ℕ) (v : Bool) → length c ≤ i * width + j → put c i j v ≡ c
unfolding put
put_past c i j v h = go (ltb j width)
  where
    go : (b : Bool) → cond b (set c (i * width + j) v) c ≡ c
    go true = set_out c (i * width + j) v h
    go false = refl

pub length_put : (c : List Bool) (i j : ℕ) (v : Bool) → length (put c i j v) ≡ length c
unfolding put
length_put c i j v = go (ltb j width)
  where
    go : (b : Bool) → length (cond b (set c (i * width + j) v) c) ≡ length c
    go true = length-set c (i * width + j) v
    go false = refl

pub pair_same : (c : List Bool) (i j : ℕ) (v : Bool) → j < width → i * width + j < length c → pair (put c i j v) i j ≡ v
pair_same c i j v h l =
    rw (put_inside c i j v h) (pair_inside (set c (i * width + j) v) i j h ∙ get_or-set_same c (i * width + j) v false l)

-- the cells of two pairs are the same only where the pairs are
cell_of : (i j m n : ℕ) → j < width → n < width → m * width + n ≡ i * width + j → (m ≡ i) × (n ≡ j)
cell_of i j m n hj hn e = omega arith

pub pair_other : (c : List Bool) (i j m n : ℕ) (v : Bool) → (m ≡ i → n ≡ j → ⊥) → pair (put c i j v) m n ≡ pair c m n
pair_other c i j m n v ne = go (dec_lt j width) (dec_lt n width)
  where
    go : Dec (j < width) → Dec (n < width) → pair (put c i j v) m n ≡ pair c m n
    go (no f) d = ap (λ (l : List Bool). pair l m n) (put_outside c i j v (omega arith))
    go (yes hj) (no f) = pair_outside (put c i j v) m n (omega arith) ∙ sym (pair_outside c m n (omega arith))
    go (yes hj) (yes hn) =
        rw (put_inside c i j v hj)
        (pair_inside (set c (i * width + j) v) m n hn
        ∙ get_or-set_other c (i * width + j) (m * width + n) v false (λ e. let both = cell_of i j m n hj hn e in ne both.0 both.1)
        ∙ sym (pair_inside c m n hn))

pub put_back : (c : List Bool) (i j : ℕ) (v : Bool) → put (put c i j v) i j (pair c i j) ≡ c
unfolding pair put
put_back c i j v = go (ltb j width)
  where
    at : ℕ
    at = i * width + j

    go : (b : Bool) → cond b (set (cond b (set c at v) c) at (b && get_or c at false)) (cond b (set c at v) c) ≡ c
    go true = set_back c at v
    go false = refl

-- ---- one pair more, one pair fewer
-- a pair has its cell
pub pair_has_cell : (c : Pairs) (i j : ℕ) → T (pair c i j) → (j < width) × (i * width + j < length c)
pair_has_cell c i j t = (area (dec_lt j width), cell (dec_lt (i * width + j) (length c)))
  where
    area : Dec (j < width) → j < width
    area (yes h) = h
    area (no h) = absurd (subst T (pair_outside c i j (omega arith)) t)

    cell : Dec (i * width + j < length c) → i * width + j < length c
    cell (yes h) = h
    cell (no h) = absurd (subst T (pair_beyond c i j (omega arith)) t)

-- a pair is the written one or another
pub same_or_other : (i j m n : ℕ) → ((m ≡ i) × (n ≡ j)) ⊎ (m ≡ i → n ≡ j → ⊥)
same_or_other i j m n = go (ℕ_discrete m i) (ℕ_discrete n j)
  where
    go : Dec (m ≡ i) → Dec (n ≡ j) → ((m ≡ i) × (n ≡ j)) ⊎ (m ≡ i → n ≡ j → ⊥)
    go (yes p) (yes q) = inl (p, q)
    go (no p) d = inr (λ e f. p e)
    go (yes p) (no q) = inr (λ e f. q f)

pub pair_kept : (c : Pairs) (i j m n : ℕ) → T (pair c m n) → T (pair (put c i j true) m n)
pair_kept c i j m n t = go (same_or_other i j m n)
  where
    go : ((m ≡ i) × (n ≡ j)) ⊎ (m ≡ i → n ≡ j → ⊥) → T (pair (put c i j true) m n)
    go (inl e) =
        let h = pair_has_cell c m n t in
        rw (← e.0, ← e.1) (subst T (sym (pair_same c m n true h.0 h.1)) tt)
    go (inr ne) = subst T (sym (pair_other c i j m n true ne)) t

pub pair_removed : (c : Pairs) (i j m n : ℕ) → T (pair (put c i j false) m n) → T (pair c m n)
pair_removed c i j m n t = go (same_or_other i j m n)
  where
    go : ((m ≡ i) × (n ≡ j)) ⊎ (m ≡ i → n ≡ j → ⊥) → T (pair c m n)
    go (inl e) =
        let h = pair_has_cell (put c i j false) m n t in
        absurd (subst T (pair_same c m n false h.0 (rw (length_put c i j false) at h.1)) (rw (← e.0, ← e.1) at t))
    go (inr ne) = subst T (pair_other c i j m n false ne) t

-- ---- a set and a relation with nothing in them, and with one thing
pub no_member : (n i : ℕ) → member (replicate n false) i ≡ false
unfolding member
no_member n i = (kept_none false n).rest i zero-le

pub no_pair : (n i j : ℕ) → pair (replicate n false) i j ≡ false
unfolding pair
no_pair n i j = go (ltb j width)
  where
    go : (b : Bool) → b && get_or (replicate n false) (i * width + j) false ≡ false
    go true = (kept_none false n).rest (i * width + j) zero-le
    go false = refl

pub only_zero : (n i : ℕ) → 0 < n → member (mark (replicate n false) 0 true) i ≡ eqb i 0
only_zero n i h = go (ℕ_discrete i 0)
  where
    go : Dec (i ≡ 0) → member (mark (replicate n false) 0 true) i ≡ eqb i 0
    go (yes e) = rw e (member_same (replicate n false) 0 true (rw (length-replicate n false) h))
    go (no f) = member_other (replicate n false) 0 i true f ∙ no_member n i ∙ sym (ne_eqb i 0 f)

pub only_zeros : (n i j : ℕ) → 0 < n → pair (put (replicate n false) 0 0 true) i j ≡ (eqb i 0 && eqb j 0)
only_zeros n i j h = go (ℕ_discrete i 0) (ℕ_discrete j 0)
  where
    other : (eqb i 0 && eqb j 0) ≡ false → (i ≡ 0 → j ≡ 0 → ⊥) → pair (put (replicate n false) 0 0 true) i j ≡ (eqb i 0 && eqb j 0)
    other e f = pair_other (replicate n false) 0 0 i j true f ∙ no_pair n i j ∙ sym e

    go : Dec (i ≡ 0) → Dec (j ≡ 0) → pair (put (replicate n false) 0 0 true) i j ≡ (eqb i 0 && eqb j 0)
    go (yes p) (yes q) = rw (p, q) (pair_same (replicate n false) 0 0 true (omega arith) (rw (length-replicate n false) h))
    go (no p) d = other (rw (ne_eqb i 0 p)) (λ e f. p e)
    go (yes p) (no q) = other (rw (p, ne_eqb j 0 q)) (λ e f. q f)
