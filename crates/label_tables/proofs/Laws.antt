-- The claims of specs/Claims.antt and the laws of specs/Laws.antt.
-- Assumes nothing.
use Prim.Native.Nat.{ℕ, zero, suc, ◌+◌, ◌*◌, ◌/◌, ◌%◌, ◌≤◌, ◌<◌}
use mathlib.Core.Path.{◌≡◌, refl, sym, ap, ◌∙◌}
use mathlib.Core.List.{List}
use native.Mathlib.Omega.{arith}
use native.Mathlib.Decide.{ℕ_discrete, dec_lt}
use borrow.Author.Tests.{eqb-true, eq-eqb, ne_eqb}
use lib.Dec.{eqb}
use lib.ListN.{length, get_or, get_or-eq_default}
use lib.Seq.{ext_get_or}
use Rattle.state.proofs.Below.{first_is, first_none, first_met_lem}
use Rattle.state.proofs.Ascending.{Ascends, at_least, at_most}
use Rattle.label_tables.specs.Labels.{label_size, label_count, label_area, label_length, text_byte}
use Rattle.label_tables.specs.Labels.{text_size, label_index, entry_text, label_of, LawfulBlock}
use Rattle.label_tables.specs.Claims
use Rattle.label_tables.specs.Laws
use Rattle.label_tables.proofs.Entries.{is_in_range, ascends, text_at_lem, text_in_range, filler_zero}
use Rattle.label_tables.proofs.Entries.{entry_long, entry_byte, text_there, text_none}

pub label_count_fits : Claims.LabelCountFits
label_count_fits t fit up = at_most (label_area t) (label_count t) 32 (ascends t up) (λ k h. (is_in_range t fit k h).0)

pub label_found : Laws.LabelFound
unfolding label_index
label_found t k up h =
    first_is _ _ k h (eq-eqb (label_area t k) _ refl)
    (λ m b. ne_eqb _ _ (λ e. let at : label_area t m ≡ label_area t k = e in omega (arith, ascends t up m k b h)))

pub label_none : Laws.LabelNone
unfolding label_index
label_none t a none = first_none _ _ (λ k h. ne_eqb _ _ (none k h))

pub label_there : Laws.LabelThere
unfolding label_index
label_there t a h = eqb-true _ _ (first_met_lem (λ k. eqb (label_area t k) a) (label_count t) h)

pub label_area_fits : Laws.LabelAreaFits
label_area_fits t k fit h = (is_in_range t fit k h).0

pub label_text_fits : Claims.LabelTextFits
label_text_fits t k i fit h b =
    let short : label_length t k ≤ 30 = (is_in_range t fit k h).2 in
    text_in_range (label_length t k) i (text_byte t k i) b (text_at_lem t k i fit h (omega arith))

pub label_filler : Claims.LabelFiller
label_filler t k i fit h past b = filler_zero (label_length t k) i (text_byte t k i) past (text_at_lem t k i fit h b)

pub labels_are_bytes : Laws.LabelsAreBytes
labels_are_bytes t i whole fit = go (dec_lt i (length t))
  where
    k : ℕ
    k = i / label_size

    -- byte j of entry k
    byte : k < label_count t → (j : ℕ) → j < label_size → get_or t (k * label_size + j) 0 < 256
    byte h zero b =
        let e : k * label_size + 0 ≡ k * label_size = omega arith in
        rw e (omega (arith, (is_in_range t fit k h).0))
    byte h (suc zero) b = omega (arith, (is_in_range t fit k h).2)
    byte h (suc (suc j)) b =
        let e : k * label_size + suc (suc j) ≡ k * label_size + 2 + j = omega arith in
        rw e (small (dec_lt j (label_length t k)))
      where
        small : Dec (j < label_length t k) → text_byte t k j < 256
        small (yes c) = omega (arith, (label_text_fits t k j fit h c).1)
        small (no c) = omega (arith, label_filler t k j fit h (omega arith) (omega arith))

    go : Dec (i < length t) → get_or t i 0 < 256
    go (yes h) =
        let here : k < label_count t = omega arith in
        let there : k * label_size + i % label_size ≡ i = omega arith in
        rw there at (byte here (i % label_size) (omega arith))
    go (no h) = rw (get_or-eq_default t 0 {n = i} (omega arith)) (omega arith)

pub label_length_fits : Claims.LabelLengthFits
label_length_fits t k fit h = let r = is_in_range t fit k h in (r.1, r.2)

-- ---- the single block of labels
-- what ascends has its numbers in their order
order : (place : ℕ → ℕ) (m k l : ℕ) → Ascends place m → k < m → place k < place l → k < l
order place m k l up b h = go (dec_lt k l) (ℕ_discrete k l)
  where
    go : Dec (k < l) → Dec (k ≡ l) → k < l
    go (yes c) d = c
    go (no c) (yes e) = absurd (omega (arith, ap place e))
    go (no c) (no n) = absurd (omega (arith, up l k (omega arith) b))

-- the entry of u that is of the same area as entry k of t
abbrev twin : (t u : List ℕ) → ℕ → ℕ
twin t u k = label_index u (label_area t k)

-- two blocks, the second with every text of the first
module _ (t u : List ℕ) (p : LawfulBlock t) (q : LawfulBlock u) (same : (a : ℕ) → label_of t a ≡ label_of u a) where
  entry_text_lem : (k : ℕ) → k < label_count t → label_of t (label_area t k) ≡ entry_text t k
  entry_text_lem k h =
      let e : label_index t (label_area t k) ≡ k = label_found t k p.ascending h in
      text_there t (label_area t k) (rw e h) ∙ ap (entry_text t) e

  -- a text has a byte, so u has an entry of that area
  twin_there : (k : ℕ) → k < label_count t → twin t u k < label_count u
  twin_there k h = go (dec_lt (twin t u k) (label_count u))
    where
      go : Dec (twin t u k < label_count u) → twin t u k < label_count u
      go (yes b) = b
      go (no b) =
          let none = sym (entry_text_lem k h) ∙ same (label_area t k) ∙ text_none u (label_area t k) (omega arith) in
          let empty : length (entry_text t k) ≡ 0 = ap length none in
          absurd (omega (arith, entry_long t k p.is_in_range h, (is_in_range t p.is_in_range k h).1))

  twin_area : (k : ℕ) → k < label_count t → label_area u (twin t u k) ≡ label_area t k
  twin_area k h = label_there u (label_area t k) (twin_there k h)

  twins_ascend : Ascends (twin t u) (label_count t)
  twins_ascend k l h b =
      let first : k < label_count t = omega arith in
      order (label_area u) (label_count u) (twin t u k) (twin t u l) (ascends u q.ascending) (twin_there k first)
      (rw (twin_area k first, twin_area l b) (ascends t p.ascending k l h b))

  twin_after : (k : ℕ) → k < label_count t → k ≤ twin t u k
  twin_after k h = at_least (twin t u) (label_count t) twins_ascend k h

  no_more : label_count t ≤ label_count u
  no_more = at_most (twin t u) (label_count t) (label_count u) twins_ascend twin_there

-- two blocks with the same texts
module _ (t u : List ℕ) (p : LawfulBlock t) (q : LawfulBlock u) (same : (a : ℕ) → label_of t a ≡ label_of u a) where
  back : (a : ℕ) → label_of u a ≡ label_of t a
  back a = sym (same a)

  as_long : length t ≡ length u
  as_long = omega (arith, no_more t u p q same, no_more u t q p back, p.whole, q.whole)

  -- entry k
  module _ (k : ℕ) (h : k < label_count t) where
    there : twin t u k < label_count u
    there = twin_there t u p q same k h

    -- an entry's twin has the entry for its own, and neither comes before the other
    own_twin : twin t u k ≡ k
    own_twin =
        let area : label_area u (twin t u k) ≡ label_area t k = twin_area t u p q same k h in
        let twice : twin u t (twin t u k) ≡ k = ap (label_index t) area ∙ label_found t k p.ascending h in
        omega (arith, twin_after t u p q same k h, twin_after u t q p back (twin t u k) there)

    here : k < label_count u
    here = rw own_twin at there

    same_area : label_area t k ≡ label_area u k
    same_area = sym (twin_area t u p q same k h) ∙ ap (label_area u) own_twin

    same_text : entry_text t k ≡ entry_text u k
    same_text =
        sym (entry_text_lem t u p q same k h)
        ∙ same (label_area t k)
        ∙ text_there u (label_area t k) there
        ∙ ap (entry_text u) own_twin

    same_length : label_length t k ≡ label_length u k
    same_length = sym (entry_long t k p.is_in_range h) ∙ ap length same_text ∙ entry_long u k q.is_in_range here

    -- a byte of the text or of the filler
    same_byte : (i : ℕ) → i < text_size → text_byte t k i ≡ text_byte u k i
    same_byte i b = go (dec_lt i (label_length t k))
      where
        go : Dec (i < label_length t k) → text_byte t k i ≡ text_byte u k i
        go (yes c) =
            sym (entry_byte t k i c)
            ∙ ap (λ (l : List ℕ). get_or l i 0) same_text
            ∙ entry_byte u k i (rw same_length at c)
        go (no c) =
            label_filler t k i p.is_in_range h (omega arith) b
            ∙ sym (label_filler u k i q.is_in_range here (omega (arith, same_length)) b)

    -- a byte of the entry
    entry_at : (j : ℕ) → j < label_size → get_or t (k * label_size + j) 0 ≡ get_or u (k * label_size + j) 0
    entry_at zero b = let e : k * label_size + 0 ≡ k * label_size = omega arith in rw e same_area
    entry_at (suc zero) b = same_length
    entry_at (suc (suc i)) b =
        let e : k * label_size + suc (suc i) ≡ k * label_size + 2 + i = omega arith in
        rw e (same_byte i (omega arith))

pub one_block : Claims.OneBlock
one_block t u p q same = ext_get_or 0 t u (as_long t u p q same) byte
  where
    byte : (i : ℕ) → i < length t → get_or t i 0 ≡ get_or u i 0
    byte i h =
        let there : i / label_size * label_size + i % label_size ≡ i = omega arith in
        rw there at (entry_at t u p q same (i / label_size) (omega (arith, p.whole)) (i % label_size) (omega arith))
