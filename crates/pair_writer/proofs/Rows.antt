-- The pairs of a row: laid one by one, the lowest place first; as a part of the table; and how many there are.
--     Laid                              what a loop over the places of a row has laid
--     laid_none, laid_more, laid_all    before the first place, one place more, after the last
--     next_row                          the table with one row more
--     row_count                         how many pairs that row adds
-- Assumes nothing.
use Prim.Native.Nat.{ℕ, zero, suc, ◌+◌, ◌*◌, ◌/◌, ◌%◌, ◌^◌, ◌≤◌, ◌<◌}
use mathlib.Core.Path.{◌≡◌, refl, sym, ap, ap₂, ◌∙◌}
use mathlib.Core.Bool.{Bool, true, false, cond, true≢false}
use mathlib.Core.List.{List, [], ◌∷◌, ◌++◌, append_assoc, append-nil}
use native.Mathlib.Omega.{arith}
use native.Mathlib.Decide.{dec_lt, ℕ_discrete}
use borrow.Author.Tests.{eq-eqb, ne_eqb}
use lib.Dec.{eqb}
use lib.ListN.{length, get_or, length-append}
use Rattle.bits.specs.Bits.{bit, places, size_of, size, lowest, without_lowest}
use Rattle.bits.specs.Rows.{Rows, cells_of}
use Rattle.bits.proofs.Laws.{bit_up, bit_zero, lowest_is_right, lowest_inside, without_lowest_bit, without_lowest_fits}
use Rattle.state.specs.Cells.{width, pair}
use Rattle.relations.proofs.Laws.{pair_bit}
use Rattle.output.proofs.Placing.{Placed, placed_none, placed_3}
use Rattle.pair_tables.specs.Pairs.{pair_count, table_below, table_of}
use Rattle.pair_writer.specs.Row.{row_below, row_table}

-- ---- the pairs of one row
module _ (i row : ℕ) where
  -- where the row has no place from m to n, there is no pair
  none_between : (m n : ℕ) → m ≤ n → ((j : ℕ) → m ≤ j → j < n → bit row j ≡ false) → row_below n i row ≡ row_below m i row
  unfolding row_below
  none_between m zero h none = let same : 0 ≡ m = omega arith in ap (λ (k : ℕ). row_below k i row) same
  none_between m (suc n) h none = go (dec_lt n m) (none_between m n)
    where
      go : Dec (n < m) → (m ≤ n → ((j : ℕ) → m ≤ j → j < n → bit row j ≡ false) → row_below n i row ≡ row_below m i row)
          → row_below (suc n) i row ≡ row_below m i row
      go (yes l) shorter = let same : suc n ≡ m = omega arith in ap (λ (k : ℕ). row_below k i row) same
      go (no l) shorter =
          ap (λ (b : Bool). row_below n i row ++ cond b (i ∷ n ∷ []) []) (none n (omega arith) (omega arith))
          ∙ append-nil (row_below n i row) ∙ shorter (omega arith) (λ j a b. none j a (omega arith))

  -- a place of the row is one pair more
  one_more : (n : ℕ) → bit row n ≡ true → row_below (suc n) i row ≡ row_below n i row ++ (i ∷ []) ++ (n ∷ [])
  unfolding row_below
  one_more n e = ap (λ (b : Bool). row_below n i row ++ cond b (i ∷ n ∷ []) []) e ∙ sym (append_assoc (row_below n i row) (i ∷ []) (n ∷ []))

  -- What a loop has laid, with the places of `rest` still to come: the pairs of the places below `done`. From there on
  -- `rest` is the row.
  pub record Laid (at : ℕ) (before : List ℕ) (rest end : ℕ) (after : List ℕ) : Type 0 where
    pub known : length before < 2 ^ 64
    pub left : rest < 2 ^ places
    pub done : ℕ
    pub within : done ≤ places
    pub gone : (j : ℕ) → j < done → bit rest j ≡ false
    pub kept : (j : ℕ) → done ≤ j → j < places → bit rest j ≡ bit row j
    pub placed : Placed (row_below done i row) at before end after

  pub laid_none : (at : ℕ) (before : List ℕ) → at < 2 ^ 64 → length before < 2 ^ 64 → row < 2 ^ places → Laid at before row at before
  unfolding row_below
  laid_none at before fits known left =
      record {
        known = known;
        left = left;
        done = 0;
        within = omega arith;
        gone = λ j h. absurd (omega arith);
        kept = λ j a b. refl;
        placed = placed_none at before fits;
      }

  module _ (at : ℕ) (before : List ℕ) (rest end : ℕ) (b : List ℕ) (w : Laid at before rest end b) where
    pub laid_more : (rest ≡ 0 → ⊥) → (m : ℕ) (c : List ℕ) (behind : ℕ) (d : List ℕ) → Placed (i ∷ []) end b m c
        → Placed (lowest rest ∷ []) m c behind d → Laid at before (without_lowest rest) behind d
    laid_more some m c behind d p q =
        record {
          known = w.known;
          left = without_lowest_fits rest;
          done = suc low;
          within = inside;
          gone = λ j h. without_lowest_bit rest j (omega (arith, inside)) ∙ none_yet j h (ℕ_discrete j low);
          kept = λ j h l.
              without_lowest_bit rest j l
              ∙ ap (λ (t : Bool). cond t false (bit rest j)) (ne_eqb j low (λ (e : j ≡ low). omega arith))
              ∙ w.kept j (omega (arith, from_done)) l;
          placed = rw pairs (placed_3 (row_below w.done i row) (i ∷ []) (low ∷ []) at before w.known end b m c behind d w.placed p q);
        }
      where
        low : ℕ
        low = lowest rest

        inside : low < places
        inside = lowest_inside rest w.left some

        there : bit rest low ≡ true
        there = (lowest_is_right rest).is_set inside

        from_done : w.done ≤ low
        from_done = go (dec_lt low w.done)
          where
            go : Dec (low < w.done) → w.done ≤ low
            go (yes h) = absurd (true≢false (sym there ∙ w.gone low h))
            go (no h) = omega arith

        none_yet : (j : ℕ) → j < suc low → Dec (j ≡ low) → cond (eqb j low) false (bit rest j) ≡ false
        none_yet j h (yes e) = ap (λ (t : Bool). cond t false (bit rest j)) (eq-eqb j low e)
        none_yet j h (no ne) =
            ap (λ (t : Bool). cond t false (bit rest j)) (ne_eqb j low ne) ∙ (lowest_is_right rest).none_lower j (omega arith)

        pairs : row_below (suc low) i row ≡ row_below w.done i row ++ (i ∷ []) ++ (low ∷ [])
        pairs =
            one_more low (sym (w.kept low from_done inside) ∙ there)
            ∙ ap (λ (t : List ℕ). t ++ (i ∷ []) ++ (low ∷ []))
            (none_between w.done low from_done (λ j a l. sym (w.kept j a (omega (arith, inside))) ∙ (lowest_is_right rest).none_lower j l))

    pub laid_all : rest ≡ 0 → Placed (row_table i row) at before end b
    laid_all none =
        rw (none_between w.done places w.within (λ j a l. sym (w.kept j a l) ∙ ap (λ (n : ℕ). bit n j) none ∙ bit_zero j))
        w.placed

-- ---- a row as a part of the table
module _ (related : ℕ → ℕ → Bool) (i row : ℕ) (same : (j : ℕ) → j < places → related i j ≡ bit row j) where
  row_part : (j : ℕ) → j ≤ places → table_below (i * width + j) related ≡ table_below (i * width) related ++ row_below j i row
  unfolding table_below row_below
  row_part zero h =
      let e : i * width + 0 ≡ i * width = omega arith in
      ap (λ (n : ℕ). table_below n related) e ∙ sym (append-nil (table_below (i * width) related))
  row_part (suc j) h =
      let e : i * width + suc j ≡ suc (i * width + j) = omega arith in
      let first : (i * width + j) / width ≡ i = omega arith in
      let second : (i * width + j) % width ≡ j = omega arith in
      ap (λ (n : ℕ). table_below n related) e
      ∙ ap₂ (λ (m n : ℕ). table_below (i * width + j) related ++ cond (related m n) (m ∷ n ∷ []) []) first second
      ∙ ap₂ (λ (t : List ℕ) (b : Bool). t ++ cond b (i ∷ j ∷ []) []) (row_part j (omega arith)) (same j h)
      ∙ append_assoc (table_below (i * width) related) (row_below j i row) (cond (bit row j) (i ∷ j ∷ []) [])

-- the table with the row of i is that of the rows below it and the pairs of row i
pub next_row : (rows : Rows) (i row : ℕ) → row ≡ get_or rows i 0
    → table_of (i + 1) (pair (cells_of rows)) ≡ table_of i (pair (cells_of rows)) ++ row_table i row
next_row rows i row e =
    let all : (i + 1) * width ≡ i * width + places = omega arith in
    ap (λ (n : ℕ). table_below n (pair (cells_of rows))) all
    ∙ row_part (pair (cells_of rows)) i row (λ j h. pair_bit rows i j h ∙ ap (λ (n : ℕ). bit n j) (sym e)) places (omega arith)

-- ---- how many pairs there are
-- the last of the places comes to those below it
size_last : (w n : ℕ) → size_of (suc w) n ≡ size_of w n + cond (bit n w) 1 0
unfolding size_of
size_last zero n = omega arith
size_last (suc w) n =
    ap (λ (s : ℕ). cond (bit n 0) 1 0 + s) (size_last w (n / 2) ∙ ap (λ (b : Bool). size_of w (n / 2) + cond b 1 0) (sym (bit_up n w)))
    ∙ omega arith

row_length : (w i row : ℕ) → length (row_below w i row) ≡ 2 * size_of w row
unfolding row_below
row_length zero i row = unfold size_of in refl
row_length (suc w) i row = go (bit row w) refl (row_length w i row)
  where
    go : (b : Bool) → bit row w ≡ b → length (row_below w i row) ≡ 2 * size_of w row → length (row_below (suc w) i row) ≡ 2 * size_of (suc w) row
    go true e shorter = rw (size_last w row, e) (length-append (row_below w i row) (i ∷ w ∷ []) ∙ omega arith)
    go false e shorter = rw (size_last w row, e) (length-append (row_below w i row) [] ∙ omega arith)

pub row_count : (rows : Rows) (i row : ℕ) → row ≡ get_or rows i 0
    → pair_count (table_of (i + 1) (pair (cells_of rows))) ≡ pair_count (table_of i (pair (cells_of rows))) + size row
unfolding size
row_count rows i row e =
    let long : length (table_of (i + 1) (pair (cells_of rows))) ≡ length (table_of i (pair (cells_of rows))) + length (row_table i row) =
    ap length (next_row rows i row e) ∙ length-append (table_of i (pair (cells_of rows))) (row_table i row) in
    omega (arith, long, row_length places i row)
