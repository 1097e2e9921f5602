-- Five exchanges turn a relation between areas round. What one does to the bit at place j of row i is shown for any width and mask; that five of
-- them lead from each (i, j) to (j, i) is computed.
-- Assumes nothing.
use Prim.Native.Nat.{ℕ, ◌+◌, ◌-◌, ◌*◌, ◌/◌, ◌%◌, ◌^◌, ◌<◌}
use mathlib.Core.Path.{◌≡◌, refl, sym, ap, ap₂, ◌∙◌}
use mathlib.Core.Bool.{Bool, true, false, ◌&&◌, ◌||◌, not, cond, beq, and-true}
use mathlib.Core.List.{List, [], ◌∷◌}
use native.Mathlib.Omega.{arith}
use native.Mathlib.Nat.{mod-lt}
use borrow.Author.Tests.{ltb-true, eqb-true}
use lib.Dec.{T, leb, ltb, eqb}
use lib.Pow.{pow_pos}
use lib.ListN.{length, get_or}
use lib.Bits.{bit_and, bit_or, and_le_l, and_le_r, or_lt}
use Rattle.bits.specs.Bits.{bit, word}
use Rattle.bits.specs.Rows.{Rows, cells_of}
use Rattle.bits.proofs.Laws.{bit_and_lem, bit_or_lem, bit_not, bit_mod, bit_shr, bit_shl_at, word_bit, word_is, same_word, place}
use Rattle.bits.proofs.Cells.{cells_length, cell_of}
use Rattle.state.specs.Below.{each_below}
use Rattle.state.specs.Cells.{width}
use Rattle.state.proofs.Tabulate.{length_tabulate, get_or_tabulate, tabulate_is}
use Rattle.state.proofs.Below.{each_at}
use Rattle.state.proofs.Bools.{and_left, and_right, is_true}
use Rattle.relations.specs.Relations.{transpose_cell, transpose}
use Rattle.relations.specs.Turning.{mask_at, is_mask, even_bit, odd_bit, from_row, from_place, exchanged_row, exchanged}
use Rattle.relations.proofs.Laws.{pair_bit}

beq_same : (a b : Bool) → T (beq a b) → a ≡ b
beq_same true true t = refl
beq_same true false t = absurd t
beq_same false true t = absurd t
beq_same false false t = refl

module _ (block mask : ℕ) (ok : T (is_mask block mask)) where
  at : (j : ℕ) → j < 32 → T (mask_at block mask j)
  unfolding is_mask
  at j h = each_at (mask_at block mask) 32 ok j h

  mask_is : (j : ℕ) → j < 32 → bit mask j ≡ not (leb block j && bit mask (j - block))
  unfolding mask_at
  mask_is j h = beq_same _ _ (at j h)

  -- ---- one row
  mixed : (e l h t : Bool) → ((h && not (e && l)) || (e && (t && l))) ≡ cond (not (e && l)) h t
  mixed true true true t = and-true t
  mixed true true false t = and-true t
  mixed true false true t = refl
  mixed true false false true = refl
  mixed true false false false = refl
  mixed false l true t = refl
  mixed false l false t = refl

  pub even_is : (here there : ℕ) → here < 2 ^ 32
      → bit_or (bit_and here mask) ((bit_and there mask * 2 ^ block) % 2 ^ 32) ≡ word 32 (even_bit block mask here there)
  unfolding even_bit
  even_is here there hh =
      word_is 32 _ (even_bit block mask here there)
      (or_lt 32 (bit_and here mask) ((bit_and there mask * 2 ^ block) % 2 ^ 32) (omega (arith, and_le_l here mask)) (mod-lt _ (pow_pos 32)))
      (λ k h.
      bit_or_lem _ _ k
      ∙ ap₂ ◌||◌ (bit_and_lem here mask k ∙ ap (λ (b : Bool). bit here k && b) (mask_is k h))
      (bit_mod 32 _ k h ∙ bit_shl_at (bit_and there mask) block k ∙ ap (λ (b : Bool). leb block k && b) (bit_and_lem there mask (k - block)))
      ∙ mixed (leb block k) (bit mask (k - block)) (bit here k) (bit there (k - block))
      ∙ sym (ap (λ (b : Bool). cond b (bit here k) (bit there (k - block))) (mask_is k h)))

pub odd_is : (block mask here there : ℕ) → here < 2 ^ 32 → mask < 2 ^ 32
    → bit_or (bit_and here ((2 ^ 32 - 1) - mask)) (bit_and (there / 2 ^ block) mask) ≡ word 32 (odd_bit block mask here there)
unfolding odd_bit
odd_is block mask here there hh hl =
    word_is 32 _ (odd_bit block mask here there)
    (or_lt 32 (bit_and here ((2 ^ 32 - 1) - mask)) (bit_and (there / 2 ^ block) mask)
    (omega (arith, and_le_l here ((2 ^ 32 - 1) - mask))) (omega (arith, and_le_r (there / 2 ^ block) mask)))
    (λ k h.
    bit_or_lem _ _ k
    ∙ ap₂ ◌||◌ (bit_and_lem here _ k ∙ ap (λ (b : Bool). bit here k && b) (bit_not 32 mask k hl h))
    (bit_and_lem _ mask k ∙ ap (λ (b : Bool). b && bit mask k) (bit_shr there block k))
    ∙ place (bit here k) (bit mask k) (bit there (block + k)))

-- ---- the rows of one exchange
module _ (block mask : ℕ) (rows : Rows) where
  pub even_row : (k : ℕ) → word 32 (even_bit block mask (get_or rows k 0) (get_or rows (k + 16) 0)) ≡ exchanged_row block mask rows (2 * k)
  unfolding exchanged_row even_bit from_row from_place
  even_row k =
      let q : 2 * k / 2 ≡ k = omega arith in
      let r : 2 * k % 2 ≡ 0 = omega arith in
      rw (q, r) (same_word 32 _ _ (λ j h. go j (bit mask j) refl))
    where
      go : (j : ℕ) (b : Bool) → bit mask j ≡ b
          → cond (bit mask j) (bit (get_or rows k 0) j) (bit (get_or rows (k + 16) 0) (j - block))
          ≡ bit (get_or rows (cond (bit mask j) k (k + 16)) 0) (cond (bit mask j) j (j - block))
      go j true e = rw e refl
      go j false e = rw e refl

  pub odd_row : (k : ℕ) → word 32 (odd_bit block mask (get_or rows (k + 16) 0) (get_or rows k 0)) ≡ exchanged_row block mask rows (2 * k + 1)
  unfolding exchanged_row odd_bit from_row from_place
  odd_row k =
      let q : (2 * k + 1) / 2 ≡ k = omega arith in
      let r : (2 * k + 1) % 2 ≡ 1 = omega arith in
      rw (q, r) (same_word 32 _ _ (λ j h. go j (bit mask j) refl))
    where
      go : (j : ℕ) (b : Bool) → bit mask j ≡ b
          → cond (bit mask j) (bit (get_or rows k 0) (block + j)) (bit (get_or rows (k + 16) 0) j)
          ≡ bit (get_or rows (cond (bit mask j) k (k + 16)) 0) (cond (bit mask j) (block + j) j)
      go j true e = rw e refl
      go j false e = rw e refl

-- ---- several exchanges, the last first
record Exchange : Type 0 where
  wide : ℕ
  mask : ℕ

exchanges : List Exchange → Rows → Rows
exchanges [] rows = rows
exchanges (x ∷ xs) rows = exchanged x.wide x.mask (exchanges xs rows)

-- they lead from place j of row i to place n of row m, and stay within 32
leads : List Exchange → (i j m n : ℕ) → Bool
leads [] i j m n = eqb i m && eqb j n
leads (x ∷ xs) i j m n = (ltb i 32 && ltb j 32) && leads xs (from_row x.mask i j) (from_place x.wide x.mask i j) m n

one_bit : (block mask : ℕ) (rows : Rows) (i j : ℕ) → i < 32 → j < 32
    → bit (get_or (exchanged block mask rows) i 0) j ≡ bit (get_or rows (from_row mask i j) 0) (from_place block mask i j)
unfolding exchanged exchanged_row
one_bit block mask rows i j hi hj = ap (λ (n : ℕ). bit n j) (get_or_tabulate _ 32 i 0 hi) ∙ word_bit 32 _ j hj

all_bits : (xs : List Exchange) (rows : Rows) (i j m n : ℕ) → T (leads xs i j m n)
    → bit (get_or (exchanges xs rows) i 0) j ≡ bit (get_or rows m 0) n
unfolding exchanges leads
all_bits [] rows i j m n t =
    ap₂ (λ (a b : ℕ). bit (get_or rows a 0) b)
    (eqb-true i m (is_true (eqb i m) (and_left (eqb i m) (eqb j n) t)))
    (eqb-true j n (is_true (eqb j n) (and_right (eqb i m) (eqb j n) t)))
all_bits (x ∷ xs) rows i j m n t =
    let inside = and_left (ltb i 32 && ltb j 32) _ t in
    one_bit x.wide x.mask (exchanges xs rows) i j
    (ltb-true i 32 (is_true (ltb i 32) (and_left (ltb i 32) (ltb j 32) inside)))
    (ltb-true j 32 (is_true (ltb j 32) (and_right (ltb i 32) (ltb j 32) inside)))
    ∙ all_bits xs rows _ _ m n (and_right (ltb i 32 && ltb j 32) _ t)

five : List Exchange
five =
    record { wide = 1; mask = 0x5555_5555 }
    ∷ record { wide = 2; mask = 0x3333_3333 }
    ∷ record { wide = 4; mask = 0x0f0f_0f0f }
    ∷ record { wide = 8; mask = 0x00ff_00ff }
    ∷ record { wide = 16; mask = 0x0000_ffff }
    ∷ []

across : ℕ → ℕ → Bool
across i j = leads five i j j i

all_across : T (each_below 32 (λ i. each_below 32 (across i)))
unfolding each_below across leads five from_row from_place bit
all_across = tt

pub exchanged_length : (block mask : ℕ) (rows : Rows) → length (exchanged block mask rows) ≡ 32
unfolding exchanged
exchanged_length block mask rows = length_tabulate _ 32

turned : (rows : Rows) → cells_of (exchanges five rows) ≡ transpose (cells_of rows)
unfolding transpose transpose_cell exchanges five across
turned rows =
    tabulate_is (transpose_cell (cells_of rows)) (width * width) false (cells_of (exchanges five rows))
    (cells_length (exchanges five rows) ∙ ap (λ (n : ℕ). n * 32) (exchanged_length 1 0x5555_5555 _))
    (λ k h.
    let i : k / 32 < 32 = omega arith in
    let j : k % 32 < 32 = omega arith in
    cell_of (exchanges five rows) k
    ∙ all_bits five rows (k / 32) (k % 32) (k % 32) (k / 32)
    (each_at (across (k / 32)) 32 (each_at (λ m. each_below 32 (across m)) 32 all_across (k / 32) i) (k % 32) j)
    ∙ sym (pair_bit rows (k % 32) (k / 32) i))

pub turned_by : (rows a b c d e : Rows) → a ≡ exchanged 16 0x0000_ffff rows → b ≡ exchanged 8 0x00ff_00ff a
    → c ≡ exchanged 4 0x0f0f_0f0f b → d ≡ exchanged 2 0x3333_3333 c → e ≡ exchanged 1 0x5555_5555 d
    → cells_of e ≡ transpose (cells_of rows)
unfolding exchanges five
turned_by rows a b c d e ea eb ec ed ee = rw (ee, ed, ec, eb, ea) (turned rows)

-- ---- the five masks
pub mask_16 : T (is_mask 16 0x0000_ffff)
unfolding is_mask mask_at each_below bit
mask_16 = tt

pub mask_8 : T (is_mask 8 0x00ff_00ff)
unfolding is_mask mask_at each_below bit
mask_8 = tt

pub mask_4 : T (is_mask 4 0x0f0f_0f0f)
unfolding is_mask mask_at each_below bit
mask_4 = tt

pub mask_2 : T (is_mask 2 0x3333_3333)
unfolding is_mask mask_at each_below bit
mask_2 = tt

pub mask_1 : T (is_mask 1 0x5555_5555)
unfolding is_mask mask_at each_below bit
mask_1 = tt
