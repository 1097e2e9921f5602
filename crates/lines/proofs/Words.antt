-- The number of a word.
--     decimal_lacks                        no byte below 48 is among those of a number
--     number_is, number_of, number_none    the word is the bytes of a number 0 to 255, or of none
--     number_exactly                       the claim
--     number_lacks                         a word that stands for a number lacks every byte below 48
--     number_empty, number_one             a word of no byte, and of one
--     number_more, none_more               a word with one byte more, and a word that begins with one of no number
--     read_first, first_none, read_next, next_none, read_last     a word read byte by byte
-- Assumes nothing.
use Prim.Native.Nat.{ℕ, suc, ◌+◌, ◌-◌, ◌*◌, ◌/◌, ◌%◌, ◌≤◌, ◌<◌}
use mathlib.Core.Path.{◌≡◌, refl, sym, ap, ap₂, subst, ◌∙◌}
use mathlib.Core.Bool.{Bool, true, false, cond}
use mathlib.Core.List.{List, [], ◌∷◌, ◌++◌, head-eq_of_cons-eq, append-nil, append_assoc}
use native.Mathlib.Numerals.{add-one}
use native.Mathlib.Omega.{arith}
use native.Mathlib.Decide.{ℕ_discrete, dec_lt}
use borrow.Author.Tests.{lt-ltb, le-ltb, eq-eqb, ne_eqb}
use lib.Dec.{T, eqb, eqb→eq, eqb_refl}
use lib.ListN.{length, get_or, take, drop, length-append}
use lib.Seq.{take-length, take-suc, take_at, take-append_seam, get_or_at, get_or-append_seam}
use Rattle.state.proofs.Bools.{and_both, and_left, and_right, is_true, is_false, holds}
use Rattle.std.proofs.Common.{Option, Some, None, option_and_then}
use Rattle.std.proofs.lemmas.Option.{none-some, same_Some}
use Rattle.std.proofs.lemmas.Bool.{eqb-false}
use Rattle.std.proofs.lemmas.List.{take-append-drop}
use Rattle.state.specs.Below.{first_below}
use Rattle.state.proofs.Below.{first_met_lem, first_within, found_is, found_none}
use Rattle.output.specs.Decimal.{digit, decimal}
use Rattle.output.proofs.Decimal.{decimal_one, decimal_more, by_tenths, longer, decimal_some, decimal_long, decimal_injective}
use Rattle.lines.specs.Words.{same, is_number, no_number, word_number}
use Rattle.lines.specs.Digits.{with_digit, extended}
use Rattle.lines.specs.Lines.{index}
use Rattle.lines.specs.Claims.{NumberExactly}
use Rattle.lines.proofs.Parts.{index_past}

-- ---- no byte below 48 is among those of a number
pub decimal_lacks : (at : ℕ) → at < 48 → (n : ℕ) → index at (decimal n) ≡ length (decimal n)
unfolding index
decimal_lacks at b = by_tenths (λ n. index at (decimal n) ≡ length (decimal n)) one more
  where
    last : (d : ℕ) → index at (digit d ∷ []) ≡ 1
    last d = let other : (digit d ≡ at → ⊥) = λ e. omega arith in rw (ne_eqb (digit d) at other) refl

    one : (n : ℕ) → n < 10 → index at (decimal n) ≡ length (decimal n)
    one n h = rw (decimal_one n h) (last n)

    more : (n : ℕ) → 10 ≤ n → index at (decimal (n / 10)) ≡ length (decimal (n / 10)) → index at (decimal n) ≡ length (decimal n)
    more n h t = rw (longer n h, decimal_more n h, index_past at (decimal (n / 10)) (digit (n % 10) ∷ []) t, last (n % 10)) refl

-- ---- the same bytes
same_at : (v w : List ℕ) → T (same v w) → v ≡ w
unfolding same
same_at [] [] t = refl
same_at [] (y ∷ w) t = absurd t
same_at (x ∷ v) [] t = absurd t
same_at (x ∷ v) (y ∷ w) t =
    ap₂ (λ (z : ℕ) (l : List ℕ). z ∷ l) (eqb→eq x y (and_left (eqb x y) (same v w) t)) (same_at v w (and_right (eqb x y) (same v w) t))

same_self : (w : List ℕ) → T (same w w)
unfolding same
same_self [] = tt
same_self (x ∷ w) = and_both (eqb x x) (same w w) (eqb_refl x) (same_self w)

-- ---- the number that a word stands for
some_of : (b : Bool) (k n : ℕ) → cond b None (Some k) ≡ Some n → (b ≡ false) × (k ≡ n)
some_of true k n e = absurd (none-some n e)
some_of false k n e = (refl, same_Some k n e)

module _ (word : List ℕ) where
  pub number_is : (n : ℕ) → n < no_number → word ≡ decimal n → word_number word ≡ Some n
  unfolding word_number
  number_is n h e =
      found_is (is_number word) no_number n h
      (is_true (is_number word n) (subst (λ (v : List ℕ). T (same word v)) e (same_self word))) other
    where
      other : (m : ℕ) → m < n → is_number word m ≡ false
      other m b = is_false (is_number word m) (λ t. let q : m ≡ n = decimal_injective m n (sym (same_at word (decimal m) t) ∙ e) in omega arith)

  pub number_of : (n : ℕ) → word_number word ≡ Some n → (n < no_number) × (word ≡ decimal n)
  unfolding word_number
  number_of n e =
      let k = first_below no_number (is_number word) in
      let found = some_of (eqb k no_number) k n e in
      let other : (k ≡ no_number → ⊥) = eqb-false k no_number found.0 in
      let below : k < no_number = omega (arith, first_within (is_number word) no_number, other) in
      subst (λ (m : ℕ). (m < no_number) × (word ≡ decimal m)) found.1
      (below, same_at word (decimal k) (holds (first_met_lem (is_number word) no_number below)))

  pub number_none : ((n : ℕ) → n < no_number → word ≡ decimal n → ⊥) → word_number word ≡ None
  unfolding word_number
  number_none never = found_none (is_number word) no_number (λ n h. is_false (is_number word n) (λ t. never n h (same_at word (decimal n) t)))

pub number_exactly : NumberExactly
number_exactly word n h = (λ e. (number_of word n e).1, number_is word n h)

pub number_lacks : (word : List ℕ) (n at : ℕ) → at < 48 → word_number word ≡ Some n → index at word ≡ length word
number_lacks word n at b e = subst (λ (v : List ℕ). index at v ≡ length v) (sym (number_of word n e).1) (decimal_lacks at b n)

-- ---- what is read: the number 0 to 255 that is so, if one is
data Read (P : ℕ → Type 0) : Option ℕ → Type 0 where
  is : (k : ℕ) → k < no_number → P k → Read P (Some k)
  none : ((k : ℕ) → k < no_number → P k → ⊥) → Read P None

read_number : (word : List ℕ) {P : ℕ → Type 0} {r : Option ℕ} → ((k : ℕ) → k < no_number → P k → word ≡ decimal k)
    → ((k : ℕ) → k < no_number → word ≡ decimal k → P k) → Read P r → word_number word ≡ r
read_number word to from (is k h p) = number_is word k h (to k h p)
read_number word to from (none never) = number_none word (λ k h e. never k h (from k h e))

-- the number k has the tenth n and the last digit of this byte
record Ends (n byte k : ℕ) : Type 0 where
  tenth : n ≡ k / 10
  last : byte ≡ digit (k % 10)

with_read : (n byte : ℕ) → Read (Ends n byte) (with_digit n byte)
with_read n byte = go (dec_lt byte 48) (dec_lt 57 byte) (dec_lt (n * 10 + (byte - 48)) no_number)
  where
    go : Dec (byte < 48) → Dec (57 < byte) → Dec (n * 10 + (byte - 48) < no_number) → Read (Ends n byte) (with_digit n byte)
    go (yes h) c d = rw (lt-ltb byte 48 h) (none (λ k b e. omega arith))
    go (no h) (yes c) d = rw (le-ltb byte 48 (omega arith), lt-ltb 57 byte c) (none (λ k b e. omega arith))
    go (no h) (no c) (yes d) =
        rw (le-ltb byte 48 (omega arith), le-ltb 57 byte (omega arith), lt-ltb (n * 10 + (byte - 48)) no_number d)
        (is _ d (record { tenth = omega arith; last = omega arith }))
    go (no h) (no c) (no d) =
        rw (le-ltb byte 48 (omega arith), le-ltb 57 byte (omega arith), le-ltb (n * 10 + (byte - 48)) no_number (omega arith))
        (none (λ k b e. omega arith))

-- the same where something stands in front of the byte: the number is not below 10
extended_read : (n byte : ℕ) → Read (λ k. (10 ≤ k) × Ends n byte k) (extended n byte)
extended_read n byte = go (ℕ_discrete n 0) (with_read n byte)
  where
    more : {r : Option ℕ} → 0 < n → Read (Ends n byte) r → Read (λ k. (10 ≤ k) × Ends n byte k) r
    more some (is k h e) = is k h (omega arith, e)
    more some (none never) = none (λ k h e. never k h e.1)

    go : Dec (n ≡ 0) → Read (Ends n byte) (with_digit n byte) → Read (λ k. (10 ≤ k) × Ends n byte k) (extended n byte)
    go (yes e) r = rw (eq-eqb n 0 e) (none (λ k h q. omega arith))
    go (no e) r = rw (ne_eqb n 0 e) (more (omega arith) r)

-- ---- a word read byte by byte
pub number_empty : (word : List ℕ) → length word ≡ 0 → word_number word ≡ None
number_empty word empty = number_none word (λ k h e. omega (arith, ap length e, decimal_some k))

pub number_one : (byte : ℕ) → word_number (byte ∷ []) ≡ with_digit 0 byte
number_one byte = read_number (byte ∷ []) to (λ k h e. from k h e (dec_lt k 10)) (with_read 0 byte)
  where
    to : (k : ℕ) → k < no_number → Ends 0 byte k → byte ∷ [] ≡ decimal k
    to k h e = let q : byte ≡ digit k = omega arith in rw (decimal_one k (omega arith), q) refl

    from : (k : ℕ) → k < no_number → byte ∷ [] ≡ decimal k → Dec (k < 10) → Ends 0 byte k
    from k h e (yes b) =
        let q : byte ≡ digit k = head-eq_of_cons-eq (e ∙ decimal_one k b) in
        record { tenth = omega arith; last = omega arith }
    from k h e (no b) = absurd (omega (arith, ap length e, decimal_long k (omega arith)))

-- two words with a last byte are the same only if they are so without it, and the byte is
last_same : (v w : List ℕ) (x y : ℕ) → v ++ (x ∷ []) ≡ w ++ (y ∷ []) → (v ≡ w) × (x ≡ y)
last_same v w x y e =
    let long : length v ≡ length w = omega (arith, length-append v (x ∷ []), length-append w (y ∷ []), ap length e) in (
      sym (take_at v (x ∷ []) (length w) long) ∙ ap (take (length w)) e ∙ take-append_seam w (y ∷ []),
      sym (get_or_at v x [] 0 (length w) long) ∙ ap (λ (l : List ℕ). get_or l (length w) 0) e ∙ get_or-append_seam w y [] 0,
    )

more_read : (word : List ℕ) (byte : ℕ) → 0 < length word → (r : Option ℕ) → word_number word ≡ r
    → Read (λ k. (10 ≤ k) × (word ≡ decimal (k / 10)) × (byte ≡ digit (k % 10))) (option_and_then (λ k. extended k byte) r)
more_read word byte some None e = none (λ k h p. none-some (k / 10) (sym e ∙ number_is word (k / 10) (omega arith) p.1))
more_read word byte some (Some n) e = go (extended_read n byte)
  where
    go : {r : Option ℕ} → Read (λ k. (10 ≤ k) × Ends n byte k) r → Read (λ k. (10 ≤ k) × (word ≡ decimal (k / 10)) × (byte ≡ digit (k % 10))) r
    go (is k h p) = is k h (p.0, (number_of word n e).1 ∙ ap decimal p.1.tenth, p.1.last)
    go (none never) = none (λ k h p. never k h (p.0, record { tenth = same_Some n (k / 10) (sym e ∙ number_is word (k / 10) (omega arith) p.1); last = p.2 }))

pub number_more : (word : List ℕ) (byte : ℕ) → 0 < length word
    → word_number (word ++ (byte ∷ [])) ≡ option_and_then (λ k. extended k byte) (word_number word)
number_more word byte some = read_number (word ++ (byte ∷ [])) to (λ k h e. from k h e (dec_lt k 10)) (more_read word byte some (word_number word) refl)
  where
    to : (k : ℕ) → k < no_number → (10 ≤ k) × (word ≡ decimal (k / 10)) × (byte ≡ digit (k % 10)) → word ++ (byte ∷ []) ≡ decimal k
    to k h e = ap₂ (λ (v : List ℕ) (x : ℕ). v ++ (x ∷ [])) e.1 e.2 ∙ sym (decimal_more k e.0)

    from : (k : ℕ) → k < no_number → word ++ (byte ∷ []) ≡ decimal k → Dec (k < 10) → (10 ≤ k) × (word ≡ decimal (k / 10)) × (byte ≡ digit (k % 10))
    from k h e (yes b) = absurd (omega (arith, length-append word (byte ∷ []), ap length (e ∙ decimal_one k b)))
    from k h e (no b) =
        let q = last_same word (decimal (k / 10)) byte (digit (k % 10)) (e ∙ decimal_more k (omega arith)) in
        (omega arith, q.0, q.1)

-- what begins with bytes that are no number is none
pub none_more : (word rest : List ℕ) → 0 < length word → word_number word ≡ None → word_number (word ++ rest) ≡ None
none_more word [] some e = ap word_number (append-nil word) ∙ e
none_more word (byte ∷ rest) some e =
    let longer : 0 < length (word ++ (byte ∷ [])) = omega (arith, length-append word (byte ∷ [])) in
    ap word_number (sym (append_assoc word (byte ∷ []) rest))
    ∙ none_more (word ++ (byte ∷ [])) rest longer (number_more word byte some ∙ ap (option_and_then (λ k. extended k byte)) e)

-- ---- a word read byte by byte
module _ (word rest : List ℕ) (first : ℕ) (e : word ≡ first ∷ rest) where
  pub read_first : (n : ℕ) → Some n ≡ with_digit 0 first → word_number (take 1 word) ≡ Some n
  read_first n read = ap (λ (w : List ℕ). word_number (take 1 w)) e ∙ number_one first ∙ sym read

  pub first_none : None ≡ with_digit 0 first → None ≡ word_number word
  first_none read = sym (ap word_number e ∙ none_more (first ∷ []) rest (omega arith) (number_one first ∙ sym read))

  module _ (i n : ℕ) (before : word_number (take (suc i) word) ≡ Some n) where
    module _ (h : i < length rest) where
      one_more : take (suc (suc i)) word ≡ take (suc i) word ++ (get_or rest i 0 ∷ [])
      one_more = rw e (ap (first ∷◌) (take-suc rest i 0 h))

      longer_read : word_number (take (suc (suc i)) word) ≡ extended n (get_or rest i 0)
      longer_read =
          let some : 0 < length (take (suc i) word) = rw e (omega arith) in
          ap word_number one_more ∙ number_more (take (suc i) word) (get_or rest i 0) some
          ∙ ap (option_and_then (λ k. extended k (get_or rest i 0))) before

      pub read_next : (m : ℕ) → Some m ≡ extended n (get_or rest i 0) → word_number (take (suc (i + 1)) word) ≡ Some m
      read_next m read = rw (add-one i) (longer_read ∙ sym read)

      pub next_none : None ≡ extended n (get_or rest i 0) → None ≡ word_number word
      next_none read =
          let some : 0 < length (take (suc (suc i)) word) = rw e (omega arith) in
          sym (ap word_number (sym (take-append-drop (suc (suc i)) word)) ∙ none_more (take (suc (suc i)) word) (drop (suc (suc i)) word) some (longer_read ∙ sym read))

    pub read_last : i ≡ length rest → Some n ≡ word_number word
    read_last all =
        let whole : take (suc i) word ≡ word = rw (e, all) (ap (first ∷◌) (take-length rest)) in
        sym before ∙ ap word_number whole
