-- The text of a line as four numbers.
--     numbers_of                the numbers of the parts
--     text_whole, text_first    where no space is left, and where one is: the number in front of it, and those behind
--     too_few, short_2, short_3 a text of one, two or three words is unreadable
--     read                      a text of three spaces: behind the third stands the fourth number, or a text of none
--     readable_exactly          the claim
-- Assumes nothing.
use Prim.Native.Nat.{ℕ, suc, ◌<◌}
use mathlib.Core.Path.{◌≡◌, refl, sym, ap, subst, ◌∙◌}
use mathlib.Core.List.{List, [], ◌∷◌, ◌++◌, map, append_assoc}
use native.Mathlib.Omega.{arith}
use native.Mathlib.Decide.{dec_lt}
use lib.ListN.{length, take, drop}
use Rattle.std.proofs.Common.{Option, Some, None}
use Rattle.std.proofs.lemmas.Option.{none-some, same_Some}
use Rattle.instructions.specs.Instructions.{four_bytes}
use Rattle.instructions.specs.declared.Bytes.{Bytes}
use Rattle.output.specs.Decimal.{decimal}
use Rattle.lines.specs.Words.{no_number, word_number}
use Rattle.lines.specs.Digits.{Lacks}
use Rattle.lines.specs.Lines.{space, parts, line_by, line_of, index}
use Rattle.lines.specs.Claims.{text_of, FourNumbers, ReadableExactly}
use Rattle.lines.proofs.Parts.{index_most, parts_found, parts_whole, parts_word, parts_more, join, join_parts}
use Rattle.lines.proofs.Words.{decimal_lacks, number_is, number_of, number_lacks}

-- ---- the numbers of a text, one by one
abbrev pub numbers_of : List ℕ → List (Option ℕ)
numbers_of xs = map word_number (parts space xs)

pub text_whole : (xs : List ℕ) → Lacks space xs → numbers_of xs ≡ word_number xs ∷ []
text_whole xs lacks = ap (map word_number) (parts_whole space xs lacks)

pub text_first : (xs word rest : List ℕ) → xs ≡ word ++ (space ∷ rest) → Lacks space word
    → numbers_of xs ≡ word_number word ∷ numbers_of rest
text_first xs word rest e lacks = ap numbers_of e ∙ ap (map word_number) (parts_word space word rest lacks)

-- fewer than four are unreadable
few : (n : Option ℕ) → None ≡ line_by (n ∷ [])
few None = refl
few (Some c) = refl

few_2 : (n m : Option ℕ) → None ≡ line_by (n ∷ m ∷ [])
few_2 None m = refl
few_2 (Some c) None = refl
few_2 (Some c) (Some u) = refl

few_3 : (n m k : Option ℕ) → None ≡ line_by (n ∷ m ∷ k ∷ [])
few_3 None m k = refl
few_3 (Some c) None k = refl
few_3 (Some c) (Some u) None = refl
few_3 (Some c) (Some u) (Some a) = refl

pub too_few : (text : List ℕ) → Lacks space text → None ≡ line_of text
unfolding line_of
too_few text none = few (word_number text) ∙ ap line_by (sym (text_whole text none))

too_few_2 : (text : List ℕ) (n m : Option ℕ) → numbers_of text ≡ n ∷ m ∷ [] → None ≡ line_of text
unfolding line_of
too_few_2 text n m e = few_2 n m ∙ ap line_by (sym e)

too_few_3 : (text : List ℕ) (n m k : Option ℕ) → numbers_of text ≡ n ∷ m ∷ k ∷ [] → None ≡ line_of text
unfolding line_of
too_few_3 text n m k e = few_3 n m k ∙ ap line_by (sym e)

too_many : (c u a : ℕ) (n m : Option ℕ) (rest : List (Option ℕ)) → line_by (Some c ∷ Some u ∷ Some a ∷ n ∷ m ∷ rest) ≡ None
too_many c u a None m rest = refl
too_many c u a (Some b) m rest = refl

-- behind the third space: a text that holds one more has no number, and makes one number too many
last_word : (c u a : ℕ) (xs : List ℕ) → line_by (Some c ∷ Some u ∷ Some a ∷ numbers_of xs) ≡ line_by (Some c ∷ Some u ∷ Some a ∷ word_number xs ∷ [])
last_word c u a xs = go (dec_lt (index space xs) (length xs)) (word_number xs) refl
  where
    go : Dec (index space xs < length xs) → (n : Option ℕ) → word_number xs ≡ n
        → line_by (Some c ∷ Some u ∷ Some a ∷ numbers_of xs) ≡ line_by (Some c ∷ Some u ∷ Some a ∷ word_number xs ∷ [])
    go (no h) n e = ap (λ (l : List (Option ℕ)). line_by (Some c ∷ Some u ∷ Some a ∷ l)) (text_whole xs (omega (arith, index_most space xs)))
    go (yes h) (Some n) e = absurd (omega (arith, number_lacks xs n space (omega arith) e))
    go (yes h) None e =
        let more = parts_more space (drop (suc (index space xs)) xs) in
        let numbers : numbers_of xs ≡ word_number (take (index space xs) xs) ∷ word_number more.0 ∷ map word_number more.1 =
        ap (map word_number) (parts_found space xs h ∙ ap (take (index space xs) xs ∷◌) more.2) in
        ap (λ (l : List (Option ℕ)). line_by (Some c ∷ Some u ∷ Some a ∷ l)) numbers
        ∙ too_many c u a (word_number (take (index space xs) xs)) (word_number more.0) (map word_number more.1)
        ∙ ap (λ (n : Option ℕ). line_by (Some c ∷ Some u ∷ Some a ∷ n ∷ [])) (sym e)

-- three spaces, with the words in front of them, and what stands behind the third
module _ (text first others second last_two third fourth : List ℕ) where
  module _ (one : (text ≡ first ++ (space ∷ others)) × Lacks space first) where
    pub short_2 : Lacks space others → None ≡ line_of text
    short_2 none = too_few_2 text _ _ (text_first text first others one.0 one.1 ∙ ap (word_number first ∷◌) (text_whole others none))

    module _ (two : (others ≡ second ++ (space ∷ last_two)) × Lacks space second) where
      pub short_3 : Lacks space last_two → None ≡ line_of text
      short_3 none =
          too_few_3 text _ _ _
          (text_first text first others one.0 one.1
          ∙ ap (word_number first ∷◌) (text_first others second last_two two.0 two.1 ∙ ap (word_number second ∷◌) (text_whole last_two none)))

      module _ (three : (last_two ≡ third ++ (space ∷ fourth)) × Lacks space third) where
        numbers : numbers_of text ≡ word_number first ∷ word_number second ∷ word_number third ∷ numbers_of fourth
        numbers =
            text_first text first others one.0 one.1
            ∙ ap (word_number first ∷◌)
            (text_first others second last_two two.0 two.1 ∙ ap (word_number second ∷◌) (text_first last_two third fourth three.0 three.1))

        -- the line by the numbers that were read
        pub read : (k l m n : Option ℕ) → k ≡ word_number first → l ≡ word_number second → m ≡ word_number third → n ≡ word_number fourth
            → line_by (k ∷ l ∷ m ∷ n ∷ []) ≡ line_of text
        unfolding line_of
        read k l m n d e f g =
            rw (d, e, f, g) (sym (ap line_by numbers ∙ last (word_number first) (word_number second) (word_number third)))
          where
            last : (k l m : Option ℕ) → line_by (k ∷ l ∷ m ∷ numbers_of fourth) ≡ line_by (k ∷ l ∷ m ∷ word_number fourth ∷ [])
            last None l m = refl
            last (Some c) None m = refl
            last (Some c) (Some u) None = refl
            last (Some c) (Some u) (Some a) = last_word c u a fourth

-- ---- the claim
-- the parts joined, in the order in which `◌++◌` groups
grouped : (p q r s : List ℕ) → p ++ space ∷ (q ++ space ∷ (r ++ space ∷ s)) ≡ p ++ space ∷ q ++ space ∷ r ++ space ∷ s
grouped p q r s = simp append_assoc

module _ (c u a b : ℕ) where
  never : None ≡ Some (four_bytes c u a b) → ⊥
  never = none-some (four_bytes c u a b)

  written : (ps : List (List ℕ)) → line_by (map word_number ps) ≡ Some (four_bytes c u a b) → FourNumbers (join space ps) c u a b
  unfolding join
  written [] e = absurd (never e)
  written (p ∷ []) e = absurd (never (few (word_number p) ∙ e))
  written (p ∷ q ∷ []) e = absurd (never (few_2 (word_number p) (word_number q) ∙ e))
  written (p ∷ q ∷ r ∷ []) e = absurd (never (few_3 (word_number p) (word_number q) (word_number r) ∙ e))
  written (p ∷ q ∷ r ∷ s ∷ []) e = go (word_number p) (word_number q) (word_number r) (word_number s) refl refl refl refl e
    where
      go : (k l m n : Option ℕ) → word_number p ≡ k → word_number q ≡ l → word_number r ≡ m → word_number s ≡ n
          → line_by (k ∷ l ∷ m ∷ n ∷ []) ≡ Some (four_bytes c u a b)
          → FourNumbers (p ++ space ∷ (q ++ space ∷ (r ++ space ∷ s))) c u a b
      go None l m n d f g h e = absurd (never e)
      go (Some k) None m n d f g h e = absurd (never e)
      go (Some k) (Some l) None n d f g h e = absurd (never e)
      go (Some k) (Some l) (Some m) None d f g h e = absurd (never e)
      go (Some k) (Some l) (Some m) (Some n) d f g h e =
          let same : four_bytes k l m n ≡ four_bytes c u a b = same_Some _ _ e in
          let code = number_of p c (d ∙ ap (λ (x : Bytes). Some x.code) same) in
          let activator = number_of q u (f ∙ ap (λ (x : Bytes). Some x.activator) same) in
          let first = number_of r a (g ∙ ap (λ (x : Bytes). Some x.a) same) in
          let second = number_of s b (h ∙ ap (λ (x : Bytes). Some x.b) same) in
          record {
            below = record { code = code.0; activator = activator.0; first = first.0; second = second.0 };
            text = rw (code.1, activator.1, first.1, second.1) (grouped (decimal c) (decimal u) (decimal a) (decimal b));
          }
  written (p ∷ q ∷ r ∷ s ∷ more ∷ rest) e = go (word_number p) (word_number q) (word_number r) e
    where
      go : (k l m : Option ℕ) → line_by (k ∷ l ∷ m ∷ word_number s ∷ word_number more ∷ map word_number rest) ≡ Some (four_bytes c u a b)
          → FourNumbers (join space (p ∷ q ∷ r ∷ s ∷ more ∷ rest)) c u a b
      go None l m e = absurd (never e)
      go (Some k) None m e = absurd (never e)
      go (Some k) (Some l) None e = absurd (never e)
      go (Some k) (Some l) (Some m) e = absurd (never (sym (too_many k l m (word_number s) (word_number more) (map word_number rest)) ∙ e))

  four_parts : parts space (text_of c u a b) ≡ decimal c ∷ decimal u ∷ decimal a ∷ decimal b ∷ []
  four_parts =
      rw (← (grouped (decimal c) (decimal u) (decimal a) (decimal b)), parts_word space (decimal c) _ (lacks c), parts_word space (decimal u) _ (lacks u))
      (rw (parts_word space (decimal a) (decimal b) (lacks a), parts_whole space (decimal b) (lacks b)) refl)
    where
      lacks : (n : ℕ) → index space (decimal n) ≡ length (decimal n)
      lacks = decimal_lacks space (omega arith)

  readable : (text : List ℕ) → FourNumbers text c u a b → line_of text ≡ Some (four_bytes c u a b)
  unfolding line_of
  readable text w =
      let word : (n : ℕ) → n < no_number → word_number (decimal n) ≡ Some n = λ n h. number_is (decimal n) n h refl in
      let each = w.below in
      rw (w.text, four_parts, word c each.code, word u each.activator, word a each.first, word b each.second) refl

pub readable_exactly : ReadableExactly
unfolding line_of
readable_exactly text c u a b =
    (λ e. subst (λ (t : List ℕ). FourNumbers t c u a b) (join_parts space text) (written c u a b (parts space text) e), readable c u a b text)
