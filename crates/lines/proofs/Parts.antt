-- The parts of some bytes, by the place of the first separator. A word lacks the separator where that place is its
-- length.
--     index_most                             the place is no more than the length
--     index_past                             a word that lacks it is passed over
--     parted, none_parted                    the bytes in front of the first separator and those behind it, or none
--     part_from                              the bytes from a place on
--     parts_found, parts_whole, parts_word   the first part
--     parts_more                             there is one
--     join, join_parts                       the parts, with the separator between, are the bytes
-- Assumes nothing.
use Prim.Native.Nat.{ℕ, suc, ◌+◌, ◌-◌, ◌≤◌, ◌<◌}
use mathlib.Core.Path.{◌≡◌, refl, sym, ap, ap₂, subst, ◌∙◌}
use mathlib.Core.Bool.{Bool, true, false, cond}
use mathlib.Core.List.{List, [], ◌∷◌, ◌++◌}
use native.Mathlib.Numerals.{add-one, one-add}
use native.Mathlib.Omega.{arith}
use native.Mathlib.Decide.{dec_lt}
use borrow.Author.Tests.{eq-eqb, eqb-true, ltb-false}
use lib.Dec.{eqb, ltb, ltb→lt}
use lib.ListN.{length, take, drop, length-drop}
use lib.Seq.{take_all}
use Rattle.std.proofs.Common.{Some, None, position}
use Rattle.std.specs.List.{position_or_len}
use Rattle.std.proofs.lemmas.List.Recursion.{is_position_or_len}
use Rattle.std.proofs.lemmas.Option.{cond_some, none-some}
use Rattle.state.proofs.Bools.{holds}
use Rattle.lines.specs.Lines.{onto, parts, index}

module _ (at : ℕ) where
  -- ---- the place of the first separator
  pub index_most : (xs : List ℕ) → index at xs ≤ length xs
  unfolding index
  index_most [] = omega arith
  index_most (x ∷ xs) = go (eqb x at) (index_most xs)
    where
      go : (b : Bool) → index at xs ≤ length xs → cond b 0 (suc (index at xs)) ≤ suc (length xs)
      go true h = omega arith
      go false h = omega arith

  pub index_past : (w v : List ℕ) → index at w ≡ length w → index at (w ++ v) ≡ length w + index at v
  unfolding index
  index_past [] v e = omega arith
  index_past (x ∷ w) v e = go (eqb x at) (index_past w v) e
    where
      go : (b : Bool) → (index at w ≡ length w → index at (w ++ v) ≡ length w + index at v) → cond b 0 (suc (index at w)) ≡ suc (length w)
          → cond b 0 (suc (index at (w ++ v))) ≡ suc (length w) + index at v
      go true rest e = absurd (omega arith)
      go false rest e = let r : index at (w ++ v) ≡ length w + index at v = rest (omega arith) in omega arith

  -- ---- the bytes in front of the first separator, and those behind it
  front_lacks : (xs : List ℕ) → index at (take (index at xs) xs) ≡ length (take (index at xs) xs)
  unfolding index
  front_lacks [] = refl
  front_lacks (x ∷ xs) = go (eqb x at) refl (front_lacks xs)
    where
      go : (b : Bool) → eqb x at ≡ b → index at (take (index at xs) xs) ≡ length (take (index at xs) xs)
          → index at (take (cond b 0 (suc (index at xs))) (x ∷ xs)) ≡ length (take (cond b 0 (suc (index at xs))) (x ∷ xs))
      go true e h = refl
      go false e h = rw e (ap suc h)

  pub divided : (xs : List ℕ) → index at xs < length xs → xs ≡ take (index at xs) xs ++ (at ∷ drop (suc (index at xs)) xs)
  unfolding index
  divided [] h = absurd (omega arith)
  divided (x ∷ xs) h = go (eqb x at) refl (divided xs) h
    where
      go : (b : Bool) → eqb x at ≡ b → (index at xs < length xs → xs ≡ take (index at xs) xs ++ (at ∷ drop (suc (index at xs)) xs))
          → cond b 0 (suc (index at xs)) < suc (length xs)
          → x ∷ xs ≡ take (cond b 0 (suc (index at xs))) (x ∷ xs) ++ (at ∷ drop (suc (cond b 0 (suc (index at xs)))) (x ∷ xs))
      go true e rest h = ap (λ (y : ℕ). y ∷ xs) (eqb-true x at e)
      go false e rest h = ap (λ (l : List ℕ). x ∷ l) (rest (omega arith))

  place_is : (xs : List ℕ) → position_or_len (λ x. eqb x at) xs ≡ index at xs
  unfolding index
  place_is xs = sym (is_position_or_len (index at) (λ x. eqb x at) refl (λ x rest. ap (cond (eqb x at) 0) (sym (one-add (index at rest)))) xs)

  pub parted : (xs : List ℕ) (i : ℕ) → Some i ≡ position (λ x. eqb x at) xs
      → (xs ≡ take i xs ++ (at ∷ drop (i + 1) xs)) × (index at (take i xs) ≡ length (take i xs))
  parted xs i e =
      let found = cond_some (ltb (position_or_len (λ x. eqb x at) xs) (length xs)) _ i (sym e) in
      let same : index at xs ≡ i = sym (place_is xs) ∙ found.1 in
      let inside : index at xs < length xs = rw (← (place_is xs)) (ltb→lt _ _ (holds found.0)) in
      subst (λ (k : ℕ). (xs ≡ take k xs ++ (at ∷ drop (k + 1) xs)) × (index at (take k xs) ≡ length (take k xs))) same
      (rw (add-one (index at xs)) (divided xs inside), front_lacks xs)

  pub none_parted : (xs : List ℕ) → None ≡ position (λ x. eqb x at) xs → index at xs ≡ length xs
  none_parted xs e = go (ltb (position_or_len (λ x. eqb x at) xs) (length xs)) refl (sym e)
    where
      go : (b : Bool) → ltb (position_or_len (λ x. eqb x at) xs) (length xs) ≡ b
          → cond b (Some (position_or_len (λ x. eqb x at) xs)) None ≡ None → index at xs ≡ length xs
      go true t e = absurd (none-some _ (sym e))
      go false t e = omega (arith, place_is xs, ltb-false _ _ t, index_most xs)

  -- ---- the parts
  pub parts_found : (xs : List ℕ) → index at xs < length xs → parts at xs ≡ take (index at xs) xs ∷ parts at (drop (suc (index at xs)) xs)
  unfolding index parts
  parts_found [] h = absurd (omega arith)
  parts_found (x ∷ xs) h = go (eqb x at) (parts_found xs) h
    where
      go : (b : Bool) → (index at xs < length xs → parts at xs ≡ take (index at xs) xs ∷ parts at (drop (suc (index at xs)) xs))
          → cond b 0 (suc (index at xs)) < suc (length xs)
          → cond b ([] ∷ parts at xs) (onto x (parts at xs)) ≡ take (cond b 0 (suc (index at xs))) (x ∷ xs) ∷ parts at (drop (cond b 0 (suc (index at xs))) xs)
      go true rest h = refl
      go false rest h = rw (rest (omega arith)) refl

  pub parts_whole : (xs : List ℕ) → index at xs ≡ length xs → parts at xs ≡ xs ∷ []
  unfolding index parts
  parts_whole [] e = refl
  parts_whole (x ∷ xs) e = go (eqb x at) (parts_whole xs) e
    where
      go : (b : Bool) → (index at xs ≡ length xs → parts at xs ≡ xs ∷ []) → cond b 0 (suc (index at xs)) ≡ suc (length xs)
          → cond b ([] ∷ parts at xs) (onto x (parts at xs)) ≡ (x ∷ xs) ∷ []
      go true rest e = absurd (omega arith)
      go false rest e = rw (rest (omega arith)) refl

  pub parts_word : (w v : List ℕ) → index at w ≡ length w → parts at (w ++ at ∷ v) ≡ w ∷ parts at v
  unfolding index parts
  parts_word [] v e = rw (eq-eqb at at refl) refl
  parts_word (x ∷ w) v e = go (eqb x at) (parts_word w v) e
    where
      go : (b : Bool) → (index at w ≡ length w → parts at (w ++ at ∷ v) ≡ w ∷ parts at v) → cond b 0 (suc (index at w)) ≡ suc (length w)
          → cond b ([] ∷ parts at (w ++ at ∷ v)) (onto x (parts at (w ++ at ∷ v))) ≡ (x ∷ w) ∷ parts at v
      go true rest e = absurd (omega arith)
      go false rest e = rw (rest (omega arith)) refl

  pub parts_more : (xs : List ℕ) → (p : List ℕ) × (ps : List (List ℕ)) × (parts at xs ≡ p ∷ ps)
  parts_more xs = go (dec_lt (index at xs) (length xs))
    where
      go : Dec (index at xs < length xs) → (p : List ℕ) × (ps : List (List ℕ)) × (parts at xs ≡ p ∷ ps)
      go (yes h) = (_, _, parts_found xs h)
      go (no h) = (_, _, parts_whole xs (omega (arith, index_most xs)))

  -- ---- the parts, with the separator between
  unfoldable pub join : List (List ℕ) → List ℕ
  join [] = []
  join (p ∷ []) = p
  join (p ∷ q ∷ ps) = p ++ at ∷ join (q ∷ ps)

  join_onto : (x : ℕ) (ps : List (List ℕ)) → join (onto x ps) ≡ x ∷ join ps
  unfolding join
  join_onto x [] = refl
  join_onto x (p ∷ []) = refl
  join_onto x (p ∷ q ∷ ps) = refl

  pub join_parts : (xs : List ℕ) → join (parts at xs) ≡ xs
  unfolding parts join
  join_parts [] = refl
  join_parts (x ∷ xs) = go (eqb x at) refl (parts_more xs) (join_parts xs)
    where
      go : (b : Bool) → eqb x at ≡ b → (p : List ℕ) × (ps : List (List ℕ)) × (parts at xs ≡ p ∷ ps) → join (parts at xs) ≡ xs
          → join (cond b ([] ∷ parts at xs) (onto x (parts at xs))) ≡ x ∷ xs
      go true same (p, ps, some) rest =
          ap (λ (l : List (List ℕ)). join ([] ∷ l)) some ∙ ap₂ (λ (y : ℕ) (l : List ℕ). y ∷ l) (sym (eqb-true x at same)) (rw some at rest)
      go false other more rest = join_onto x (parts at xs) ∙ ap (λ (l : List ℕ). x ∷ l) rest

pub part_from : (xs : List ℕ) (i : ℕ) → take (length xs - i) (drop i xs) ≡ drop i xs
part_from xs i = take_all (length xs - i) (drop i xs) (let left : length (drop i xs) ≡ length xs - i = length-drop i xs in omega arith)
