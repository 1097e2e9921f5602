-- The first check that is met: how the number is found check by check, and what it says that none is met.
--     met, passed, none_met     the first check decides, or the rest do; or there is none
--     first_of_two              of two tables in a row, the second counts where none of the first is met
--     none_met_at               where the number is 0, no condition is met, by its number
--     met_at_lem, unmet_before  where the number is n, its condition is met, and none that stands before it
--     first_meets               a test that every number of the table meets
--     among_meets               a test that each number of a list meets
-- Assumes nothing.
use Prim.Native.Nat.{ℕ}
use mathlib.Core.Path.{◌≡◌, refl, sym, ap, subst, ◌∙◌}
use mathlib.Core.Logic.{◌⊎◌, inl, inr}
use mathlib.Core.Bool.{Bool, true, false, ◌&&◌, ◌||◌, not, cond}
use mathlib.Core.List.{List, [], ◌∷◌, ◌++◌}
use lib.Dec.{T, eqb}
use borrow.Author.Tests.{eqb-true, eq-eqb}
use Rattle.state.proofs.Bools.{and_left, and_right, or_cases, is_true, is_false, holds, fails, not_so}
use Rattle.state.specs.Checks
use Rattle.state.specs.Checks.{Check, first_met, met_at, among, each_number, numbered}

pub met : (c : Check) (rest : List Check) → c.met ≡ true → first_met (c ∷ rest) ≡ c.number
unfolding first_met
met c rest e = ap (λ (b : Bool). cond b c.number (first_met rest)) e

pub passed : (c : Check) (rest : List Check) → c.met ≡ false → first_met (c ∷ rest) ≡ first_met rest
unfolding first_met
passed c rest e = ap (λ (b : Bool). cond b c.number (first_met rest)) e

pub none_met : first_met [] ≡ 0
unfolding first_met
none_met = refl

-- what each number of a table meets, its number meets, if 0 does
pub first_meets : (test : ℕ → Bool) (l : List Check) → T (test 0) → T (each_number test l) → T (test (first_met l))
unfolding first_met
first_meets test [] z n = z
first_meets test (c ∷ rest) z n = go c.met (first_meets test rest z (and_right (test c.number) (each_number test rest) n))
  where
    go : (b : Bool) → T (test (first_met rest)) → T (test (cond b c.number (first_met rest)))
    go true later = and_left (test c.number) (each_number test rest) n
    go false later = later

-- what holds of each number of a list holds of one among them
abbrev pub each_of : (ℕ → Bool) → List ℕ → Bool
each_of test [] = true
each_of test (k ∷ rest) = test k && each_of test rest

pub among_meets : (test : ℕ → Bool) (l : List ℕ) (n : ℕ) → T (each_of test l) → T (among n l) → T (test n)
among_meets test [] n e t = absurd t
among_meets test (k ∷ rest) n e t = go (among_meets test rest n (and_right (test k) (each_of test rest) e)) (or_cases (eqb n k) (among n rest) t)
  where
    go : (T (among n rest) → T (test n)) → T (eqb n k) ⊎ T (among n rest) → T (test n)
    go later (inl q) = subst (λ (m : ℕ). T (test m)) (sym (eqb-true n k (is_true (eqb n k) q))) (and_left (test k) (each_of test rest) e)
    go later (inr q) = later q

pub none_met_at : Checks.NoneMetAt
none_met_at [] n e k = refl
none_met_at (c ∷ rest) n e k = go (none_met_at rest (and_right (not (eqb c.number 0)) (numbered rest) n)) c.met refl
  where
    zero_number : c.number ≡ 0 → ⊥
    zero_number q = not_so (eqb c.number 0) (and_left (not (eqb c.number 0)) (numbered rest) n) (rw q tt)

    here : (v : Bool) → c.met ≡ false → met_at k rest ≡ false → cond v c.met (met_at k rest) ≡ false
    here true p q = p
    here false p q = q

    go : (first_met rest ≡ 0 → (m : ℕ) → met_at m rest ≡ false) → (b : Bool) → c.met ≡ b → met_at k (c ∷ rest) ≡ false
    go others true m = absurd (zero_number (sym (met c rest m) ∙ e))
    go others false m = here (eqb c.number k) m (others (sym (passed c rest m) ∙ e) k)

-- number n stands in the table at most once
abbrev pub once : ℕ → List Check → Bool
once n [] = true
once n (c ∷ rest) = cond (eqb c.number n) (each_number (λ k. not (eqb k n)) rest) (once n rest)

pub met_at_lem : (n : ℕ) → T (not (eqb 0 n)) → (table : List Check) → T (once n table) → first_met table ≡ n → T (met_at n table)
met_at_lem n nonzero [] o e = absurd (not_so (eqb 0 n) nonzero (holds (eq-eqb 0 n (sym none_met ∙ e))))
met_at_lem n nonzero (c ∷ rest) o e = go (met_at_lem n nonzero rest) (eqb c.number n) refl c.met refl o
  where
    go : (T (once n rest) → first_met rest ≡ n → T (met_at n rest)) → (same : Bool) → eqb c.number n ≡ same → (v : Bool) → c.met ≡ v
        → T (cond same (each_number (λ k. not (eqb k n)) rest) (once n rest)) → T (cond same c.met (met_at n rest))
    go later true q true m o = holds m
    go later true q false m o =
        absurd (not_so (eqb (first_met rest) n) (first_meets (λ k. not (eqb k n)) rest nonzero o) (holds (eq-eqb (first_met rest) n (sym (passed c rest m) ∙ e))))
    go later false q true m o = absurd (fails q (holds (eq-eqb c.number n (sym (met c rest m) ∙ e))))
    go later false q false m o = later o (sym (passed c rest m) ∙ e)

-- number k stands in the table, and n not up to there
abbrev pub stands_before : (k n : ℕ) → List Check → Bool
stands_before k n [] = false
stands_before k n (c ∷ rest) = not (eqb c.number n) && (eqb c.number k || stands_before k n rest)

pub unmet_before : (k n : ℕ) (table : List Check) → T (stands_before k n table) → first_met table ≡ n → met_at k table ≡ false
unmet_before k n [] b e = absurd b
unmet_before k n (c ∷ rest) b e = go (unmet_before k n rest) c.met refl
  where
    differs : T (not (eqb c.number n))
    differs = and_left (not (eqb c.number n)) (eqb c.number k || stands_before k n rest) b

    here : (same : Bool) → T (same || stands_before k n rest) → c.met ≡ false → (T (stands_before k n rest) → met_at k rest ≡ false)
        → cond same c.met (met_at k rest) ≡ false
    here true stands m later = m
    here false stands m later = later stands

    go : (T (stands_before k n rest) → first_met rest ≡ n → met_at k rest ≡ false) → (v : Bool) → c.met ≡ v → met_at k (c ∷ rest) ≡ false
    go later true m = absurd (not_so (eqb c.number n) differs (holds (eq-eqb c.number n (sym (met c rest m) ∙ e))))
    go later false m =
        here (eqb c.number k) (and_right (not (eqb c.number n)) (eqb c.number k || stands_before k n rest) b) m
        (λ stands. later stands (sym (passed c rest m) ∙ e))

pub first_of_two : (l m : List Check) → T (numbered l) → first_met (l ++ m) ≡ cond (eqb (first_met l) 0) (first_met m) (first_met l)
first_of_two [] m n = ap (λ (k : ℕ). cond (eqb k 0) (first_met m) k) (sym none_met)
first_of_two (c ∷ rest) m n = go (first_of_two rest m (and_right (not (eqb c.number 0)) (numbered rest) n)) c.met refl
  where
    not_zero : eqb c.number 0 ≡ false
    not_zero = is_false (eqb c.number 0) (not_so (eqb c.number 0) (and_left (not (eqb c.number 0)) (numbered rest) n))

    go : first_met (rest ++ m) ≡ cond (eqb (first_met rest) 0) (first_met m) (first_met rest) → (b : Bool) → c.met ≡ b
        → first_met (c ∷ (rest ++ m)) ≡ cond (eqb (first_met (c ∷ rest)) 0) (first_met m) (first_met (c ∷ rest))
    go others true e = rw (met c (rest ++ m) e, met c rest e, not_zero) refl
    go others false e = rw (passed c (rest ++ m) e, passed c rest e) others
