-- A table of refusals in the order of its checks, and the number that it gives: what is refused gets the first number
-- whose condition is met (demand 2).
use Rattle.std.specs.Prelude.{ℕ, ◌≡◌, Bool, true, false, ◌&&◌, ◌||◌, not, cond, List, [], ◌∷◌, map, T, eqb}

-- one row: a number, and whether its condition is met
pub record Check : Type 0 where
  pub number : ℕ
  pub met : Bool

infix 3 ◌when◌
abbrev pub ◌when◌ : ℕ → Bool → Check
n when c = record { number = n; met = c }

-- the numbers of a table, in their order
abbrev pub numbers : List Check → List ℕ
numbers table = map (λ c. c.number) table

-- the first number whose condition is met, 0 if none is
unfoldable pub first_met : List Check → ℕ
first_met [] = 0
first_met (c ∷ rest) = cond c.met c.number (first_met rest)

-- whether the condition of number n is met; a number that the table lacks has none
abbrev pub met_at : ℕ → List Check → Bool
met_at n [] = false
met_at n (c ∷ rest) = cond (eqb c.number n) c.met (met_at n rest)

-- the number is one of the list
abbrev pub among : ℕ → List ℕ → Bool
among n [] = false
among n (k ∷ rest) = eqb n k || among n rest

-- each number of a table meets a test
abbrev pub each_number : (ℕ → Bool) → List Check → Bool
each_number test [] = true
each_number test (c ∷ rest) = test c.number && each_number test rest

-- none is 0, which stands for 'none is met'
abbrev pub numbered : List Check → Bool
numbered table = each_number (λ n. not (eqb n 0)) table

-- Where a table gives 0, no condition is met, whichever number is asked for.
abbrev pub NoneMetAt : Type 0
NoneMetAt = (table : List Check) → T (numbered table) → first_met table ≡ 0 → (n : ℕ) → met_at n table ≡ false
