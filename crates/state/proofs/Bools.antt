-- Truth values: what `||`, `&&` and `not` say of `T`, and when two truth values are equal.
-- Assumes nothing.
use mathlib.Core.Path.{◌≡◌, refl, sym, subst}
use mathlib.Core.Logic.{◌⊎◌, inl, inr}
use mathlib.Core.Bool.{Bool, true, false, ◌&&◌, ◌||◌, not}
use lib.Dec.{T}

pub or_left : (a b : Bool) → T a → T (a || b)
or_left true b t = tt
or_left false b t = absurd t

pub or_right : (a b : Bool) → T b → T (a || b)
or_right true b t = tt
or_right false b t = t

pub or_cases : (a b : Bool) → T (a || b) → T a ⊎ T b
or_cases true b t = inl tt
or_cases false b t = inr t

pub and_both : (a b : Bool) → T a → T b → T (a && b)
and_both true b s t = t
and_both false b s t = s

pub and_left : (a b : Bool) → T (a && b) → T a
and_left true b t = tt
and_left false b t = t

pub and_right : (a b : Bool) → T (a && b) → T b
and_right true b t = t
and_right false b t = absurd t

pub is_true : (a : Bool) → T a → a ≡ true
is_true true t = refl
is_true false t = absurd t

pub is_false : (a : Bool) → (T a → ⊥) → a ≡ false
is_false true f = absurd (f tt)
is_false false f = refl

pub holds : {a : Bool} → a ≡ true → T a
holds e = subst T (sym e) tt

pub fails : {a : Bool} → a ≡ false → T a → ⊥
fails e t = subst T e t

-- two tests that pass together are the same
pub same_test : (a b : Bool) → (T a → T b) → (T b → T a) → a ≡ b
same_test true b f g = sym (is_true b (f tt))
same_test false true f g = absurd (g tt)
same_test false false f g = refl

-- a test passes, or it is false
pub test : (a : Bool) → T a ⊎ (a ≡ false)
test true = inl tt
test false = inr refl

-- what is not so, and what is not not so
pub not_so : (a : Bool) → T (not a) → T a → ⊥
not_so true n t = n
not_so false n t = t

pub so_not : (a : Bool) → (T a → ⊥) → T (not a)
so_not true f = f tt
so_not false f = tt

pub not_same : (a : Bool) → not (not a) ≡ a
not_same true = refl
not_same false = refl

pub not_not : (a : Bool) → (T (not a) → ⊥) → T a
not_not true f = tt
not_not false f = f tt

-- a check that is not met says that its test passes
pub so : (a : Bool) → not a ≡ false → T a
so a e = not_not a (fails e)

-- and where neither of two is met, each is not
pub neither : (a b : Bool) → a || b ≡ false → (a ≡ false) × (b ≡ false)
neither true b e = absurd (fails e tt)
neither false b e = (refl, e)

-- `not a || b` says that a implies b
pub implied : (a b : Bool) → (T a → T b) → T (not a || b)
implied true b f = f tt
implied false b f = tt

pub implies : (a b : Bool) → T (not a || b) → T a → T b
implies true b t s = t
implies false b t s = absurd s

-- and where it fails, a holds and b does not
pub fails_both : (a b : Bool) → T (not (not a || b)) → T a × (T b → ⊥)
fails_both true true n = absurd n
fails_both true false n = (tt, λ h. h)
fails_both false b n = absurd n
