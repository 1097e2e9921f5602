-- A run of stores: two runs, one behind the other, are one.
-- Assumes nothing.
use Prim.Native.Nat.{ℕ, suc, ◌+◌}
use mathlib.Core.Path.{◌≡◌, sym, ap, ◌∙◌}
use mathlib.Core.List.{List, [], ◌∷◌, ◌++◌}
use native.Mathlib.Nat.{add-zero, add-suc, suc-add}
use lib.ListN.{length, set}
use lib.Seq.{sets}

pub sets_append : {A : Type 0} (b : List A) (at : ℕ) (t u : List A) → sets b at (t ++ u) ≡ sets (sets b at t) (at + length t) u
sets_append b at [] u = ap (λ (k : ℕ). sets b k u) (sym (add-zero at))
sets_append b at (x ∷ t) u =
    sets_append (set b at x) (suc at) t u ∙ ap (λ (k : ℕ). sets (sets (set b at x) (suc at) t) k u) (suc-add at (length t) ∙ sym (add-suc at (length t)))
