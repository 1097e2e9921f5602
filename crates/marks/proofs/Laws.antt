-- The claims of specs/Marks.antt. Assumes nothing.
use mathlib.Core.Path.{sym, ◌∙◌}
use mathlib.Core.Bool.{true≢false}
use Prim.Native.Nat.{ℕ, ◌<◌}
use native.Mathlib.Omega.{arith}
use Rattle.state.proofs.Below.{first_under, first_met_lem, first_within}
use Rattle.marks.specs.Marks.{marked, Lowest, lowest, LowestIsRight, OnlyOne}

pub lowest_is_right : LowestIsRight
unfolding lowest
lowest_is_right b = record { none_lower = first_under (marked b) 8; is_set = first_met_lem (marked b) 8; at_most = first_within (marked b) 8 }

-- of two such places none is the lower: its mark would be set and not set
not_lower : {b r t : ℕ} → Lowest b r → Lowest b t → r < t → ⊥
not_lower {r = r} p q l = true≢false (sym (p.is_set (omega arith)) ∙ q.none_lower r l)

pub only_one : OnlyOne
only_one b r t p q = omega (arith, not_lower p q, not_lower q p)
