-- What the layers above use. Each law is a type, which proofs/Laws.antt inhabits under the law's name.
use Rattle.std.specs.Prelude.{ℕ, ◌≡◌, ◌↔◌, false, T}
use Rattle.state.specs.Cells.{Members, member}
use Rattle.state.specs.Site.{empty}
use Rattle.soundness.specs.Tests.{some_listed, is_sound}

-- the test that a set holds a number
abbrev pub SomeDecided : Type 0
SomeDecided = (set : Members) → T (some_listed set) ↔ ((i : ℕ) × T (member set i))

-- the state of nothing has no area
abbrev pub EmptyUnsound : Type 0
EmptyUnsound = is_sound empty ≡ false
