-- What the layers above use. The law is a type, which proofs/Laws.antt inhabits under the law's name.
use Rattle.std.specs.Prelude.{◌≡◌}
use Rattle.state.specs.Below.{each_below}
use Rattle.state.specs.Site.{Site, Shaped}
use Rattle.soundness.specs.Tests.{is_valid}
use Rattle.validity.specs.Parts.{valid_for}

-- a state is valid where it is, as far as each object goes
abbrev pub ValidByObjects : Type 0
ValidByObjects = (s : Site) → Shaped s → each_below 64 (valid_for s) ≡ is_valid s
