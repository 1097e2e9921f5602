-- Not needed to believe a claim. What this crate's own functions promise each other: the bytes of a text and its filler.
use Rattle.std.specs.Prelude.{ℕ, Bool, List, get_or}
use Rattle.label_tables.specs.Labels.{byte_fits}

-- byte i is one of a text of this size, or of its filler
abbrev pub text_fits : List ℕ → (size : ℕ) → ℕ → Bool
text_fits text size i = byte_fits size i (get_or text i 0)
