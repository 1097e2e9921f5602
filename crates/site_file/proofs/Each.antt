-- A test of each of the code's tables is the test of what they hold.
-- Assumes nothing.
use mathlib.Core.Path.{◌≡◌, refl, ap, ◌∙◌}
use mathlib.Core.Bool.{Bool, ◌&&◌}
use mathlib.Core.List.{List, [], ◌∷◌, map}
use Rattle.std.specs.List.{list_all}
use Rattle.site_format.specs.Format.{Content, each_table, tables, held}
use Rattle.site_format.specs.declared.Table.{Table}

each_held : (ts : List Table) (test : Content → Bool) → list_all (λ t. test (held t)) ts ≡ each_table (map held ts) test
each_held [] test = refl
each_held (t ∷ ts) test = ap (λ (b : Bool). test (held t) && b) (each_held ts test)

pub each_of_tables : (ts : List Table) → map held ts ≡ tables → (test : Content → Bool) {told : Bool}
    → told ≡ list_all (λ t. test (held t)) ts → told ≡ each_table tables test
each_of_tables ts e test a = a ∙ each_held ts test ∙ ap (λ (cs : List Content). each_table cs test) e
