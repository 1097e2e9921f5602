-- A record that a function is handed by value has the rows that its type says, and so the shape of a state.
-- Assumes nothing.
use Prim.Native.Nat.{ℕ, zero, suc}
use mathlib.Core.List.{List, [], ◌∷◌}
use lib.Pow.{pow_pos}
use mir.Syntax.{w32}
use mir.Val.{Val}
use denote.Shadow.{shadow}
use denote.RattleType.{Valss, owns}
use denote.Array.{each, in_array}
use denote.Plain.{UInt}
use denote.Struct.Declared
use Rattle.bits.specs.Bits.{places}
use Rattle.bits.specs.Rows.{Rows, Fit}
use Rattle.state.specs.Site.{Shaped}
use Rattle.state.specs.Stands.{site, Sized, Fits}
use Rattle.state.specs.declared.State.{State}
use Rattle.state.specs.contracts.State.{the_type}
use Rattle.state.proofs.Stands.{site_shaped}

entries_fit : (rows : Rows) (values : List Val) → shadow (each ℕ (UInt w32).own_val rows values) → Fit rows
entries_fit [] values owned i = pow_pos places
entries_fit (row ∷ rest) [] owned i = absurd owned
entries_fit (row ∷ rest) (value ∷ values) owned zero = owned.0.1
entries_fit (row ∷ rest) (value ∷ values) owned (suc i) = entries_fit rest values owned.1 i

sized : (n : ℕ) (rows : Rows) (values : List Val) → shadow (in_array ℕ (UInt w32).own_val n rows values) → Sized n rows
sized n rows values owned = record { long = owned.1.0.1; fit = entries_fit rows owned.0 owned.1.1 }

-- `owned` is `c.good.0.1.1`, where c is the start of a function whose first argument is the state
pub fits_by_type : (s : State) (values : Valss (Declared.shape the_type).fields) → shadow (owns (Declared.shape the_type).fields (the_type.to s) values) → Fits s
fits_by_type s values owned =
    let areas = owned.1 in
    let objects = areas.1 in
    let owners = objects.1 in
    let definitions = owners.1 in
    let structure = definitions.1 in
    let imports = structure.1 in
    let exports = imports.1 in
    record {
      users = sized 1 s.users _ owned.0;
      areas = sized 1 s.areas _ areas.0;
      objects = sized 2 s.objects _ objects.0;
      owners = sized 32 s.owners _ owners.0;
      definitions = sized 64 s.definitions _ definitions.0;
      structure = sized 32 s.structure _ structure.0;
      imports = sized 64 s.imports _ imports.0;
      exports = sized 64 s.exports _ exports.0;
    }

pub shaped_by_type : (s : State) (values : Valss (Declared.shape the_type).fields) → shadow (owns (Declared.shape the_type).fields (the_type.to s) values) → Shaped (site s)
shaped_by_type s values owned = site_shaped s (fits_by_type s values owned)
