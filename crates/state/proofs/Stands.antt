-- The claims of specs/Stands.antt, each proved under its name: rows are fixed by their cells, field by field.
-- Assumes nothing.
use Prim.Native.Nat.{ℕ, ◌*◌}
use mathlib.Core.Path.{◌≡◌, ap, ◌∙◌}
use lib.ListN.{length}
use Rattle.bits.specs.Bits.{places}
use Rattle.bits.specs.Rows.{Rows, cells_of}
use Rattle.bits.proofs.Cells.{cells_length, cells_fix_rows}
use Rattle.state.specs.Site.{Site, Shaped}
use Rattle.state.specs.Stands
use Rattle.state.specs.Stands.{site}
use Rattle.state.specs.declared.State.{State}
use Rattle.state.proofs.Laws.{shaped_by_lengths}

pub nothing_lost : Stands.NothingLost
unfolding site
nothing_lost s t hs ht e i =
    record {
      users = cells_fix_rows s.users t.users hs.users.fit ht.users.fit (ap (λ (x : Site). x.users) e) i;
      areas = cells_fix_rows s.areas t.areas hs.areas.fit ht.areas.fit (ap (λ (x : Site). x.areas) e) i;
      objects = cells_fix_rows s.objects t.objects hs.objects.fit ht.objects.fit (ap (λ (x : Site). x.objects) e) i;
      owners = cells_fix_rows s.owners t.owners hs.owners.fit ht.owners.fit (ap (λ (x : Site). x.owners) e) i;
      definitions = cells_fix_rows s.definitions t.definitions hs.definitions.fit ht.definitions.fit (ap (λ (x : Site). x.definitions) e) i;
      structure = cells_fix_rows s.structure t.structure hs.structure.fit ht.structure.fit (ap (λ (x : Site). x.structure) e) i;
      imports = cells_fix_rows s.imports t.imports hs.imports.fit ht.imports.fit (ap (λ (x : Site). x.imports) e) i;
      exports = cells_fix_rows s.exports t.exports hs.exports.fit ht.exports.fit (ap (λ (x : Site). x.exports) e) i;
    }

-- the cells of n rows
cells_sized : (n : ℕ) (rows : Rows) → length rows ≡ n → length (cells_of rows) ≡ n * places
cells_sized n rows long = cells_length rows ∙ ap (λ (m : ℕ). m * places) long

pub shaped_by_rows : (s : State)
    → length s.users ≡ 1 → length s.areas ≡ 1 → length s.objects ≡ 2 → length s.owners ≡ 32 → length s.definitions ≡ 64
    → length s.structure ≡ 32 → length s.imports ≡ 64 → length s.exports ≡ 64 → Shaped (site s)
unfolding site
shaped_by_rows s users areas objects owners definitions structures imported exported =
    shaped_by_lengths (site s) (cells_sized 1 s.users users) (cells_sized 1 s.areas areas) (cells_sized 2 s.objects objects)
    (cells_sized 32 s.owners owners) (cells_sized 64 s.definitions definitions) (cells_sized 32 s.structure structures)
    (cells_sized 64 s.imports imported) (cells_sized 64 s.exports exported)

pub site_shaped : Stands.SiteShaped
site_shaped s h =
    shaped_by_rows s h.users.long h.areas.long h.objects.long h.owners.long h.definitions.long h.structure.long
    h.imports.long h.exports.long
