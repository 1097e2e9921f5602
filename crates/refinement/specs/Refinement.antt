-- The new record of an old one. The old record is `Site`, a cell for each place, as document 01 and the base have it;
-- the new one is `State`, the code's rows of bits. What a new record stands for is `site` (crate `state`).
use Rattle.state.specs.Site.{Site}
use Rattle.state.specs.declared.State.{State}
use Rattle.relations.specs.Claims.{packed}

-- "Keep each relation as rows of bits, one row of 32 for each user, area or object": place j of row i is cell
-- i * 32 + j
unfoldable pub record_of : Site → State
record_of t =
    record {
      users = packed 1 t.users;
      areas = packed 1 t.areas;
      objects = packed 2 t.objects;
      owners = packed 32 t.owners;
      definitions = packed 64 t.definitions;
      structure = packed 32 t.structure;
      imports = packed 64 t.imports;
      exports = packed 64 t.exports;
    }
