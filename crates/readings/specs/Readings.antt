-- What is read of a state: what the checks of an instruction ask about, and whether a pair names an area.
use Rattle.std.specs.Prelude.{ℕ, Bool, ◌||◌}
use Rattle.state.specs.Site.{Site, user, area, object, listed, owns, defines, inside, imports, exports}
use Rattle.state.specs.Site.{owner, definition, structure, import, export, cells}
use Rattle.state.specs.Walk.{has_first, has_second}
use Rattle.readings.specs.declared.Seen.{Seen}

-- for an instruction of activator u on a and b
abbrev pub seen_of : Site → (u a b : ℕ) → Seen
seen_of s u a b =
    record {
      -- the activator is listed
      activator = listed s user u;
      -- a is listed as an area
      area = listed s area a;
      -- b is listed as a user, as an area, as an object
      user = listed s user b;
      outer = listed s area b;
      object = listed s object b;
      -- the activator owns area a, owns area b
      own = owns s u a;
      other = owns s u b;
      -- user b owns area a
      owned = owns s b a;
      -- object b is defined in area a
      defined = defines s b a;
      -- area a lies in area b
      inside = inside s a b;
      -- object b is imported, is exported by area a
      imported = imports s b a;
      exported = exports s b a;
    }

-- some relation has a pair with area a, or the structure one that begins with it
abbrev pub names_area : Site → ℕ → Bool
names_area s a =
    has_second (cells s owner) a || has_second (cells s definition) a || has_first (cells s structure) a
    || has_second (cells s structure) a || has_second (cells s import) a || has_second (cells s export) a
