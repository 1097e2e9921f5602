-- What an instruction changes (document 01, 'The twelve instructions'): the state that it would give.
use Rattle.std.specs.Prelude.{ℕ, Bool, true, false, ◌&&◌, Ok, Err}
use Rattle.state.specs.Site.{Site, user, area, object, listed, with_listed}
use Rattle.state.specs.Site.{owner, definition, structure, import, export, cells, with_pair}
use Rattle.state.specs.Walk.{has_first}
use Rattle.instructions.specs.Instructions.{Bytes, rule}
use Rattle.instructions.specs.declared.Instruction.{Instruction}
use Rattle.instructions.specs.declared.Target.{Target}
use Rattle.instructions.specs.declared.Target.TheVariants.{TheArea, Owner, Definition, Structure, Import, Export}
use Rattle.instructions.specs.Decode.{Decoded}

-- "Codes 2 and 4 unlist a user who owns no area afterwards": he is listed if he was and owns an area by the owner pairs
-- that are left
abbrev pub keeps_listed : Site → ℕ → Bool
keeps_listed s u = listed s user u && has_first (cells s owner) u

abbrev pub unlist_idle : Site → ℕ → Site
unlist_idle s u = with_listed s user u (keeps_listed s u)

-- user u no longer owns area a: the pair goes first, and then he is looked up among those that are left
abbrev pub without_owner : Site → (u a : ℕ) → Site
without_owner s u a = unlist_idle (with_pair s owner u a false) u

-- The state after an add (v true) or a remove (v false) by user u: "list new area a, owned by the activator / unlist
-- it"; "owner b of area a"; "object b in area a"; "structure pair (a, b)"; "import of b by a"; "export of b by a".
-- "Code 3 lists user b if unlisted." "Code 2 drops the owner pair as well. Code 7 lists object b, and code 8 unlists
-- it."
abbrev pub changed : Site → Target → (v : Bool) → (u a b : ℕ) → Site
changed s TheArea true u a b = with_pair (with_listed s area a true) owner u a true
changed s TheArea false u a b = with_listed (without_owner s u a) area a false
changed s Owner true u a b = with_pair (with_listed s user b true) owner b a true
changed s Owner false u a b = without_owner s b a
changed s Definition v u a b = with_pair (with_listed s object b v) definition b a v
changed s Structure v u a b = with_pair s structure a b v
changed s Import v u a b = with_pair s import b a v
changed s Export v u a b = with_pair s export b a v

-- "the state it would give"
abbrev pub successor : Site → Instruction → (u a b : ℕ) → Site
successor s x u a b = changed s (rule x).target (rule x).adds u a b

-- the same for four bytes, by what they fit; those that fit no instruction change nothing
abbrev pub successor_of : Site → Bytes → Decoded → Site
successor_of s bytes (Ok x) = successor s x bytes.activator bytes.a bytes.b
successor_of s bytes (Err refusal) = s
