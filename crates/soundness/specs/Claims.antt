-- What is claimed: each test decides its part, and all of them soundness; no area borrows from itself; the founding
-- state is sound; and a sound record is that of its relations. Each claim is a type, which proofs/Laws.antt inhabits
-- under the claim's name.
use Rattle.std.specs.Prelude.{ℕ, ◌≡◌, ◌↔◌, false, T}
use Rattle.state.specs.Site.{object, listed, Relation, related, defines, imports, Shaped, founding}
use Rattle.state.specs.Site.{Site}
use Rattle.soundness.specs.Sound.{Consistent, DefinedOnce, Acceptable, Valid, NoOwnImport, Sound}
use Rattle.soundness.specs.Tests.{is_consistent, all_defined, is_acceptable, is_valid, no_own_import, is_sound}

-- each test decides its part
abbrev pub ConsistentDecided : Type 0
ConsistentDecided = (s : Site) → T (is_consistent s) ↔ Consistent s

abbrev pub DefinedDecided : Type 0
DefinedDecided =
    (s : Site) → T (all_defined s.objects s.definitions) ↔ ((o : ℕ) → T (listed s object o) → DefinedOnce s o)

abbrev pub AcceptableDecided : Type 0
AcceptableDecided = (s : Site) → T (is_acceptable s) ↔ Acceptable s

abbrev pub ValidDecided : Type 0
ValidDecided = (s : Site) → T (is_valid s) ↔ Valid s

abbrev pub NoOwnImportDecided : Type 0
NoOwnImportDecided = (s : Site) → T (no_own_import s) ↔ NoOwnImport s

-- the test decides soundness, of a record that has its shape
abbrev pub SoundDecided : Type 0
SoundDecided = (s : Site) → Shaped s → T (is_sound s) ↔ Sound s

-- "a state with such an import is unsound": where area a imports object o and defines it, whatever else there is
abbrev pub OwnImportUnsound : Type 0
OwnImportUnsound = (s : Site) (o a : ℕ) → T (imports s o a) → T (defines s o a) → is_sound s ≡ false

-- so whoever borrows has a lender: in a sound state an object that area a imports is defined in another area
abbrev pub LenderIsAnother : Type 0
LenderIsAnother =
    (s : Site) → Sound s → (o a : ℕ) → T (imports s o a) → (lender : ℕ) × T (defines s o lender) × (lender ≡ a → ⊥)

abbrev pub FoundingSound : Type 0
FoundingSound = Sound founding

-- "the record its relations have": two sound records with the same relations are one, their lists too
abbrev pub RecordOfRelations : Type 0
RecordOfRelations =
    (s t : Site) → Sound s → Sound t → ((r : Relation) (i j : ℕ) → related s r i j ≡ related t r i j) → s ≡ t
