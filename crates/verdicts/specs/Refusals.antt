-- The number of each refusal, with the papers' condition for it: 1 to 13 and 21 to 29 are document 01's, 14, 15, 30 and
-- 31 those of document 02 (points 1, 4, 3 and 5). When a condition is met is defined where it is tested.
use Rattle.std.specs.Prelude.{ℕ, Result, Ok, Err}
use Rattle.verdicts.specs.declared.Refusal.{Refusal}
use Rattle.verdicts.specs.declared.Refusal.TheVariants.{UnknownCode, OutOfRange, ActivatorUnlisted, NotListed, NotOwner}
use Rattle.verdicts.specs.declared.Refusal.TheVariants.{AlreadyThere, NotThere, LastOne, AreaInUse, WouldLackAccess}
use Rattle.verdicts.specs.declared.Refusal.TheVariants.{WouldLoseAccess, UnsoundState, UnreadableLine, RecipeForm}
use Rattle.verdicts.specs.declared.Refusal.TheVariants.{OwnImport, FileTooShort, FileVersion, FileLength, FileCount}
use Rattle.verdicts.specs.declared.Refusal.TheVariants.{FileOffset, FileRange, FileOrder, FileLists, FileLacksAccess}
use Rattle.verdicts.specs.declared.Refusal.TheVariants.{LabelBlock, BufferLength}

abbrev pub number : Refusal → ℕ
-- "code 0 or above 12"
number UnknownCode = 1
-- "a user or area above 31, an object above 63, or b not 0 for codes 1 and 2"
number OutOfRange = 2
-- "activator not listed"
number ActivatorUnlisted = 3
-- "not listed: area a (codes 2 to 12), user b (4), area b (5, 6), object b (8 to 12)"
number NotListed = 4
-- "the activator lacks the ownership in the table above"
number NotOwner = 5
-- "an add of what is there"
number AlreadyThere = 6
-- "a remove of a pair that is not there"
number NotThere = 7
-- "code 4 on the sole owner of a; code 2 on the only listed area"
number LastOne = 8
-- "code 2 while a has another owner, defines an object, or stands in a structure, import or export pair"
number AreaInUse = 9
-- "codes 9, 11: in the state it would give, a lacks access to b"
number WouldLackAccess = 10
-- "codes 6, 8, 10, 12: the state it would give has an import or export pair whose area lacks access"
number WouldLoseAccess = 11
-- "the state is unsound, or is not the record its relations have"
number UnsoundState = 12
-- "unreadable line"
number UnreadableLine = 13
-- "A length that is not a multiple of 5 from 5 to 80, a kind above 1 or a parameter above 3"
number RecipeForm = 14
-- "Code 9 by the defining area"
number OwnImport = 15
-- "under 28 bytes"
number FileTooShort = 21
-- "version not 1"
number FileVersion = 22
-- "stated length is not that of the bytes given"
number FileLength = 23
-- "a count above its limit"
number FileCount = 24
-- "an offset, or the end, elsewhere than stated above"
number FileOffset = 25
-- "a number, length, text byte or filler byte outside its range"
number FileRange = 26
-- "a table not strictly ascending by first byte, then second (labels by area)"
number FileOrder = 27
-- "no owner pair; an unlisted area or object named; an object defined twice"
number FileLists = 28
-- "an import or export pair whose area lacks access"
number FileLacksAccess = 29
-- "a label block that has a partial entry or breaks the label conditions of 26, 27 or 28"
number LabelBlock = 30
-- "a buffer shorter than the file", "a buffer under 32 bytes"
number BufferLength = 31

-- the refusal's number, 0 for what is not refused
abbrev pub refusal_number : {A : Type 0} → Result A Refusal → ℕ
refusal_number (Ok a) = 0
refusal_number (Err refusal) = number refusal
