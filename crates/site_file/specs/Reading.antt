-- The refusals of a site file in the paper's order, and what an accepted file holds (document 01, 'The site file'; a
-- part of 29 is of document 02, point 4).
use Rattle.std.specs.Prelude.{ℕ, Bool, true, ◌&&◌, ◌||◌, not, cond, List, [], ◌∷◌, ◌++◌, eqb, Result, Ok, Err}
use Rattle.verdicts.specs.Refusals.{number}
use Rattle.site_file.specs.declared.ReadRefused.{ReadRefused}
use Rattle.state.specs.declared.State.{State}
use Rattle.state.specs.Stands.{site}
use Rattle.state.specs.Checks.{Check, ◌when◌, first_met}
use Rattle.state.specs.Cells.{Pairs}
use Rattle.state.specs.Site.{Relation, founding, Verdict, verdict}
use Rattle.state.specs.Walk.{some_pair}
use Rattle.state.specs.Site.{Site}
use Rattle.soundness.specs.Tests.{is_consistent, is_valid, no_own_import}
use Rattle.label_tables.specs.Labels.{labels_listed}
use Rattle.site_format.specs.Format.{each_table, pairs_of, labels, tables, part, content_fits, content_ascends}
use Rattle.site_header.specs.Header.{header_checks}
use Rattle.site_tables.specs.Tables.{relation_of, state_by}

-- ---- the state that a file holds
-- its relations have the pairs of their tables, and its lists are read off them (site_tables)
abbrev pub relation_in : (file : List ℕ) → Relation → Pairs
relation_in file r = relation_of r (part file (pairs_of r))

unfoldable pub state_in : (file : List ℕ) → Site
state_in file = state_by (relation_in file)

-- ---- the conditions, and the table of refusals
-- 26: no table has "a number, length, text byte or filler byte outside its range"
abbrev pub tables_fit : (file : List ℕ) → Bool
tables_fit file = each_table tables (λ c. content_fits c (part file c))

-- 27: none is "a table not strictly ascending by first byte, then second (labels by area)"
abbrev pub tables_ascend : (file : List ℕ) → Bool
tables_ascend file = each_table tables (λ c. content_ascends c (part file c))

-- 28: "no owner pair; an unlisted area or object named; an object defined twice"
abbrev pub no_owner : Site → Bool
no_owner s = not (some_pair s.owners (λ u a. true))

abbrev pub names_unlisted : Site → (block : List ℕ) → Bool
names_unlisted s l = not (is_consistent s) || not (labels_listed s.areas l)

-- object o is defined in another area than a
abbrev pub defined_elsewhere : Site → (o a : ℕ) → Bool
defined_elsewhere s o a = some_pair s.definitions (λ p b. eqb p o && not (eqb b a))

abbrev pub defined_twice : Site → Bool
defined_twice s = some_pair s.definitions (defined_elsewhere s)

-- 26 and 27, of the tables' bytes
abbrev pub table_checks : (file : List ℕ) → List Check
table_checks file = (26 when not (tables_fit file)) ∷ (27 when not (tables_ascend file)) ∷ []

-- 28 and 29, of the state that the file holds, and of its labels. 29: "an import or export pair whose area lacks
-- access"; and of an import by the area that defines the object: "A file with one gets 29." (document 02, point 4)
abbrev pub state_checks : Site → (block : List ℕ) → List Check
state_checks s l =
    (28 when no_owner s || names_unlisted s l || defined_twice s)
    ∷ (29 when not (is_valid s) || not (no_own_import s))
    ∷ []

-- 21 to 25 (site_header, Header), then these
abbrev pub file_checks : (file : List ℕ) → List Check
file_checks file = header_checks file ++ table_checks file ++ state_checks (state_in file) (part file labels)

-- "Reader refusals, lowest number first over the whole file". No other number is given (Claims, ReadNumbers).
abbrev pub read_numbers : List ℕ
read_numbers = 21 ∷ 22 ∷ 23 ∷ 24 ∷ 25 ∷ 26 ∷ 27 ∷ 28 ∷ 29 ∷ []

-- the number of the refusal, 0 for a file that is accepted
unfoldable pub file_refusal : (file : List ℕ) → ℕ
file_refusal file = first_met (file_checks file)

-- the number and the state; "the state beside a refusal is F"
unfoldable pub read_of : (file : List ℕ) → Verdict
read_of file = verdict (file_refusal file) (cond (eqb (file_refusal file) 0) (state_in file) founding)

-- ---- what the code answers
-- the state that was read, or the one beside the refusal
abbrev pub as_state : Result State ReadRefused → Site
as_state (Ok s) = site s
as_state (Err refused) = site refused.state

-- the number of the refusal, 0 for a file that is accepted
abbrev pub as_number : Result State ReadRefused → ℕ
as_number (Ok s) = 0
as_number (Err refused) = number refused.refusal

-- number and state
abbrev pub as_verdict : Result State ReadRefused → Verdict
as_verdict result = verdict (as_number result) (as_state result)
