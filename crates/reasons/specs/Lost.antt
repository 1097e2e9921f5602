-- Why a removal is refused as 11 (document 02, point 5): "name the first pair left whose area then lacks access:
-- imports before exports, then by object, then by area".
use Rattle.std.specs.Prelude.{ℕ, Bool, ◌&&◌, not, cond, eqb, ltb, Option, Some, None, Result, Ok, Err}
use Rattle.verdicts.specs.Refusals.{number}
use Rattle.state.specs.Below.{some_below, first_below}
use Rattle.state.specs.Site.{Site, area, object, limit, Relation, import, export, related}
use Rattle.access.specs.Lending.{lending}
use Rattle.access.specs.Answer.{access}
use Rattle.instructions.specs.Instructions.{Bytes}
use Rattle.instructions.specs.Decode.{decode_of}
use Rattle.successors.specs.Successor.{successor_of}
use Rattle.machine.specs.Step.{step_refusal}
use Rattle.reasons.specs.declared.Entry.{Entry}
use Rattle.reasons.specs.declared.Lost.{Lost}
use Rattle.reasons.specs.declared.Lost.TheVariants.{Import as LostImport, Export as LostExport}
use Rattle.reasons.specs.declared.StepRefused.{StepRefused}

-- (o, a) is a pair of the relation, in the state t, "whose area then lacks access"
unfoldable pub is_lost : (t : Site) → Relation → (o a : ℕ) → Bool
is_lost t r o a = related t r o a && not (access (lending t o) a)

-- object o has such a pair
abbrev pub loses : (t : Site) → Relation → (o : ℕ) → Bool
loses t r o = some_below (limit area) (is_lost t r o)

-- "then by object": the lowest object with such a pair, 64 if there is none
unfoldable pub first_object : (t : Site) → Relation → ℕ
first_object t r = first_below (limit object) (loses t r)

-- "then by area": the lowest area of such a pair of object o
unfoldable pub first_area : (t : Site) → Relation → (o : ℕ) → ℕ
first_area t r o = first_below (limit area) (is_lost t r o)

-- a pair of the relation is lost, and which is the first
abbrev pub some_lost : (t : Site) → Relation → Bool
some_lost t r = ltb (first_object t r) (limit object)

abbrev pub first_entry : (t : Site) → Relation → Entry
first_entry t r = record { object = first_object t r; area = first_area t r (first_object t r) }

-- "imports before exports"
unfoldable pub first_lost : (t : Site) → Option Lost
first_lost t =
    cond (some_lost t import) (Some (LostImport (first_entry t import)))
    (cond (some_lost t export) (Some (LostExport (first_entry t export))) None)

-- Not needed to believe a claim: the same of the pairs of one object. Where no other object has lost a pair, it is the
-- first of all (Laws, LostOfOne).
unfoldable pub lost_of : (t : Site) → (o : ℕ) → Option Lost
lost_of t o =
    cond (loses t import o) (Some (LostImport (record { object = o; area = first_area t import o })))
    (cond (loses t export o) (Some (LostExport (record { object = o; area = first_area t export o }))) None)

-- the values of each case: 0 for no pair, 1 for an import pair, 2 for an export pair; its object and its area
abbrev pub lost_kind : Option Lost → ℕ
lost_kind None = 0
lost_kind (Some (LostImport e)) = 1
lost_kind (Some (LostExport e)) = 2

abbrev pub lost_object : Option Lost → ℕ
lost_object None = 0
lost_object (Some (LostImport e)) = e.object
lost_object (Some (LostExport e)) = e.object

abbrev pub lost_area : Option Lost → ℕ
lost_area None = 0
lost_area (Some (LostImport e)) = e.area
lost_area (Some (LostExport e)) = e.area

-- a refusal's number, 0 for none, and the pair that explains it
pub record StepReason : Type 0 where
  pub refusal : ℕ
  pub lost : Option Lost

abbrev pub reason : (number : ℕ) → Option Lost → StepReason
reason number lost = record { refusal = number; lost = lost }

-- what the code answers, as that
abbrev pub as_reason : Result Unit StepRefused → StepReason
as_reason (Ok done) = reason 0 None
as_reason (Err refused) = reason (number refused.refusal) refused.lost

-- "For a removal refused as 11, name the first pair left", of the state that the removal would give. "For an
-- instruction not refused as 11 the answer is its own number or 0, and no pair."
abbrev pub reason_for : (number : ℕ) → (t : Site) → StepReason
reason_for number t = reason number (cond (eqb number 11) (first_lost t) None)

unfoldable pub step_reason_of : Site → Bytes → StepReason
step_reason_of s bytes = reason_for (step_refusal s bytes) (successor_of s bytes (decode_of bytes))
