-- `site_writer::put_fields` meets its contract. Turn k of the loop lays the bytes of field k.
-- Assumes nothing.
use Prim.Native.Nat.{ℕ}
use mathlib.Core.List.{List, [], ◌∷◌}
use mathlib.Core.Path.{ap}
use native.Mathlib.Numerals.{add-one}
use lib.ListN.{length, get_or, drop}
use lib.Seq.{drop-cons, drop-length}
use Rattle.output.proofs.Placing.{Turns, turns_none, turns_more, turns_all}
use Rattle.site_encoding.specs.Encode.{field_bytes}
use Rattle.site_writer.proofs.put_fields.Goals as goal

-- the bytes of one field
one : List ℕ → ℕ → List ℕ
one fields k = field_bytes (get_or fields k 0 ∷ [])

by_fields : (fields : List ℕ) → Turns (length fields) (one fields) (λ k. field_bytes (drop k fields))
unfolding one
by_fields fields =
    record {
      more = λ k h. rw (add-one k) (ap field_bytes (drop-cons fields k 0 h));
      none = ap field_bytes (drop-length fields);
    }

pub loop-field-init : goal.loop-field-init
loop-field-init c = turns_none _ _ _ _ c.ranges.at.fits c.well_formed.0.0

pub loop-field-preserved : goal.loop-field-preserved
unfolding one
loop-field-preserved c =
    let put = c.put_field-end.ensures in
    turns_more _ _ _ (by_fields _) _ _ _ _ _ c.loop-field.invariant c.loop-field-test.true _ _ (put.place, put.buffer)

pub returns : goal.returns
returns c =
    let p = turns_all _ _ _ (by_fields _) _ _ _ _ _ c.loop-field.invariant c.loop-field-test.false in
    record { place = p.0; buffer = p.1 }
