-- `site_writer::put_fields` meets its contract. Turn k of the loop lays the bytes of field k.
-- Assumes nothing.
use lib.ListN.{length, drop}
use Rattle.output.proofs.Placing.{LaidTo}
use Rattle.site_encoding.specs.Encode.{field_bytes}
use Rattle.site_writer.proofs.put_fields.Given as goal

abbrev pub invariant-loop-field : goal.invariant-loop-field
invariant-loop-field l =
    LaidTo (length l.fields) (λ k. field_bytes (drop k l.fields)) l.field-index l.at l.initial.out l.end l.out
