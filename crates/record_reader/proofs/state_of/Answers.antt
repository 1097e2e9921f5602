-- `record_reader::state_of` meets its contract: the test of the length, and the eight sets and relations, each from where it stands.
-- Assumes nothing.
use Prim.Native.Nat.{ℕ}
use mathlib.Core.Path.{◌≡◌, sym, ap, ◌∙◌}
use mathlib.Core.Bool.{Bool, false, ◌&&◌}
use mathlib.Core.List.{List}
use borrow.Author.Tests.{ne_eqb}
use borrow.Author.Rules.{rules}
use lib.ListN.{length}
use Rattle.state.specs.Below.{each_below}
use Rattle.state.specs.Cells.{Members, Pairs}
use Rattle.state.specs.Site.{user, area, object, owner, definition, structure, import, export, site_of}
use Rattle.state.specs.Stands.{site}
use Rattle.state.proofs.Bools.{is_true}
use Rattle.records.specs.Record.{record_size, is_byte, is_record, list_at, pairs_at, state_at}
use Rattle.records.proofs.Known.{record_state, no_record_empty}
use Rattle.records.proofs.Laws.{every_string}
use Rattle.record_reader.proofs.state_of.Goals as goal

-- bytes of another length
other_length : (bytes : List ℕ) → (length bytes ≡ record_size → ⊥) → is_record bytes ≡ false
unfolding is_record
other_length bytes h = ap (λ (b : Bool). b && each_below (length bytes) (is_byte bytes)) (ne_eqb (length bytes) record_size h)

-- the record, field by field
by_fields : (bytes : List ℕ) {us ar ob : Members} {ow de st im ex : Pairs}
    → us ≡ list_at bytes user → ar ≡ list_at bytes area → ob ≡ list_at bytes object
    → ow ≡ pairs_at bytes owner → de ≡ pairs_at bytes definition → st ≡ pairs_at bytes structure → im ≡ pairs_at bytes import → ex ≡ pairs_at bytes export
    → site_of us ar ob ow de st im ex ≡ state_at bytes
by_fields bytes us ar ob ow de st im ex i =
    record { users = us i; areas = ar i; objects = ob i; owners = ow i; definitions = de i; structure = st i; imports = im i; exports = ex i }

pub returns-then-bytes-ne-SIZE : goal.returns-then-bytes-ne-SIZE
returns-then-bytes-ne-SIZE c = c.empty.ensures ∙ sym (no_record_empty _ (other_length _ c.if-bytes-ne-SIZE.true))

pub returns : goal.returns
unfolding site
returns c =
    let bytes = c.args.bytes.now in
    by_fields bytes c.rows.ensures c.rows-2.ensures c.rows-3.ensures c.rows-4.ensures
    c.rows-5.ensures c.rows-6.ensures c.rows-7.ensures c.rows-8.ensures
    ∙ sym (record_state bytes (is_true (is_record bytes) (every_string bytes c.if-bytes-ne-SIZE.false (λ k. search rules))))
