-- `record_changes::owns_any` meets its contract.
-- Assumes nothing.
use Prim.Native.Nat.{ℕ, ◌+◌, ◌*◌, ◌≤◌, ◌<◌}
use mathlib.Core.Path.{◌≡◌, ◌∙◌}
use mathlib.Core.Bool.{not}
use mathlib.Core.List.{List}
use native.Mathlib.Omega.{arith}
use borrow.Author.Rules.{rules}
use lib.Dec.{T, eqb}
use lib.ListN.{length}
use Rattle.std.specs.List.{list_any, slice_range}
use Rattle.records.specs.Record.{is_record}
use Rattle.records.proofs.Laws.{record_length}
use Rattle.record_changes.proofs.Written.{holds_record}
use Rattle.record_changes.proofs.Owned.{owns_any_is}
use Rattle.record_changes.proofs.owns_any.Goals as goal

-- the row is there
room : (bytes : List ℕ) (u : ℕ) → T (is_record bytes) → u < 32 → 16 + u * 4 + 4 ≤ length bytes
room bytes u t h = omega (arith, record_length bytes t)

pub slice_bounds-iter-end : goal.slice_bounds-iter-end
slice_bounds-iter-end c = let there = room _ _ c.requires.0 c.requires.1 in search rules

pub returns : goal.returns
returns c =
    let from : ℕ = 16 + c.args.user * 4 in
    let asked : c.any.result ≡ list_any (λ b. not (eqb b 0)) (slice_range c.args.bytes.now from (from + 4)) = search rules in
    asked ∙ owns_any_is _ _ (holds_record _ c.requires.0) _ c.requires.1
