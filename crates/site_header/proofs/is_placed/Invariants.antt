-- `site_header::is_placed` meets its contract. The loop's invariant: whether the tables that are left are placed from
-- here on decides.
-- Assumes nothing.
use Prim.Native.Nat.{ℕ, ◌+◌, ◌*◌, ◌≤◌}
use mathlib.Core.Path.{◌≡◌}
use Rattle.site_format.specs.Format as F
use Rattle.site_format.specs.Format.{header_size}
use Rattle.site_header.specs.Header.{placed_from}
use Rattle.site_header.proofs.Loop.{left_from}
use Rattle.site_header.proofs.is_placed.Given as goal

-- two numbers of 16 bits
abbrev pub largest : ℕ
largest = 65535 * 65535

abbrev pub invariant-loop-table : goal.invariant-loop-table
invariant-loop-table l =
    (l.at ≤ header_size + l.table-index * largest)
    × (placed_from l.file (left_from l.table-items l.table-index) l.at ≡ placed_from l.file F.tables header_size)
