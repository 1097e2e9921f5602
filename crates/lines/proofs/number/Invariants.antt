-- `lines::number` meets its contract. The loop's invariant: n is the number of the bytes that it has passed.
-- Assumes nothing.
use Prim.Native.Nat.{suc}
use mathlib.Core.Path.{◌≡◌}
use lib.ListN.{take}
use Rattle.std.proofs.Common.{Some}
use Rattle.lines.specs.Words.{word_number}
use Rattle.lines.proofs.number.Given as goal

abbrev pub invariant-loop-byte : goal.invariant-loop-byte
invariant-loop-byte l = word_number (take (suc l.byte-index) l.word) ≡ Some l.n
