-- `lines::first_line` meets its contract.
-- Assumes nothing.
use Prim.Native.Nat.{ℕ, ◌+◌}
use mathlib.Core.Path.{◌≡◌, sym, ap, subst, ◌∙◌}
use mathlib.Core.List.{List}
use lib.ListN.{length}
use Rattle.std.proofs.Common.{le_refl}
use Rattle.lines.specs.Lines.{Line, line_number, first, first_line_of}
use Rattle.lines.specs.Claims.{NumberOfFirst}
use Rattle.lines.specs.declared.First.{First}
use Rattle.lines.proofs.Ended.{first_parted, first_unended, first_line_number}
use Rattle.lines.proofs.first_line.Goals as goal

-- the number is promised with the equation
promised : (bytes : List ℕ) (r : First) → r ≡ first_line_of bytes
    → (r ≡ first_line_of bytes) × NumberOfFirst bytes (line_number r.line)
promised bytes r e = (e, subst (λ (f : First). NumberOfFirst bytes (line_number f.line)) (sym e) (first_line_number bytes))

pub returns-in-Some : goal.returns-in-Some
returns-in-Some c =
    let parted = c.in-Some.ensures in
    let p = promised _ _ (ap (λ (l : Line). first l (length c.in-Some.text.now + 1)) c.read_line.ensures ∙ first_parted _ _ _ parted.0 parted.1) in
    record { equation = p.0; number = p.1 }

pub returns-in-None : goal.returns-in-None
returns-in-None c =
    let p = promised _ _ (sym (first_unended _ _ (sym c.in-None.ensures) (le_refl _))) in
    record { equation = p.0; number = p.1 }
