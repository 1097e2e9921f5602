-- Not needed to believe a claim. What this crate's own functions promise each other, of rows of bits.
use Rattle.std.specs.Prelude.{ℕ, ◌≤◌, ◌≡◌, Bool, cond, List, get_or}
use Rattle.bits.specs.Bits.{bit, places, word}
use Rattle.bits.specs.Rows.{Rows, cells_of}
use Rattle.state.specs.Tabulate.{tabulate}
use Rattle.relations.specs.Relations.{transpose}
use Rattle.search.specs.Rounds.{move_by}
use Rattle.search.specs.declared.Object.{Object}
use Rattle.chains.specs.First.{leads_in}

-- one step of an object, by its rows and those of the structure
abbrev pub moves : Object → (structure : Rows) → ℕ → ℕ → Bool
moves o structure = move_by (cells_of structure) (transpose (cells_of structure)) (bit o.imported) (bit o.exported)

-- the counts, with n for each area of the row
unfoldable pub counted_as : (n areas : ℕ) → (counts : List ℕ) → List ℕ
counted_as n areas counts = tabulate places (λ a. cond (bit areas a) n (get_or counts a 0))

-- the areas from which n steps lead to area a
unfoldable pub leading_row : (ℕ → ℕ → Bool) → (a n : ℕ) → ℕ
leading_row move a n = word places (leads_in move a n)

-- so it is for the rows up to number n
abbrev pub AreLeading : (ℕ → ℕ → Bool) → (a n : ℕ) → Rows → Type 0
AreLeading move a n rows = (k : ℕ) → k ≤ n → get_or rows k 0 ≡ leading_row move a k
