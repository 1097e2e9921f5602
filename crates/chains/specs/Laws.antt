-- What the layers above use. Each law is a type, which proofs/Laws.antt inhabits under the law's name.
use Rattle.std.specs.Prelude.{ℕ, ◌≤◌, ◌<◌, ◌≡◌, Bool, true, false, []}
use Rattle.state.specs.Site.{area, limit}
use Rattle.access.specs.Lending.{Lending, step}
use Rattle.access.specs.Answer.{longest}
use Rattle.chains.specs.First.{leads_in, is_open, walk, first_chain}

-- ---- a chain is found by trying one number of steps after the other
-- the first number in which steps lead from a definer to the area is that of the first chain
abbrev pub FirstByTrying : Type 0
FirstByTrying =
    (l : Lending) (a n : ℕ) → n ≤ longest → is_open (step l) a n l.defined_in ≡ true
    → ((m : ℕ) → m < n → is_open (step l) a m l.defined_in ≡ false)
    → first_chain l a ≡ walk (step l) a n l.defined_in

-- and where none up to the limit does, there is no chain
abbrev pub NoneByTrying : Type 0
NoneByTrying =
    (l : Lending) (a : ℕ) → ((m : ℕ) → m ≤ longest → is_open (step l) a m l.defined_in ≡ false)
    → first_chain l a ≡ []

-- ---- what is at hand and the moves matter among the areas alone
abbrev pub SameLeads : Type 0
SameLeads =
    (move move' : ℕ → ℕ → Bool) → ((s r : ℕ) → s < limit area → r < limit area → move s r ≡ move' s r)
    → (a n s : ℕ) → s < limit area → leads_in move a n s ≡ leads_in move' a n s

abbrev pub SameWalk : Type 0
SameWalk =
    (start start' : ℕ → Bool) (move move' : ℕ → ℕ → Bool) → ((a : ℕ) → a < limit area → start a ≡ start' a)
    → ((s r : ℕ) → s < limit area → r < limit area → move s r ≡ move' s r)
    → (a n : ℕ) → is_open move a n start ≡ true → walk move a n start ≡ walk move' a n start'
