-- The law of specs/Laws.antt, and the same of an answer: what is asked of an object's rows is what is asked of its relations.
-- Assumes nothing.
use Prim.Native.Nat.{ℕ, ◌<◌}
use mathlib.Core.Path.{◌≡◌, sym, ap, ap₂, ◌∙◌}
use mathlib.Core.Bool.{Bool, ◌&&◌, ◌||◌}
use lib.ListN.{get_or}
use Rattle.bits.specs.Bits.{bit}
use Rattle.bits.specs.Rows.{Rows, cells_of}
use Rattle.state.specs.Cells.{Pairs, width, pair}
use Rattle.relations.specs.Relations.{transpose}
use Rattle.relations.proofs.Laws.{pair_bit, transpose_reads}
use Rattle.access.specs.Lending.{Lending, step, lending_of}
use Rattle.access.specs.Answer.{longest, answer_within, answer, access}
use Rattle.access.specs.Claims.{is_steps}
use Rattle.access.proofs.Laws.{same_moves, reached_is_steps, access_is_steps}
use Rattle.search.specs.Rounds.{move_by, reachable}
use Rattle.search.specs.Laws
use Rattle.search.proofs.Layers.{reached_bit}

module _ (ds st : Rows) (tr : Pairs) (im ex : Rows) (o : ℕ) (turned : tr ≡ transpose (cells_of st)) where
  -- what the relations say of the object
  abbrev pub object : Lending
  object = lending_of (cells_of ds) (cells_of st) (cells_of im) (cells_of ex) o

  abbrev start : ℕ → Bool
  start = bit (get_or ds o 0)

  abbrev move : ℕ → ℕ → Bool
  move = move_by (cells_of st) tr (bit (get_or im o 0)) (bit (get_or ex o 0))

  pub same_step : (s r : ℕ) → s < width → r < width → move s r ≡ step object s r
  unfolding move_by step
  same_step s r hs hr =
      ap₂ (λ (a b : Bool). a || b) (ap (λ (b : Bool). b && pair (cells_of st) s r) (sym (pair_bit ex o s hs)))
      (ap₂ (λ (a b : Bool). a && b) (sym (pair_bit im o r hr)) (ap (λ (c : Pairs). pair c s r) turned ∙ transpose_reads (cells_of st) s r hs hr))

  pub same_answer : (a : ℕ) → answer_within start move longest a ≡ answer object a
  unfolding answer
  same_answer a = same_moves start object.defined_in move (step object) (λ b h. sym (pair_bit ds o b h)) same_step longest a

  reachable_access : (a : ℕ) → bit (reachable start move) a ≡ access object a
  unfolding reachable
  reachable_access a =
      reached_bit start move longest a ∙ reached_is_steps start move longest a ∙ ap is_steps (same_answer a) ∙ sym (access_is_steps object a)

pub reachable_is_access : Laws.ReachableIsAccess
reachable_is_access ds st tr im ex o a turned = reachable_access ds st tr im ex o turned a
