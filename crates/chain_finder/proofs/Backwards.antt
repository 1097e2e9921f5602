-- The rows of the areas that lead to an area, found backwards, and the first chain by them.
--     leading_more                      one step more: a step is gone back by a step with imports and exports exchanged
--     Tried                             what a loop over the numbers of steps has found
--     tried_none, tried_more            before the first turn, and one turn more
--     tried_rows, tried_open            the rows with the last, and what a row says of the areas at hand
--     tried_empty                       by an empty row none of them leads on, in any number of steps
--     chain_none, chain_found           that there is no chain, and the first one
-- Assumes nothing.
use Prim.Native.Nat.{ℕ, zero, suc, ◌+◌, ◌<◌, ◌≤◌}
use mathlib.Core.Path.{◌≡◌, refl, sym, ap, ap₂, subst, ◌∙◌}
use mathlib.Core.Bool.{Bool, true, false, ◌&&◌, ◌||◌, not, and_comm, or_comm}
use mathlib.Core.List.{List, []}
use native.Mathlib.Omega.{arith}
use native.Mathlib.Decide.{ℕ_discrete, dec_lt}
use native.Mathlib.Numerals.{add-one}
use lib.ListN.{length, get_or, set, replicate, length-set, length-replicate}
use lib.Seq.{get_or-set_same, get_or-set_other}
use Rattle.bits.specs.Bits.{bit, places, with_bit, intersection, is_empty}
use Rattle.bits.specs.Rows.{Rows, cells_of}
use Rattle.bits.proofs.Laws.{same_word, empty_decided}
use Rattle.state.specs.Cells.{Pairs, width, pair}
use Rattle.state.proofs.Below.{some_at, some_same}
use Rattle.state.proofs.Bools.{and_right, is_false, holds, fails}
use Rattle.relations.specs.Relations.{transpose}
use Rattle.relations.proofs.Laws.{pair_bit, transpose_reads}
use Rattle.access.specs.Lending.{Lending, step, lending_of}
use Rattle.access.specs.Answer.{longest}
use Rattle.search.specs.Rounds.{move_by, next_to}
use Rattle.search.specs.declared.Object.{Object}
use Rattle.search.proofs.Laws.{same_step}
use Rattle.chains.specs.First.{leads_in, is_open, walk, first_chain}
use Rattle.chains.proofs.Laws.{first_by_trying, none_by_trying, same_leads, same_walk, nine_at_most}
use Rattle.output.specs.Buffer.{laid, place_behind}
use Rattle.output.proofs.Placing.{Placed, place_counts}
use Rattle.chain_finder.specs.Parts.{moves, leading_row, AreLeading}
use Rattle.chain_finder.proofs.Walking.{leading_none, leading_bit, leading_fits, open_some}

module _ (st : Pairs) (imported exported a : ℕ) where
  -- a step, and one with imports and exports exchanged
  abbrev pub move : ℕ → ℕ → Bool
  move = move_by st (transpose st) (bit imported) (bit exported)

  abbrev back : ℕ → ℕ → Bool
  back = move_by st (transpose st) (bit exported) (bit imported)

  step_back : (s r : ℕ) → s < width → r < width → back s r ≡ move r s
  unfolding move_by
  step_back s r hs hr =
      ap₂ (λ (x y : Bool). (bit imported s && x) || (bit exported r && y)) (sym (transpose_reads st r s hr hs)) (transpose_reads st s r hs hr)
      ∙ or_comm (bit imported s && pair (transpose st) r s) (bit exported r && pair st r s)

  leading_more : (n : ℕ) → next_to back (leading_row move a n) ≡ leading_row move a (suc n)
  unfolding next_to leading_row leads_in
  leading_more n =
      same_word places _ _
      (λ s h. some_same _ _ places
      (λ r k. ap₂ (λ (x y : Bool). x && y) (leading_bit move a n r k) (step_back r s k h) ∙ and_comm (leads_in move a n r) (move s r)))

  -- where no area leads to the area in n steps, none at hand does, and none in more
  abbrev NoneLeads : ℕ → Type 0
  NoneLeads n = (s : ℕ) → s < places → leads_in move a n s ≡ false

  closed : (n : ℕ) → NoneLeads n → (hand : ℕ → Bool) → is_open move a n hand ≡ false
  closed n far hand = is_false _ (λ t. let f = some_at _ places t in fails (far f.place f.below) (and_right (hand f.place) _ f.met))

  no_longer : (n m : ℕ) → n ≤ m → NoneLeads n → NoneLeads m
  unfolding leads_in
  no_longer n zero h far = let same : n ≡ 0 = omega arith in subst NoneLeads same far
  no_longer n (suc m) h far = go (λ l. no_longer n m l far) (ℕ_discrete (suc m) n)
    where
      go : (n ≤ m → NoneLeads m) → Dec (suc m ≡ n) → NoneLeads (suc m)
      go before (yes e) = subst NoneLeads (sym e) far
      go before (no ne) = λ s k. closed m (before (omega arith)) (move s)

  -- before turn n: its row is at hand, and those before it are kept, by which no area at hand leads on
  pub record Tried (defined n row : ℕ) (rows : Rows) : Type 0 where
    pub long : length rows ≡ 9
    pub here : row ≡ leading_row move a n
    pub each : (k : ℕ) → k < n → get_or rows k 0 ≡ leading_row move a k
    pub none : (m : ℕ) → m < n → is_open move a m (bit defined) ≡ false

  module _ (defined : ℕ) where
    pub tried_none : (row : ℕ) → row ≡ with_bit 0 a true → Tried defined 0 row (replicate 9 0)
    tried_none row e =
        record {
          long = length-replicate {A = ℕ} 9 0;
          here = e ∙ leading_none move a;
          each = λ k h. absurd (omega arith);
          none = λ m h. absurd (omega arith);
        }

    module _ (n row : ℕ) (rows : Rows) (h : n < 9) (w : Tried defined n row rows) where
      pub tried_rows : AreLeading move a n (set rows n row)
      tried_rows k l = go (ℕ_discrete k n)
        where
          go : Dec (k ≡ n) → get_or (set rows n row) k 0 ≡ leading_row move a k
          go (yes e) = rw e (get_or-set_same rows n row 0 (rw w.long h) ∙ w.here)
          go (no ne) = get_or-set_other rows n k row 0 ne ∙ w.each k (omega arith)

      -- whether an area that defines the object is in the row, by what the calls promise
      pub tried_open : (starts : ℕ) (empty v : Bool) → starts ≡ intersection defined row → empty ≡ is_empty starts → not empty ≡ v
          → is_open move a n (bit defined) ≡ v
      tried_open starts empty v es ee ev =
          open_some move a n defined ∙ ap (λ (r : ℕ). not (is_empty (intersection defined r))) (sym w.here) ∙ ap (λ (r : ℕ). not (is_empty r)) (sym es)
          ∙ ap not (sym ee) ∙ ev

      -- the row is empty, by what the call promises
      pub tried_empty : (empty : Bool) → empty ≡ is_empty row → empty ≡ true → (m : ℕ) → is_open move a m (bit defined) ≡ false
      tried_empty empty ee et m = go (dec_lt m n)
        where
          far : NoneLeads n
          far s l =
              sym (leading_bit move a n s l)
              ∙ (empty_decided (leading_row move a n) (leading_fits move a n)).0 (holds (ap is_empty (sym w.here) ∙ sym ee ∙ et)) s l

          go : Dec (m < n) → is_open move a m (bit defined) ≡ false
          go (yes l) = w.none m l
          go (no l) = closed m (no_longer n m (omega arith) far) (bit defined)

      pub tried_more : (before : ℕ) → is_open move a n (bit defined) ≡ false → before ≡ next_to back row → Tried defined (n + 1) before (set rows n row)
      tried_more before far e =
          record {
            long = length-set rows n row ∙ w.long;
            here = e ∙ ap (next_to back) w.here ∙ leading_more n ∙ ap (leading_row move a) (sym (add-one n));
            each = λ k l. tried_rows k (omega arith);
            none = λ m l. none m l (ℕ_discrete m n);
          }
        where
          none : (m : ℕ) → m < n + 1 → Dec (m ≡ n) → is_open move a m (bit defined) ≡ false
          none m l (yes q) = rw q far
          none m l (no q) = w.none m (omega arith)

-- ---- the first chain, of an object that is given by its relations
module _ (ds st im ex : Rows) (o a : ℕ) where
  abbrev object : Lending
  object = lending_of (cells_of ds) (cells_of st) (cells_of im) (cells_of ex) o

  abbrev start : ℕ → Bool
  start = bit (get_or ds o 0)

  abbrev steps : ℕ → ℕ → Bool
  steps = move (cells_of st) (get_or im o 0) (get_or ex o 0) a

  starts : (s : ℕ) → s < width → start s ≡ object.defined_in s
  starts s h = sym (pair_bit ds o s h)

  same_moves : (s r : ℕ) → s < width → r < width → steps s r ≡ step object s r
  same_moves = same_step ds st (transpose (cells_of st)) im ex o refl

  same_open : (n : ℕ) → is_open steps a n start ≡ is_open (step object) a n object.defined_in
  same_open n = some_same _ _ width (λ s h. ap₂ (λ (x y : Bool). x && y) (starts s h) (same_leads steps (step object) same_moves a n s h))

  module _ (rows : Object) (e : rows ≡ record { defined = get_or ds o 0; imported = get_or im o 0; exported = get_or ex o 0 }) where
    -- the steps on the rows of the object
    abbrev given : ℕ → ℕ → Bool
    given = moves rows st

    given_open : (n : ℕ) (v : Bool) → is_open given a n (bit rows.defined) ≡ v → is_open (step object) a n object.defined_in ≡ v
    given_open n v t = sym (same_open n) ∙ (rw e at t)

    pub chain_none : ((n : ℕ) → n ≤ longest → is_open given a n (bit rows.defined) ≡ false) → (out : List ℕ)
        → (0 ≡ length (first_chain object a)) × (out ≡ laid (first_chain object a) 0 out)
    unfolding laid
    chain_none far out =
        let none : first_chain object a ≡ [] = none_by_trying object a (λ n h. given_open n false (far n h)) in
        (sym (ap length none), sym (ap (λ (text : List ℕ). laid text 0 out) none))

    module _ (n row : ℕ) (kept : Rows) (w : Tried (cells_of st) rows.imported rows.exported a rows.defined n row kept) where
      first_is : n ≤ longest → is_open given a n (bit rows.defined) ≡ true → walk given a n (bit rows.defined) ≡ first_chain object a
      first_is h t =
          rw e (same_walk start object.defined_in steps (step object) starts same_moves a n (rw e at t))
          ∙ sym (first_by_trying object a n h (given_open n true t) (λ k l. given_open k false (w.none k l)))

      pub chain_found : n ≤ longest → is_open given a n (bit rows.defined) ≡ true → (before : List ℕ) (end : ℕ) (after : List ℕ)
          → Placed (walk given a n (bit rows.defined)) 0 before end after
          → (end ≡ length (first_chain object a)) × (after ≡ laid (first_chain object a) 0 before)
      chain_found h t before end after p =
          let same = first_is h t in
          let short : length (first_chain object a) ≤ 9 = nine_at_most object a in
          let counts : 0 + length (first_chain object a) ≡ length (first_chain object a) = omega arith in (
            p.0 ∙ ap (place_behind 0) same ∙ place_counts 0 (first_chain object a) (omega arith) ∙ counts,
            p.1 ∙ ap (λ (text : List ℕ). laid text 0 before) same,
          )
