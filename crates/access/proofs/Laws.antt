-- The claims of specs/Claims.antt and the laws of specs/Laws.antt, each proved under its name.
-- Assumes nothing.
use Prim.Native.Nat.{ℕ, zero, suc, ◌≤◌, ◌<◌, zero-le}
use mathlib.Core.Path.{◌≡◌, refl, sym, ap, subst, ◌∙◌}
use mathlib.Core.Logic.{◌⊎◌, inl, inr}
use mathlib.Core.Bool.{Bool, true, false, ◌&&◌, not, cond}
use native.Mathlib.Omega.{arith}
use native.Mathlib.Decide.{dec_lt}
use native.Mathlib.Nat.{le_antisymm}
use borrow.Author.Tests.{ne_eqb}
use lib.Dec.{T, eqb}
use lib.ListN.{get_or, get_or-eq_default}
use Rattle.std.proofs.Common.{Some, None}
use Rattle.state.specs.Site.{area, object, limit, owner, definition, structure, import, export, related, with_pair}
use Rattle.state.specs.Site.{Site}
use Rattle.state.proofs.Bools.{or_left, or_right, or_cases, and_both, and_left, and_right, is_true, is_false, fails, holds}
use Rattle.state.proofs.Tabulate.{length_tabulate, get_or_tabulate}
use Rattle.state.proofs.Laws.{related_other, related_outside, add_keeps_pairs, remove_adds_none}
use Rattle.access.specs.Lending.{Lending, step, lending}
use Rattle.access.specs.Chain.{Chain, here, onward, ObjectChain}
use Rattle.access.specs.Answer.{Answer, longest, has, reached, answer_within, next_answer, answer, access, unreached}
use Rattle.access.specs.Answer.{answer_number, counts_within, least_counts, least_count}
use Rattle.access.specs.Claims
use Rattle.access.specs.Claims.{InSteps, RightWithin, Right, is_steps}
use Rattle.access.specs.Laws
use Rattle.access.specs.Laws.{Included}
use Rattle.access.proofs.Reach.{chain_area, reached_area, chain_of, reached_by}
use Rattle.access.proofs.Saturate

pub short_chains : Laws.ShortChains
short_chains = Saturate.short_chains

-- ---- the answer is right
module _ (start : ℕ → Bool) (move : ℕ → ℕ → Bool) where
  -- no chain is so short to an area that is not reached
  none_within : (n a : ℕ) → has (reached start move n) a ≡ false → (m : ℕ) → m ≤ n → Chain start move m a → ⊥
  none_within n a e m h c = fails e (reached_by start move n c h)

  -- what a chain up to n + 1 steps says of an area that no shorter one reaches
  first_reached : (n a : ℕ) → ((m : ℕ) → m ≤ n → Chain start move m a → ⊥) → T (has (reached start move (suc n)) a) → InSteps start move (suc n) a (suc n)
  first_reached n a none t =
      let r = chain_of start move (suc n) a t in
      record { shortest = record { chain = subst (λ (k : ℕ). Chain start move k a) (last r.0 r.1 r.2) r.2; least = longer }; short = omega arith }
    where
      longer : (m : ℕ) → Chain start move m a → suc n ≤ m
      longer m c = go (dec_lt n m)
        where
          go : Dec (n < m) → suc n ≤ m
          go (yes h) = h
          go (no h) = absurd (none m (omega arith) c)

      last : (m : ℕ) → m ≤ suc n → Chain start move m a → m ≡ suc n
      last m h c = omega (arith, longer m c)

  right_at_start : (a : ℕ) (b : Bool) → has (reached start move 0) a ≡ b → RightWithin start move 0 a (cond b (Some 0) None)
  right_at_start a true e =
      let r = chain_of start move 0 a (holds e) in
      let first : r.0 ≡ 0 = omega (arith, r.1) in
      record { shortest = record { chain = subst (λ (k : ℕ). Chain start move k a) first r.2; least = λ m c. zero-le }; short = zero-le }
  right_at_start a false e = none_within 0 a e

  right_next : (n a : ℕ) (x : Answer) (b : Bool) → has (reached start move (suc n)) a ≡ b → RightWithin start move n a x → RightWithin start move (suc n) a (next_answer x n b)
  right_next n a (Some k) b e r = record { shortest = r.shortest; short = omega (arith, r.short) }
  right_next n a None true e r = first_reached n a r (holds e)
  right_next n a None false e r = none_within (suc n) a e

pub answer_within_is_right : Laws.AnswerWithinIsRight
unfolding answer_within
answer_within_is_right start move zero a = right_at_start start move a (has (reached start move zero) a) refl
answer_within_is_right start move (suc n) a =
    right_next start move n a (answer_within start move n a) (has (reached start move (suc n)) a) refl (answer_within_is_right start move n a)

pub answer_is_right : Claims.AnswerIsRight
unfolding answer
answer_is_right l a = answer_within_is_right l.defined_in (step l) longest a

-- two answers that are right up to n steps are one
one_within : (start : ℕ → Bool) (move : ℕ → ℕ → Bool) (n a : ℕ) (x y : Answer) → RightWithin start move n a x → RightWithin start move n a y → x ≡ y
one_within start move n a (Some k) (Some m) p q = ap Some (le_antisymm (p.shortest.least m q.shortest.chain) (q.shortest.least k p.shortest.chain))
one_within start move n a (Some k) None p q = absurd (q k p.short p.shortest.chain)
one_within start move n a None (Some m) p q = absurd (p m q.short q.shortest.chain)
one_within start move n a None None p q = refl

pub one_answer : Claims.OneAnswer
one_answer l a = one_within l.defined_in (step l) longest a

pub no_access_exactly : Claims.NoAccessExactly
unfolding longest
no_access_exactly l a = (
  λ e n h. subst (Right l a) e (answer_is_right l a) n (omega (arith, h)),
  λ none. one_answer l a (answer l a) None (answer_is_right l a) (λ n h. none n (omega (arith, h))),
)

-- ---- access
-- an area is reached within n steps where the answer up to n is a number of steps
pub reached_is_steps : (start : ℕ → Bool) (move : ℕ → ℕ → Bool) (n a : ℕ) → has (reached start move n) a ≡ is_steps (answer_within start move n a)
reached_is_steps start move n a = go (answer_within start move n a) (answer_within_is_right start move n a)
  where
    go : (x : Answer) → RightWithin start move n a x → has (reached start move n) a ≡ is_steps x
    go (Some k) r = is_true (has (reached start move n) a) (reached_by start move n r.shortest.chain r.short)
    go None r = is_false (has (reached start move n) a) (λ t. let c = chain_of start move n a t in r c.0 c.1 c.2)

pub access_is_steps : Claims.AccessIsSteps
unfolding access answer
access_is_steps l a = reached_is_steps l.defined_in (step l) longest a

pub access_is_chain : Claims.AccessIsChain
unfolding access longest
access_is_chain l a = (
  λ t. let c = chain_of l.defined_in (step l) longest a t in (c.0, omega (arith, c.1), c.2),
  λ r. reached_by l.defined_in (step l) longest r.2 (omega (arith, r.1)),
)

pub never_above : Claims.NeverAbove
unfolding longest
never_above l a n e = let r = subst (Right l a) e (answer_is_right l a) in omega (arith, r.short)

-- the count of an area in the table of counts
pub count_at : (start : ℕ → Bool) (move : ℕ → ℕ → Bool) (n a : ℕ) → a < limit area → get_or (counts_within start move n) a 0 ≡ answer_number (answer_within start move n a)
unfolding counts_within
count_at start move n a h = get_or_tabulate _ (limit area) a 0 h

pub count_is_answer : Laws.CountIsAnswer
unfolding least_counts answer
count_is_answer l a h = count_at l.defined_in (step l) longest a h

pub counts_length : Laws.CountsLength
unfolding least_counts counts_within
counts_length l = length_tabulate _ (limit area)

-- no chain leads past the areas
pub outside : (l : Lending) (a : ℕ) → limit area ≤ a → answer l a ≡ None
outside l a h =
    one_answer l a (answer l a) None (answer_is_right l a)
    (λ n short c. let inside = chain_area l.defined_in (step l) c in omega arith)

count_inside : (l : Lending) (a : ℕ) → a < limit area → answer_number (answer l a) ≡ least_count l a
unfolding least_counts counts_within answer
count_inside l a h = sym (get_or_tabulate _ (limit area) a _ h)

count_outside : (l : Lending) (a : ℕ) → limit area ≤ a → least_count l a ≡ unreached
unfolding least_counts counts_within
count_outside l a h = get_or-eq_default (least_counts l) unreached (rw (length_tabulate _ (limit area)) h)

pub number_is_count : Laws.NumberIsCount
number_is_count l a = go (dec_lt a (limit area))
  where
    go : Dec (a < limit area) → answer_number (answer l a) ≡ least_count l a
    go (yes h) = count_inside l a h
    go (no h) =
        let past : limit area ≤ a = omega arith in
        ap answer_number (outside l a past) ∙ sym (count_outside l a past)

-- no number of steps is that of 'no access'
counted : (l : Lending) (a : ℕ) (x : Answer) → Right l a x → is_steps x ≡ not (eqb (answer_number x) unreached)
unfolding longest
counted l a (Some k) r = sym (ap not (ne_eqb k unreached (λ e. omega (arith, r.short))))
counted l a None r = refl

pub access_is_count : Laws.AccessIsCount
access_is_count l a h =
    access_is_steps l a ∙ counted l a (answer l a) (answer_is_right l a) ∙ ap (λ (n : ℕ). not (eqb n unreached)) (sym (count_is_answer l a h))

pub access_is_area : Laws.AccessIsArea
unfolding access
access_is_area l a t = reached_area l.defined_in (step l) longest a t

-- the area where a chain starts
chain_start : {start : ℕ → Bool} {move : ℕ → ℕ → Bool} {n a : ℕ} → Chain start move n a → (d : ℕ) × (d < limit area) × T (start d)
chain_start (here {a = d} h t) = (d, h, t)
chain_start (onward c h t) = chain_start c

pub access_is_defined : Laws.AccessIsDefined
access_is_defined l a t = chain_start ((access_is_chain l a).0 t).2

-- ---- more pairs
-- a chain stays one where more starts and more steps are allowed
chain_by : (start start' : ℕ → Bool) (move move' : ℕ → ℕ → Bool)
    → ((a : ℕ) → a < limit area → T (start a) → T (start' a)) → ((s r : ℕ) → s < limit area → r < limit area → T (move s r) → T (move' s r))
    → {n a : ℕ} → Chain start move n a → Chain start' move' n a
chain_by start start' move move' f g (here h t) = here h (f _ h t)
chain_by start start' move move' f g (onward c h t) = onward (chain_by start start' move move' f g c) h (g _ _ (chain_area start move c) h t)

pub definer_in_no_step : Claims.DefinerInNoStep
definer_in_no_step l a h t =
    one_answer l a (answer l a) (Some 0) (answer_is_right l a)
    (record { shortest = record { chain = here h t; least = λ m c. zero-le }; short = zero-le })

-- where the chains are the same, so are the answers
same_within : (start start' : ℕ → Bool) (move move' : ℕ → ℕ → Bool) (n a : ℕ)
    → ((m : ℕ) → Chain start move m a → Chain start' move' m a) → ((m : ℕ) → Chain start' move' m a → Chain start move m a) → answer_within start move n a ≡ answer_within start' move' n a
same_within start start' move move' n a there back =
    one_within start' move' n a (answer_within start move n a) (answer_within start' move' n a)
    (go (answer_within start move n a) (answer_within_is_right start move n a)) (answer_within_is_right start' move' n a)
  where
    go : (x : Answer) → RightWithin start move n a x → RightWithin start' move' n a x
    go (Some k) r =
        record { shortest = record { chain = there k r.shortest.chain; least = λ m c. r.shortest.least m (back m c) }; short = r.short }
    go None r = λ m h c. r m h (back m c)

step_included : (l k : Lending) → Included l k → (s r : ℕ) → s < limit area → r < limit area → T (step l s r) → T (step k s r)
unfolding step
step_included l k included s r hs hr t = go (or_cases (l.exported_by s && l.within s r) (l.imported_by r && l.within r s) t)
  where
    both : (a b c d : Bool) → (T a → T c) → (T b → T d) → T (a && b) → T (c && d)
    both a b c d f g h = and_both c d (f (and_left a b h)) (g (and_right a b h))

    go : T (l.exported_by s && l.within s r) ⊎ T (l.imported_by r && l.within r s) → T (step k s r)
    go (inl h) = or_left (k.exported_by s && k.within s r) _ (both (l.exported_by s) (l.within s r) (k.exported_by s) (k.within s r) (included.exported_by s hs) (included.within s r hs hr) h)
    go (inr h) = or_right (k.exported_by s && k.within s r) _ (both (l.imported_by r) (l.within r s) (k.imported_by r) (k.within r s) (included.imported_by r hr) (included.within r s hr hs) h)

chain_included : (l k : Lending) → Included l k → (n a : ℕ) → ObjectChain l n a → ObjectChain k n a
chain_included l k included n a c = chain_by l.defined_in k.defined_in (step l) (step k) included.defined_in (step_included l k included) c

pub more_keeps_access : Laws.MoreKeepsAccess
more_keeps_access l k included a t =
    let c = (access_is_chain l a).0 t in
    (access_is_chain k a).1 (c.0, c.1, chain_included l k included c.0 a c.2)

pub equal_answers : Laws.EqualAnswers
unfolding answer
equal_answers l k there back a =
    same_within l.defined_in k.defined_in (step l) (step k) longest a (λ m. chain_included l k there m a) (λ m. chain_included k l back m a)

-- ---- equal starts and moves
pub same_moves : Laws.SameMoves
same_moves start start' move move' es em n a =
    same_within start start' move move' n a
    (λ m. chain_by start start' move move' (λ b h t. subst T (es b h) t) (λ s r hs hr t. subst T (em s r hs hr) t))
    (λ m. chain_by start' start move' move (λ b h t. subst T (sym (es b h)) t) (λ s r hs hr t. subst T (sym (em s r hs hr)) t))

-- ---- of a state
pub access_is_object : Laws.AccessIsObject
access_is_object s o a shaped t = go (dec_lt o (limit object))
  where
    go : Dec (o < limit object) → o < limit object
    go (yes h) = h
    go (no h) =
        let d = access_is_defined (lending s o) a t in
        absurd (fails (related_outside s definition o d.0 shaped (inl (omega arith))) d.2)

-- two states that say the same of the object
same_lending : (s t : Site) (o : ℕ)
    → ((a : ℕ) → related s definition o a ≡ related t definition o a) → ((a : ℕ) → related s import o a ≡ related t import o a)
    → ((a : ℕ) → related s export o a ≡ related t export o a) → ((a b : ℕ) → related s structure a b ≡ related t structure a b) → lending s o ≡ lending t o
same_lending s t o d m e w i = record { defined_in = λ a. d a i; imported_by = λ a. m a i; exported_by = λ a. e a i; within = λ a b. w a b i }

-- two names of relations or kinds are not the same: `cc` makes 0 ≡ 1 of an equation between them
not_the_same : ◌≡◌ {A = ℕ} 0 1 → ⊥
not_the_same e = omega arith

pub other_pairs : Laws.OtherPairs
other_pairs s owner p j v o d = refl
other_pairs s definition p j v o (inl e) = absurd (not_the_same (cc))
other_pairs s definition p j v o (inr h) =
    same_lending (with_pair s definition p j v) s o (λ a. related_other s definition p j o a v (λ e q. h.1 e)) (λ a. refl) (λ a. refl) (λ a b. refl)
other_pairs s structure p j v o (inl e) = absurd (not_the_same (cc))
other_pairs s structure p j v o (inr h) = absurd (not_the_same (cc))
other_pairs s import p j v o (inl e) = absurd (not_the_same (cc))
other_pairs s import p j v o (inr h) =
    same_lending (with_pair s import p j v) s o (λ a. refl) (λ a. related_other s import p j o a v (λ e q. h.1 e)) (λ a. refl) (λ a b. refl)
other_pairs s export p j v o (inl e) = absurd (not_the_same (cc))
other_pairs s export p j v o (inr h) =
    same_lending (with_pair s export p j v) s o (λ a. refl) (λ a. refl) (λ a. related_other s export p j o a v (λ e q. h.1 e)) (λ a b. refl)

pub lists_do_not_matter : Laws.ListsDoNotMatter
lists_do_not_matter s k i v o = refl

pub added_is_included : Laws.AddedIsIncluded
added_is_included s r i j o =
    record {
      defined_in = λ a h. add_keeps_pairs s r definition i j o a;
      imported_by = λ a h. add_keeps_pairs s r import i j o a;
      exported_by = λ a h. add_keeps_pairs s r export i j o a;
      within = λ a b h g. add_keeps_pairs s r structure i j a b;
    }

pub removed_is_included : Laws.RemovedIsIncluded
removed_is_included s r i j o =
    record {
      defined_in = λ a h. remove_adds_none s r definition i j o a;
      imported_by = λ a h. remove_adds_none s r import i j o a;
      exported_by = λ a h. remove_adds_none s r export i j o a;
      within = λ a b h g. remove_adds_none s r structure i j a b;
    }
