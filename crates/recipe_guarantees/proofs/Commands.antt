-- The claims of specs/Commands.antt, each proved under its name.
-- Assumes nothing.
use Prim.Native.Nat.{ℕ, ◌≤◌}
use mathlib.Core.Path.{◌≡◌, refl, sym, ap, subst, ◌∙◌}
use mathlib.Core.List.{List, [], ◌∷◌, ◌++◌}
use native.Mathlib.Omega.{arith}
use native.Mathlib.Decide.{ℕ_discrete}
use borrow.Author.Tests.{eq-eqb, ne_eqb}
use lib.Dec.{T}
use lib.ListN.{length}
use Rattle.state.specs.Site.{Site, owns}
use Rattle.instructions.specs.Instructions.{Bytes}
use Rattle.machine.specs.Step.{step_of, run}
use Rattle.machine.proofs.Laws.{run_none, run_more}
use Rattle.guarantees.specs.Demand3.{Silent, silent_end, silent_next, Upheld}
use Rattle.guarantees.proofs.Demand3.{demand_3}
use Rattle.recipes.specs.Recipe.{recipe_instructions}
use Rattle.recipes.specs.Run.{recipe_of}
use Rattle.recipes.specs.declared.Call.{Call}
use Rattle.recipes.specs.Laws.{AllBy, by_none, by_next}
use Rattle.recipes.proofs.Laws.{one_to_sixteen, one_activator}
use Rattle.recipe_guarantees.specs.Commands
use Rattle.recipe_guarantees.specs.Commands.{Command, single, recipe, after, after_all, counted, all_counted, Quiet, quiet_end, quiet_single, quiet_recipe}
use Rattle.recipe_guarantees.proofs.Laws.{all_or_nothing}

-- ---- what a recipe counts as
module _ (s : Site) (bytes : List ℕ) (call : Call) where
  accepted_counts : (recipe_of s bytes call).refusal ≡ 0 → counted s (recipe bytes call) ≡ recipe_instructions call bytes
  accepted_counts e = rw (eq-eqb (recipe_of s bytes call).refusal 0 e) refl

  refused_counts : ((recipe_of s bytes call).refusal ≡ 0 → ⊥) → counted s (recipe bytes call) ≡ []
  refused_counts f = rw (ne_eqb (recipe_of s bytes call).refusal 0 f) refl

-- ---- commands are run
run_append : (s : Site) (l m : List Bytes) → run s (l ++ m) ≡ run (run s l) m
run_append s [] m = ap (λ (t : Site). run t m) (sym (run_none s))
run_append s (x ∷ l) m =
    run_more s x (l ++ m) ∙ run_append (step_of s x).state l m ∙ ap (λ (t : Site). run t m) (sym (run_more s x l))

after_is_run : (s : Site) (c : Command) → after s c ≡ run s (counted s c)
after_is_run s (single x) = sym (run_more s x [] ∙ run_none (step_of s x).state)
after_is_run s (recipe bytes call) = go (ℕ_discrete (recipe_of s bytes call).refusal 0)
  where
    go : Dec ((recipe_of s bytes call).refusal ≡ 0) → (recipe_of s bytes call).state ≡ run s (counted s (recipe bytes call))
    go (yes e) = (all_or_nothing s bytes call).entirely e ∙ ap (run s) (sym (accepted_counts s bytes call e))
    go (no f) = (all_or_nothing s bytes call).not_at_all f ∙ sym (ap (run s) (refused_counts s bytes call f) ∙ run_none s)

pub commands_are_run : Commands.CommandsAreRun
unfolding after_all all_counted
commands_are_run s [] = sym (run_none s)
commands_are_run s (c ∷ rest) =
    commands_are_run (after s c) rest
    ∙ ap (λ (t : Site). run t (all_counted (after s c) rest)) (after_is_run s c)
    ∙ sym (run_append s (counted s c) (all_counted (after s c) rest))

pub commands_upheld : Commands.CommandsUpheld
commands_upheld s cs h = subst (Upheld s (all_counted s cs)) (sym (commands_are_run s cs)) (demand_3 s (all_counted s cs) h)

-- ---- who is silent
module _ (start : Site) (p u : ℕ) where
  -- a list of instructions by one activator, with more behind it
  silent_list : (l m : List Bytes) → AllBy u l → (T (owns start u p) → ⊥) → Silent start p m → Silent start p (l ++ m)
  silent_list [] m by_none f others = others
  silent_list (x ∷ l) m (by_next e by) f others = silent_next (λ t. f (subst (λ (w : ℕ). T (owns start w p)) e t)) (silent_list l m by f others)

  silent_behind : (l m : List Bytes) → Silent start p (l ++ m) → Silent start p m
  silent_behind [] m q = q
  silent_behind (x ∷ l) m (silent_next f others) = silent_behind l m others

  -- he is heard if there is one at all
  silent_by : (l m : List Bytes) → AllBy u l → 1 ≤ length l → Silent start p (l ++ m) → T (owns start u p) → ⊥
  silent_by [] m by_none h q t = omega arith
  silent_by (x ∷ l) m (by_next e by) h (silent_next f others) t = f (subst (λ (w : ℕ). T (owns start w p)) (sym e) t)

module _ (start s : Site) (p : ℕ) (bytes : List ℕ) (call : Call) (m : List Bytes) where
  abbrev behind : List Bytes
  behind = counted s (recipe bytes call) ++ m

  -- an accepted recipe has an instruction, by the activator of the call
  some_instruction : (recipe_of s bytes call).refusal ≡ 0 → 1 ≤ length (recipe_instructions call bytes)
  some_instruction e = (one_to_sixteen bytes call ((all_or_nothing s bytes call).accepted_exactly.0 e).formed).0

  to_silent : ((recipe_of s bytes call).refusal ≡ 0 → T (owns start call.activator p) → ⊥) → Silent start p m → Silent start p behind
  to_silent f others = go (ℕ_discrete (recipe_of s bytes call).refusal 0)
    where
      go : Dec ((recipe_of s bytes call).refusal ≡ 0) → Silent start p behind
      go (yes e) = rw (accepted_counts s bytes call e) (silent_list start p call.activator (recipe_instructions call bytes) m (one_activator bytes call) (f e) others)
      go (no g) = rw (refused_counts s bytes call g) others

  from_silent : Silent start p behind → (recipe_of s bytes call).refusal ≡ 0 → T (owns start call.activator p) → ⊥
  from_silent q e =
      silent_by start p call.activator (recipe_instructions call bytes) m (one_activator bytes call) (some_instruction e)
      (subst (λ (l : List Bytes). Silent start p (l ++ m)) (accepted_counts s bytes call e) q)

pub quiet_exactly : Commands.QuietExactly
unfolding all_counted
quiet_exactly start s p cs = (to s cs, from s cs)
  where
    to : (s : Site) (cs : List Command) → Quiet start p s cs → Silent start p (all_counted s cs)
    to s [] quiet_end = silent_end
    to s (single x ∷ rest) (quiet_single f others) = silent_next f (to (after s (single x)) rest others)
    to s (recipe bytes call ∷ rest) (quiet_recipe f others) =
        to_silent start s p bytes call (all_counted (after s (recipe bytes call)) rest) f (to (after s (recipe bytes call)) rest others)

    from : (s : Site) (cs : List Command) → Silent start p (all_counted s cs) → Quiet start p s cs
    from s [] silent_end = quiet_end
    from s (single x ∷ rest) (silent_next f others) = quiet_single f (from (after s (single x)) rest others)
    from s (recipe bytes call ∷ rest) q =
        let m = all_counted (after s (recipe bytes call)) rest in
        quiet_recipe (from_silent start s p bytes call m q) (from (after s (recipe bytes call)) rest (silent_behind start p call.activator (counted s (recipe bytes call)) m q))
