-- The answer to the access question for an area and an object, as a definition that can be computed. That it is the
-- least number of steps, or that no chain is within the limit, is claimed in Claims.antt.
use Rattle.std.specs.Prelude.{ℕ, zero, suc, Bool, false, ◌||◌, cond, List, get_or, Option, Some, None}
use Rattle.state.specs.Tabulate.{tabulate}
use Rattle.state.specs.Walk.{some_from}
use Rattle.state.specs.Site.{area, limit}
use Rattle.access.specs.Lending.{Lending, step}

-- "a table may be lent across at most 8 steps. Access now means a chain of 8 steps or fewer, everywhere: the question,
-- imports, removals and files." (document 02, point 2)
unfoldable pub longest : ℕ
longest = 8

-- A set of areas: a truth value for each, from area 0 on.
abbrev pub Areas : Type 0
Areas = List Bool

-- the area is in the set
abbrev pub has : Areas → ℕ → Bool
has areas a = get_or areas a false

-- some area of the set meets the test
abbrev pub some_area : Areas → (ℕ → Bool) → Bool
some_area areas test = some_from 0 areas test

-- the areas of the set, and those one step from one of them
unfoldable pub spread : (ℕ → ℕ → Bool) → Areas → Areas
spread move areas = tabulate (limit area) (λ r. has areas r || some_area areas (λ s. move s r))

-- the areas that a chain of at most n steps reaches
unfoldable pub reached : (ℕ → Bool) → (ℕ → ℕ → Bool) → ℕ → Areas
reached start move zero = tabulate (limit area) start
reached start move (suc n) = spread move (reached start move n)

-- "the number of steps in a shortest chain", or "no access"
abbrev pub Answer : Type 0
Answer = Option ℕ

-- the answer up to n + 1 steps, from the answer up to n: it stays, or is n + 1 for an area that is reached only now
abbrev pub next_answer : Answer → ℕ → Bool → Answer
next_answer (Some m) n reached_now = Some m
next_answer None n reached_now = cond reached_now (Some (suc n)) None

-- the least number of steps, up to n, in which a chain reaches the area
unfoldable pub answer_within : (ℕ → Bool) → (ℕ → ℕ → Bool) → ℕ → ℕ → Answer
answer_within start move zero a = cond (has (reached start move zero) a) (Some 0) None
answer_within start move (suc n) a = next_answer (answer_within start move n a) n (has (reached start move (suc n)) a)

-- "the number of steps in a shortest chain, 0 for the defining area", or "no access"; "The step answer never passes 8."
unfoldable pub answer : Lending → ℕ → Answer
answer l a = answer_within l.defined_in (step l) longest a

-- "An area has access to an object if it defines it or a chain of steps leads to it from the defining area", now "a
-- chain of 8 steps or fewer": the claim AccessIsChain. Access is where the answer is a number of steps: the claim
-- AccessIsSteps. It is defined apart from the answer, which computes the areas that are reached anew for each number of
-- steps.
unfoldable pub access : Lending → ℕ → Bool
access l a = has (reached l.defined_in (step l) longest) a

-- The number of 'no access'. Document 01 gives it none; 255 is that of document 02, point 5.
abbrev pub unreached : ℕ
unreached = 255

-- the number that stands for an answer
abbrev pub answer_number : Answer → ℕ
answer_number (Some n) = n
answer_number None = unreached

-- the numbers of all 32 areas, up to n steps
unfoldable pub counts_within : (ℕ → Bool) → (ℕ → ℕ → Bool) → ℕ → List ℕ
counts_within start move n = tabulate (limit area) (λ a. answer_number (answer_within start move n a))

-- the numbers of all 32 areas
unfoldable pub least_counts : Lending → List ℕ
least_counts l = counts_within l.defined_in (step l) longest

-- that of one area; a number that is no area's has that of 'no access'
abbrev pub least_count : Lending → ℕ → ℕ
least_count l a = get_or (least_counts l) a unreached
