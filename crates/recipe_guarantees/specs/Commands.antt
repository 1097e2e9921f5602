-- The lending guarantee over a list of single instructions and recipes, mixed in any way: "For the lending guarantee an
-- accepted recipe counts as its instructions and a refused one as none." (document 02, point 1). A refused single
-- instruction counts, as in document 01: "an instruction's activator is its second byte, in a refused one too".
use Rattle.std.specs.Prelude.{ℕ, ◌≡◌, ◌↔◌, cond, List, [], ◌∷◌, ◌++◌, T, eqb}
use Rattle.state.specs.Site.{Site, owns}
use Rattle.soundness.specs.Sound.{Sound}
use Rattle.instructions.specs.Instructions.{Bytes}
use Rattle.machine.specs.Step.{step_of, run}
use Rattle.guarantees.specs.Demand3.{Silent, Upheld}
use Rattle.recipes.specs.Recipe.{recipe_instructions}
use Rattle.recipes.specs.Run.{recipe_of}
use Rattle.recipes.specs.declared.Call.{Call}

-- a single instruction, or a recipe with its call
pub data Command : Type 0 where
  single : Bytes → Command
  recipe : (bytes : List ℕ) → Call → Command

-- the state after a command, and after a list of them
abbrev pub after : Site → Command → Site
after s (single x) = (step_of s x).state
after s (recipe bytes call) = (recipe_of s bytes call).state

unfoldable pub after_all : Site → List Command → Site
after_all s [] = s
after_all s (c ∷ rest) = after_all (after s c) rest

-- ---- what counts
-- the instructions that a command counts as: "an accepted recipe counts as its instructions and a refused one as none"
abbrev pub counted : Site → Command → List Bytes
counted s (single x) = x ∷ []
counted s (recipe bytes call) = cond (eqb (recipe_of s bytes call).refusal 0) (recipe_instructions call bytes) []

-- and a list of commands, each in the state that those before it give
unfoldable pub all_counted : Site → List Command → List Bytes
all_counted s [] = []
all_counted s (c ∷ rest) = counted s c ++ all_counted (after s c) rest

-- commands do what the instructions do that they count as
abbrev pub CommandsAreRun : Type 0
CommandsAreRun = (s : Site) (cs : List Command) → after_all s cs ≡ run s (all_counted s cs)

-- ---- demand 3 over commands, as one claim
-- For every list of them, from any sound state, what demand 3 says of the list that they count as is so of the state
-- that they lead to: it is sound, and the lending guarantee holds.
abbrev pub CommandsUpheld : Type 0
CommandsUpheld = (s : Site) (cs : List Command) → Sound s → Upheld s (all_counted s cs) (after_all s cs)

-- Whom the guarantee speaks of, said of the commands themselves, from state s on: none of the owners that area p has in
-- the state `start` activates a single instruction, or a recipe that is accepted. The activator of a refused recipe is
-- not heard.
pub data Quiet (start : Site) (p : ℕ) : (s : Site) → List Command → Type 0 where
  quiet_end : {s : Site} → Quiet start p s []
  quiet_single : {s : Site} {x : Bytes} {rest : List Command} → (T (owns start x.activator p) → ⊥)
      → Quiet start p (after s (single x)) rest → Quiet start p s (single x ∷ rest)
  quiet_recipe : {s : Site} {bytes : List ℕ} {call : Call} {rest : List Command}
      → ((recipe_of s bytes call).refusal ≡ 0 → T (owns start call.activator p) → ⊥)
      → Quiet start p (after s (recipe bytes call)) rest → Quiet start p s (recipe bytes call ∷ rest)

abbrev pub QuietExactly : Type 0
QuietExactly =
    (start s : Site) (p : ℕ) (cs : List Command) → Quiet start p s cs ↔ Silent start p (all_counted s cs)
