-- What PanelRights prints for an input (document 01, 'The program PanelRights').
use Rattle.std.specs.Prelude.{ℕ, ◌+◌, Bool, cond, List, [], ◌∷◌, ◌++◌, ltb, length}
use Rattle.state.specs.Site.{counts}
use Rattle.output.specs.Decimal.{decimal}
use Rattle.lines.specs.Lines.{newline, space}
use Rattle.sessions.specs.Session.{session_results, session_state}

-- "the line's number from 1, a space, and 0 or the refusal. .. Each printed line ends with byte 10."
unfoldable pub result_line : (k result : ℕ) → List ℕ
result_line k result = decimal k ++ (space ∷ decimal result) ++ (newline ∷ [])

-- one for each result, the first of them for line k
unfoldable pub result_lines : ℕ → List ℕ → List ℕ
result_lines k [] = []
result_lines k (result ∷ rest) = result_line k result ++ result_lines (k + 1) rest

-- numbers with a space in front of each
unfoldable pub spaced : List ℕ → List ℕ
spaced [] = []
spaced (n ∷ rest) = space ∷ decimal n ++ spaced rest

-- the bytes of `state`
abbrev pub state_word : List ℕ
state_word = 115 ∷ 116 ∷ 97 ∷ 116 ∷ 101 ∷ []

-- "Last it prints `state` and the counts of users, areas, objects, owner, structure, import and export pairs."
unfoldable pub state_line : (numbers : List ℕ) → List ℕ
state_line numbers = state_word ++ spaced numbers ++ (newline ∷ [])

-- the results and the counts of a session, printed
unfoldable pub session_text : (results numbers : List ℕ) → List ℕ
session_text results numbers = result_lines 1 results ++ state_line numbers

-- "Input above 65,536 bytes"
abbrev pub most_read : ℕ
most_read = 65536

abbrev pub is_too_long : (input : List ℕ) → Bool
is_too_long input = ltb most_read (length input)

-- "yields the line `too long` alone"
abbrev pub too_long : List ℕ
too_long = 116 ∷ 111 ∷ 111 ∷ space ∷ 108 ∷ 111 ∷ 110 ∷ 103 ∷ newline ∷ []

-- what is printed for the input
unfoldable pub transcript_of : (input : List ℕ) → List ℕ
transcript_of input =
    cond (is_too_long input) too_long (session_text (session_results input) (counts (session_state input)))

-- no transcript has more bytes (Claims, PrintedAtMost): 65,536 lines of at most 9, and a state line of at most 41
abbrev pub most_printed : ℕ
most_printed = 589865
