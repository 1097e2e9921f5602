-- Decimal numbers as bytes (document 01, 'The program PanelRights'): "decimal numbers 0 to 255, without leading zeros".
use Rattle.std.specs.Prelude.{ℕ, zero, suc, ◌+◌, ◌/◌, ◌%◌, cond, List, [], ◌∷◌, ◌++◌, ltb}

-- the byte of a digit 0 to 9
abbrev pub digit : ℕ → ℕ
digit d = 48 + d

-- a number below 10 is one digit; any other has its last digit behind the digits of its tenth. `depth` bounds how often
-- that is done.
unfoldable pub decimal_in : (depth n : ℕ) → List ℕ
decimal_in zero n = digit n ∷ []
decimal_in (suc depth) n = cond (ltb n 10) (digit n ∷ []) (decimal_in depth (n / 10) ++ (digit (n % 10) ∷ []))

-- the bytes of a number, highest digit first, "without leading zeros": the claims DecimalOne and DecimalMore are its
-- two rules
unfoldable pub decimal : ℕ → List ℕ
decimal n = decimal_in n n
