-- Document 01, Readings: how the programs print numbers.
use Rattle.std.specs.Prelude.{ℕ, zero, suc, ◌+◌, ◌/◌, ◌%◌, cond, List, [], ◌∷◌, ◌++◌, ltb}
use Rattle.text.specs.Quoted.{byte}

abbrev pub digit_byte : ℕ → ℕ
digit_byte d = byte "0" + d

-- the decimal digits of a number, the highest first, at most k of them
unfoldable pub digits : ℕ → ℕ → List ℕ
digits zero n = []
digits (suc k) n = cond (ltb n 10) [] (digits k (n / 10)) ++ (digit_byte (n % 10) ∷ [])

-- n has at most n + 1 digits
unfoldable pub decimal : ℕ → List ℕ
decimal n = digits (suc n) n

-- what stands behind a number: a comma where others follow on its line, else the line's end
abbrev pub after : List ℕ → ℕ
after [] = byte "\n"
after (n ∷ rest) = byte ","

-- numbers in a line
unfoldable pub line : List ℕ → List ℕ
line [] = []
line (n ∷ rest) = decimal n ++ (after rest ∷ line rest)
