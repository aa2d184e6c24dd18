-- The code of a byte: what a scanner asks of a byte it looks up in one table, which it is lent. The definitions of gaps, literals and
-- elements go by the classes of `Bytes` themselves.
use Rattle.std.specs.Prelude.{ℕ, zero, suc, Bool, cond, ◌||◌, List, [], ◌∷◌, eqb, ltb}
use Rattle.text.specs.Quoted.{byte}
use Rattle.text.specs.Bytes.{blank, line_end, illegal, letter, digit}

-- a turning byte: one at which a comment or a literal may do otherwise than go on, besides line ends and illegal bytes. The double quote
-- and the backslash have no name in a quoted text
unfoldable pub turning : ℕ → Bool
turning b = eqb b 0x22 || eqb b (byte "'") || eqb b (byte "*") || eqb b (byte "/") || eqb b (byte "[") || eqb b 0x5C || eqb b (byte "]")

-- 0 an illegal byte, 1 a line end, 2 a turning byte, 3 any other sign, 4 a blank, 5 a letter, 6 a digit
unfoldable pub code_of : ℕ → ℕ
code_of b = cond (line_end b) 1 (cond (illegal b) 0 (cond (turning b) 2 (cond (blank b) 4 (cond (letter b) 5 (cond (digit b) 6 3)))))

-- a byte whose code is over a limit
unfoldable pub code_over : ℕ → ℕ → Bool
code_over limit b = ltb limit (code_of b)

-- the codes of n bytes from b on
abbrev pub codes_from : ℕ → ℕ → List ℕ
codes_from b zero = []
codes_from b (suc n) = code_of b ∷ codes_from (suc b) n

-- the table: the code of each byte
unfoldable pub byte_codes : List ℕ
byte_codes = codes_from 0 256
