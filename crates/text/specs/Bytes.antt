-- Document 01, Elements, first line: "Blanks are bytes 09, 0B, 0C, 20 (hexadecimal). Line ends are 0A, 0D. Other legal
-- bytes are 21 to 7E." And the bytes of which names and numbers are made.
use Rattle.std.specs.Prelude.{ℕ, Bool, not, ◌||◌, ◌&&◌, eqb, leb}
use Rattle.text.specs.Quoted.{byte}

-- from lo to hi, both included
abbrev pub between : ℕ → ℕ → ℕ → Bool
between lo hi b = leb lo b && leb b hi

-- "Blanks are bytes 09, 0B, 0C, 20"
unfoldable pub blank : ℕ → Bool
blank b = eqb b 0x09 || eqb b 0x0B || eqb b 0x0C || eqb b 0x20

-- "Line ends are 0A, 0D"
unfoldable pub line_end : ℕ → Bool
line_end b = eqb b 0x0A || eqb b 0x0D

-- "Other legal bytes are 21 to 7E": any byte that is none of the three is illegal
unfoldable pub illegal : ℕ → Bool
illegal b = not (blank b || line_end b || between 0x21 0x7E b)

-- what a name may start with: "letters, `$`, `_`"
unfoldable pub letter : ℕ → Bool
letter b = between (byte "a") (byte "z") b || between (byte "A") (byte "Z") b || eqb b (byte "$") || eqb b (byte "_")

-- a digit of a number or name
unfoldable pub digit : ℕ → Bool
digit b = between (byte "0") (byte "9") b

-- a name byte: what a name may go on with, "and digits after the first byte"
unfoldable pub name_byte : ℕ → Bool
name_byte b = letter b || digit b
