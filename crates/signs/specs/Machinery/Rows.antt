-- The code's table of the signs, and how it is scanned. Machinery: no public contract cites it.
use Rattle.std.specs.Prelude.{ℕ, List, [], ◌∷◌, Bool, cond, ◌||◌, eqb, length, get_or, map, Option, None}
use Rattle.text.specs.Quoted.{byte}
use Rattle.vocabulary.specs.Vocabulary.{spelling, signs, row_at}
use Rattle.signs.specs.Signs.{starts_with, found}
use Rattle.signs.specs.declared.Sign.{Sign}
use Rattle.signs.specs.declared.Entry.{Entry}

-- the sign of a number
abbrev pub sign : ℕ → List ℕ
sign number = spelling (row_at signs number)

-- the numbers of the signs in the table's order
abbrev pub order : List ℕ
order =
    1 ∷ 2 ∷ 3 ∷ 4 ∷ 5 ∷ 6 ∷ 7 ∷ 8 ∷ 9 ∷ 31 ∷ 34 ∷ 35 ∷
    41 ∷ 12 ∷ 24 ∷ 10 ∷
    43 ∷ 26 ∷ 42 ∷ 13 ∷ 25 ∷ 11 ∷
    22 ∷ 37 ∷ 18 ∷
    23 ∷ 38 ∷ 19 ∷
    39 ∷ 20 ∷
    40 ∷ 21 ∷
    32 ∷ 44 ∷ 27 ∷
    33 ∷ 45 ∷ 28 ∷
    46 ∷ 29 ∷
    17 ∷ 15 ∷ 30 ∷
    16 ∷ 14 ∷ 36 ∷
    48 ∷ 47 ∷
    []

-- a sign's row: its bytes with 0 after the last, its length, its number
abbrev pub row : ℕ → Entry
row number =
    record {
      bytes = get_or (sign number) 0 0 ∷ get_or (sign number) 1 0 ∷ get_or (sign number) 2 0 ∷ get_or (sign number) 3 0 ∷ [];
      len = length (sign number);
      number = number;
    }

unfoldable pub table : List Entry
unfolding row_at
table = map row order

-- the first of the signs that a text starts with
unfoldable pub first_of : List ℕ → List ℕ → Option Sign
first_of s [] = None
first_of s (number ∷ numbers) = cond (starts_with (sign number) s) (found number (length (sign number))) (first_of s numbers)

-- a byte with which some sign goes on behind its first
abbrev pub goes_on : ℕ → Bool
goes_on b =
    eqb b (byte "<") || eqb b (byte "=") || eqb b (byte ">") || eqb b (byte "+") || eqb b (byte "-") || eqb b (byte "&") || eqb b (byte "|")
