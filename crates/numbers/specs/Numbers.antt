-- Document 02, U4: "numbers as in ES5.1 section 7.8.3 (6 now only when a digit or name byte follows directly)". The quotations are of that
-- section, but for the one said to be of document 02; `|` parts the alternatives of a production.
use Rattle.std.specs.Prelude.{ℕ, ◌+◌, List, Bool, cond, ◌&&◌, ◌||◌, eqb, get_or, drop, Result, Ok, Err}
use Rattle.text.specs.Quoted.{byte}
use Rattle.text.specs.Bytes.{between, digit, name_byte}
use Rattle.text.specs.Runs.{run}
use Rattle.answers.specs.declared.faults.Fault.{Fault}

-- "HexDigit :: one of 0 1 2 3 4 5 6 7 8 9 a b c d e f A B C D E F"
unfoldable pub hex_digit : ℕ → Bool
hex_digit b = digit b || between (byte "a") (byte "f") b || between (byte "A") (byte "F") b

-- "ExponentIndicator :: one of e E"
abbrev pub exponent_indicator : ℕ → Bool
exponent_indicator b = eqb b (byte "e") || eqb b (byte "E")

-- what a SignedInteger may start with: "+ DecimalDigits | - DecimalDigits"
abbrev pub plus_or_minus : ℕ → Bool
plus_or_minus b = eqb b (byte "+") || eqb b (byte "-")

-- what stands behind the 0 of a HexIntegerLiteral: "0x HexDigit | 0X HexDigit"
abbrev pub hex_indicator : ℕ → Bool
hex_indicator b = eqb b (byte "x") || eqb b (byte "X")

-- what a number starts with: a digit, or a dot directly before one
abbrev pub starts_number : List ℕ → Bool
starts_number s = digit (get_or s 0 0) || (eqb (get_or s 0 0) (byte ".") && digit (get_or s 1 0))

-- The lengths of the parts that a text starts with, as long as may be; of an integer, fraction, exponent or hexadecimal number 0 where the text does not start with one.

-- n bytes, where s is what stands behind them, and at least one of a class
abbrev pub run_behind : ℕ → (ℕ → Bool) → List ℕ → ℕ
run_behind n class s = cond (eqb (run class s) 0) 0 (n + run class s)

-- "HexIntegerLiteral :: 0x HexDigit | 0X HexDigit | HexIntegerLiteral HexDigit"
unfoldable pub hex_length : List ℕ → ℕ
hex_length s = cond (eqb (get_or s 0 0) (byte "0") && hex_indicator (get_or s 1 0)) (run_behind 2 hex_digit (drop 2 s)) 0

-- "DecimalIntegerLiteral :: 0 | NonZeroDigit DecimalDigits opt"
unfoldable pub integer_length : List ℕ → ℕ
integer_length s = cond (eqb (get_or s 0 0) (byte "0")) 1 (run digit s)

-- ". DecimalDigits opt"
unfoldable pub fraction_length : List ℕ → ℕ
fraction_length s = cond (eqb (get_or s 0 0) (byte ".")) (1 + run digit (drop 1 s)) 0

-- "ExponentPart :: ExponentIndicator SignedInteger", "SignedInteger :: DecimalDigits | + DecimalDigits | - DecimalDigits"
unfoldable pub exponent_length : List ℕ → ℕ
exponent_length s =
    cond (exponent_indicator (get_or s 0 0)) (cond (plus_or_minus (get_or s 1 0)) (run_behind 2 digit (drop 2 s)) (run_behind 1 digit (drop 1 s))) 0

-- a part, and another behind it
abbrev pub followed_by : (List ℕ → ℕ) → (List ℕ → ℕ) → List ℕ → ℕ
followed_by part other s = part s + other (drop (part s) s)

-- "DecimalLiteral :: DecimalIntegerLiteral . DecimalDigits opt ExponentPart opt | . DecimalDigits ExponentPart opt | DecimalIntegerLiteral
-- ExponentPart opt": where a number starts
unfoldable pub decimal_length : List ℕ → ℕ
decimal_length = followed_by (followed_by integer_length fraction_length) exponent_length

-- "NumericLiteral :: DecimalLiteral | HexIntegerLiteral"
unfoldable pub number_length : List ℕ → ℕ
number_length s = cond (eqb (hex_length s) 0) (decimal_length s) (hex_length s)

-- the number at `first`, where s is the text from there on. Document 02: "6 now only when a digit or name byte follows directly", and a digit is
-- a name byte. Past the text's end stands a 0, which is none
unfoldable pub number_from : ℕ → List ℕ → Result ℕ Fault
number_from first s =
    cond (name_byte (get_or s (number_length s) 0)) (Err (Fault.BadNumber first))
    (Ok (first + number_length s))
