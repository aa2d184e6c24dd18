-- ES5.1 section 7.8.3, which document 02, U4, names: its productions, one constructor for each alternative. Each is quoted; `|` parts the
-- alternatives of a production.
use Rattle.std.specs.Prelude.{ℕ, ◌≡◌, List, [], ◌∷◌, ◌++◌, Bool, true}
use Rattle.text.specs.Quoted.{byte}
use Rattle.text.specs.Bytes.{between, digit}
use Rattle.numbers.specs.Numbers.{hex_digit, exponent_indicator}

-- "NonZeroDigit :: one of 1 2 3 4 5 6 7 8 9"
abbrev pub non_zero_digit : ℕ → Bool
non_zero_digit = between (byte "1") (byte "9")

-- "opt": the part, or nothing
pub data Optional (Part : List ℕ → Type 0) : List ℕ → Type 0 where
  none : Optional Part []
  some : {w : List ℕ} → Part w → Optional Part w

-- "DecimalDigits :: DecimalDigit | DecimalDigits DecimalDigit"
pub data DecimalDigits : List ℕ → Type 0 where
  one_digit : (b : ℕ) → digit b ≡ true → DecimalDigits (b ∷ [])
  more_digits : {w : List ℕ} → DecimalDigits w → (b : ℕ) → digit b ≡ true → DecimalDigits (w ++ b ∷ [])

-- "DecimalIntegerLiteral :: 0 | NonZeroDigit DecimalDigits opt"
pub data DecimalIntegerLiteral : List ℕ → Type 0 where
  only_zero : DecimalIntegerLiteral (byte "0" ∷ [])
  non_zero : {w : List ℕ} (b : ℕ) → non_zero_digit b ≡ true → Optional DecimalDigits w → DecimalIntegerLiteral (b ∷ w)

-- "SignedInteger :: DecimalDigits | + DecimalDigits | - DecimalDigits"
pub data SignedInteger : List ℕ → Type 0 where
  unsigned : {w : List ℕ} → DecimalDigits w → SignedInteger w
  plus : {w : List ℕ} → DecimalDigits w → SignedInteger (byte "+" ∷ w)
  minus : {w : List ℕ} → DecimalDigits w → SignedInteger (byte "-" ∷ w)

-- "ExponentPart :: ExponentIndicator SignedInteger"
pub data ExponentPart : List ℕ → Type 0 where
  exponent : {w : List ℕ} (b : ℕ) → exponent_indicator b ≡ true → SignedInteger w → ExponentPart (b ∷ w)

-- "DecimalLiteral :: DecimalIntegerLiteral . DecimalDigits opt ExponentPart opt | . DecimalDigits ExponentPart opt | DecimalIntegerLiteral
-- ExponentPart opt"
pub data DecimalLiteral : List ℕ → Type 0 where
  dotted : {i d e : List ℕ} → DecimalIntegerLiteral i → Optional DecimalDigits d → Optional ExponentPart e → DecimalLiteral (i ++ byte "." ∷ d ++ e)
  fraction : {d e : List ℕ} → DecimalDigits d → Optional ExponentPart e → DecimalLiteral (byte "." ∷ d ++ e)
  whole : {i e : List ℕ} → DecimalIntegerLiteral i → Optional ExponentPart e → DecimalLiteral (i ++ e)

-- "HexIntegerLiteral :: 0x HexDigit | 0X HexDigit | HexIntegerLiteral HexDigit"
pub data HexIntegerLiteral : List ℕ → Type 0 where
  hex_lower : (b : ℕ) → hex_digit b ≡ true → HexIntegerLiteral (byte "0" ∷ byte "x" ∷ b ∷ [])
  hex_upper : (b : ℕ) → hex_digit b ≡ true → HexIntegerLiteral (byte "0" ∷ byte "X" ∷ b ∷ [])
  more_hex : {w : List ℕ} → HexIntegerLiteral w → (b : ℕ) → hex_digit b ≡ true → HexIntegerLiteral (w ++ b ∷ [])

-- "NumericLiteral :: DecimalLiteral | HexIntegerLiteral"
pub data NumericLiteral : List ℕ → Type 0 where
  decimal : {w : List ℕ} → DecimalLiteral w → NumericLiteral w
  hexadecimal : {w : List ℕ} → HexIntegerLiteral w → NumericLiteral w
