-- Classes of tokens, as code and proofs tell them apart. Machinery.
use Rattle.std.specs.Prelude.{ℕ, Bool, not, ◌&&◌, ◌||◌, eqb, ltb}
use Rattle.machine.specs.Tokens.{name, colon, open_paren, close_paren, open_brace, close_brace, open_bracket, close_bracket}
use Rattle.machine.specs.Operators.{postfix_operators, is_among}
use Rattle.machine.specs.Machinery.Machine.{end_of_text, values}

-- a token of a class that is a part by itself: a name, number, string or regular expression, or a value word
abbrev pub is_leaf : ℕ → Bool
is_leaf class = eqb class name || is_among values class

-- a class of tokens that the prefix rule settles: `{`, `++`, `--` and, where a `?` is open, `:`
abbrev pub is_sensed : Bool → ℕ → Bool
is_sensed asked class = eqb class open_brace || (is_among postfix_operators class || (eqb class colon && asked))

-- a class that opens a group (the class of its closer is the next number), that ends a level, and that is one record's alone
abbrev pub is_opener : ℕ → Bool
is_opener class = eqb class open_paren || (eqb class open_brace || eqb class open_bracket)

abbrev pub is_end : ℕ → Bool
is_end class = eqb class close_paren || (eqb class close_brace || (eqb class close_bracket || eqb class end_of_text))

abbrev pub is_single : ℕ → Bool
is_single class = ltb 0 class && (not (is_opener class) && not (is_end class))
