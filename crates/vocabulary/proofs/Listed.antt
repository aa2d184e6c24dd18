-- Document 01's count of words and signs, the lists of those that are taken, and what the prefix rule and the grammar tell apart.
use mathlib.Core.Path.{◌≡◌, refl}
use mathlib.Core.List.{List, [], ◌∷◌, ◌++◌}
use Prim.Native.String.{String}
use mathlib.Core.Bool.{Bool, true, cond}
use lib.Dec.{eqb}
use Prim.Native.Nat.{ℕ}
use lib.ListN.{length}
use Rattle.vocabulary.specs.RuleClasses.{Class, rank}
use Rattle.vocabulary.specs.Vocabulary.{Row, barred, taken, words, signs}

-- "The 36 reserved words", "the 48 signs"
pub words_number : length words ≡ 36
words_number = refl

pub signs_number : length signs ≡ 48
signs_number = refl

-- the rows that are taken and whose class and precedence pass a test
abbrev taken_in : (Class → ℕ → Bool) → List Row → List String
taken_in test [] = []
taken_in test (barred t ∷ rows) = taken_in test rows
taken_in test (taken t rule token precedence ∷ rows) = cond (test rule precedence) (t ∷ taken_in test rows) (taken_in test rows)

-- "Taken here: `return`, `function`, `if`."; document 02, U4: "the word operators .. `this`, `null`, `true`, `false`"; U6: "7 remains for the seven
-- future words"
pub words_taken : taken_in (λ rule precedence. true) words
    ≡ "break" ∷ "do" ∷ "instanceof" ∷ "typeof" ∷ "case" ∷ "else" ∷ "new" ∷ "var" ∷ "catch" ∷ "finally" ∷ "return" ∷ "void" ∷ "continue" ∷ "for" ∷ "switch" ∷ "while" ∷ "debugger" ∷ "function" ∷ "this" ∷ "with" ∷ "default" ∷ "if" ∷ "throw" ∷ "delete" ∷ "in" ∷ "try" ∷ "null" ∷ "true" ∷ "false" ∷ []
words_taken = refl

-- each with the number of its class for the grammar: that of the part which it marks, or one from 128 up
pub data Told : Type 0 where
  told : String → ℕ → Told

abbrev tokens_in : List Row → List Told
tokens_in [] = []
tokens_in (barred t ∷ rows) = tokens_in rows
tokens_in (taken t rule token precedence ∷ rows) = told t token ∷ tokens_in rows

pub words_token : tokens_in words ≡ told "break" 85 ∷ told "do" 78 ∷ told "instanceof" 50 ∷ told "typeof" 33 ∷ told "case" 88 ∷ told "else" 77 ∷ told "new" 28 ∷ told "var" 74 ∷ told "catch" 92 ∷ told "finally" 93 ∷ told "return" 136 ∷ told "void" 32 ∷ told "continue" 83 ∷ told "for" 80 ∷ told "switch" 87 ∷ told "while" 79 ∷ told "debugger" 94 ∷ told "function" 137 ∷ told "this" 23 ∷ told "with" 86 ∷ told "default" 89 ∷ told "if" 138 ∷ told "throw" 90 ∷ told "delete" 31 ∷ told "in" 51 ∷ told "try" 91 ∷ told "null" 24 ∷ told "true" 25 ∷ told "false" 26 ∷ []
words_token = refl

-- document 02, U4: "Add all 48 signs"
pub signs_token : tokens_in signs ≡ told "{" 134 ∷ told "}" 135 ∷ told "(" 132 ∷ told ")" 133 ∷ told "[" 140 ∷ told "]" 141 ∷ told "." 131 ∷ told ";" 130 ∷ told "," 73 ∷ told "<" 46 ∷ told ">" 47 ∷ told "<=" 48 ∷ told ">=" 49 ∷ told "==" 52 ∷ told "!=" 53 ∷ told "===" 54 ∷ told "!==" 55 ∷ told "+" 11 ∷ told "-" 42 ∷ told "*" 40 ∷ told "%" 41 ∷ told "++" 34 ∷ told "--" 35 ∷ told "<<" 43 ∷ told ">>" 44 ∷ told ">>>" 45 ∷ told "&" 56 ∷ told "|" 58 ∷ told "^" 57 ∷ told "!" 39 ∷ told "~" 38 ∷ told "&&" 59 ∷ told "||" 60 ∷ told "?" 61 ∷ told ":" 129 ∷ told "=" 12 ∷ told "+=" 65 ∷ told "-=" 66 ∷ told "*=" 62 ∷ told "%=" 64 ∷ told "<<=" 67 ∷ told ">>=" 68 ∷ told ">>>=" 69 ∷ told "&=" 70 ∷ told "|=" 72 ∷ told "^=" 71 ∷ told "/" 10 ∷ told "/=" 63 ∷ []
signs_token = refl

-- the words, then the signs, of a class
abbrev classed : Class → List String
classed class = taken_in (λ rule precedence. eqb (rank rule) (rank class)) (words ++ signs)

-- "last is `/`, `+` or `=`"; document 02, U4: "after any other added operator"; U6: "After `case` it does so too"
pub operator_rows : classed Class.operator
    ≡ "instanceof" ∷ "typeof" ∷ "case" ∷ "new" ∷ "void" ∷ "delete" ∷ "in" ∷ "<" ∷ ">" ∷ "<=" ∷ ">=" ∷ "==" ∷ "!=" ∷ "===" ∷ "!==" ∷ "+" ∷ "-" ∷ "*" ∷ "%" ∷ "++" ∷ "--" ∷ "<<" ∷ ">>" ∷ ">>>" ∷ "&" ∷ "|" ∷ "^" ∷ "!" ∷ "~" ∷ "&&" ∷ "||" ∷ "=" ∷ "+=" ∷ "-=" ∷ "*=" ∷ "%=" ∷ "<<=" ∷ ">>=" ∷ ">>>=" ∷ "&=" ∷ "|=" ∷ "^=" ∷ "/" ∷ "/=" ∷ []
operator_rows = refl

-- document 02, U4: "The four value words are followed by a divide"
pub value_rows : classed Class.value ≡ "this" ∷ "null" ∷ "true" ∷ "false" ∷ []
value_rows = refl

-- document 02, U4: "A `:` answering an unanswered `?`"; and "last is `:`"
pub question_rows : classed Class.question ≡ "?" ∷ []
question_rows = refl

pub answer_rows : classed Class.answer ≡ []
answer_rows = refl

pub colon_rows : classed Class.colon ≡ ":" ∷ []
colon_rows = refl

-- document 02, U1: "the sign `.`"
pub dot_rows : classed Class.dot ≡ "." ∷ []
dot_rows = refl

-- document 02, U2: "after `,`"
pub comma_rows : classed Class.comma ≡ "," ∷ []
comma_rows = refl

-- document 02, U4: "`;` forgets open ones"
pub semicolon_rows : classed Class.semicolon ≡ ";" ∷ []
semicolon_rows = refl

-- "last is `return` ..; last is `( )` preceded by `if`", and the `function` of the exception; document 02, U6: "after `throw` as after `return`", "`( )`
-- preceded by `while`, `for` or `with`"
pub return_rows : classed Class.return_word ≡ "return" ∷ "throw" ∷ []
return_rows = refl

pub head_rows : classed Class.head_word ≡ "for" ∷ "while" ∷ "with" ∷ "if" ∷ []
head_rows = refl

pub function_rows : classed Class.function_word ≡ "function" ∷ []
function_rows = refl

-- the other words, and the delimiters
pub other_rows : classed Class.other ≡ "break" ∷ "do" ∷ "else" ∷ "var" ∷ "catch" ∷ "finally" ∷ "continue" ∷ "switch" ∷ "debugger" ∷ "default" ∷ "try" ∷ "{" ∷ "}" ∷ "(" ∷ ")" ∷ "[" ∷ "]" ∷ []
other_rows = refl

-- document 02, U4: "Precedence follows chapter 11": the words, then the signs, of a precedence, from 11.14 up to 11.5
abbrev bound : ℕ → List String
bound step = taken_in (λ rule precedence. eqb precedence step) (words ++ signs)

pub bound_comma : bound 1 ≡ "," ∷ []
bound_comma = refl

pub bound_assignment : bound 2 ≡ "=" ∷ "+=" ∷ "-=" ∷ "*=" ∷ "%=" ∷ "<<=" ∷ ">>=" ∷ ">>>=" ∷ "&=" ∷ "|=" ∷ "^=" ∷ "/=" ∷ []
bound_assignment = refl

pub bound_or : bound 3 ≡ "||" ∷ []
bound_or = refl

pub bound_and : bound 4 ≡ "&&" ∷ []
bound_and = refl

pub bound_bit_or : bound 5 ≡ "|" ∷ []
bound_bit_or = refl

pub bound_bit_xor : bound 6 ≡ "^" ∷ []
bound_bit_xor = refl

pub bound_bit_and : bound 7 ≡ "&" ∷ []
bound_bit_and = refl

pub bound_equality : bound 8 ≡ "==" ∷ "!=" ∷ "===" ∷ "!==" ∷ []
bound_equality = refl

pub bound_relational : bound 9 ≡ "instanceof" ∷ "in" ∷ "<" ∷ ">" ∷ "<=" ∷ ">=" ∷ []
bound_relational = refl

pub bound_shift : bound 10 ≡ "<<" ∷ ">>" ∷ ">>>" ∷ []
bound_shift = refl

pub bound_additive : bound 11 ≡ "+" ∷ "-" ∷ []
bound_additive = refl

pub bound_multiplicative : bound 12 ≡ "*" ∷ "%" ∷ "/" ∷ []
bound_multiplicative = refl

-- and those that stand between no two operands
pub unbound : bound 0 ≡ "break" ∷ "do" ∷ "typeof" ∷ "case" ∷ "else" ∷ "new" ∷ "var" ∷ "catch" ∷ "finally" ∷ "return" ∷ "void" ∷ "continue" ∷ "for" ∷ "switch" ∷ "while" ∷ "debugger" ∷ "function" ∷ "this" ∷ "with" ∷ "default" ∷ "if" ∷ "throw" ∷ "delete" ∷ "try" ∷ "null" ∷ "true" ∷ "false" ∷ "{" ∷ "}" ∷ "(" ∷ ")" ∷ "[" ∷ "]" ∷ "." ∷ ";" ∷ "++" ∷ "--" ∷ "!" ∷ "~" ∷ "?" ∷ ":" ∷ []
unbound = refl
