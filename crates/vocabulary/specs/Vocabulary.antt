-- Document 01, Elements: the reserved words and the signs, one row for each. Its classes for the prefix rule and for the grammar, and its
-- precedence, stand in its row.
use Rattle.std.specs.Prelude.{ℕ, Bool, true, false, List, [], ◌∷◌, get_or}
use Prim.Native.String.{String}
use Rattle.text.specs.Quoted.{bytes}
use Rattle.vocabulary.specs.RuleClasses.{Class}
use Rattle.vocabulary.specs.TokenClasses.{divide, plus, assign, this_word, null_word, true_word, false_word, new_word, delete_word, void_word, typeof_word, increment, decrement, complement, negation, multiply, remainder, minus, left_shift, right_shift, unsigned_shift, less, greater, at_most, at_least, instanceof_word, in_word, equal, unequal, identical, unidentical, bit_and, bit_xor, bit_or, logical_and, logical_or, question, multiply_assign, divide_assign, remainder_assign, plus_assign, minus_assign, left_shift_assign, right_shift_assign, unsigned_shift_assign, and_assign, xor_assign, or_assign, comma, var_word, else_word, do_word, while_word, for_word, continue_word, break_word, with_word, switch_word, case_word, default_word, throw_word, try_word, catch_word, finally_word, debugger_word, colon, semicolon, dot, open_paren, close_paren, open_brace, close_brace, return_word, function_word, if_word, open_bracket, close_bracket}

-- a reserved word or a sign
pub data Row : Type 0 where
  -- a word that is refused here: its spelling
  barred : String → Row
  -- "Taken here", or "Legal here": its spelling, its class for the prefix rule, its class for the grammar, and its precedence as an operator
  -- between two operands ("Precedence follows chapter 11"), the higher the tighter: 1 `,`, 2 assignments, from 3 up the binary operators; 0 where
  -- it is none
  taken : String → Class → ℕ → ℕ → Row

-- "The 36 reserved words of ES5.1 section 7.6.1 are compared byte for byte. Taken here: `return`, `function`, `if`.", and, by document 02, U4,
-- "the word operators" and "`this`, `null`, `true`, `false`", and U6, "7 remains for the seven future words": the keywords (7.6.1.1) and the future
-- reserved words (7.6.1.2), row by row as that section prints them, and the null and Boolean literals (7.8.1, 7.8.2)
abbrev pub words : List Row
words =
    taken "break" Class.other break_word 0 ∷ taken "do" Class.other do_word 0 ∷ taken "instanceof" Class.operator instanceof_word 9 ∷ taken "typeof" Class.operator typeof_word 0 ∷
    taken "case" Class.operator case_word 0 ∷ taken "else" Class.other else_word 0 ∷ taken "new" Class.operator new_word 0 ∷ taken "var" Class.other var_word 0 ∷
    taken "catch" Class.other catch_word 0 ∷ taken "finally" Class.other finally_word 0 ∷ taken "return" Class.return_word return_word 0 ∷ taken "void" Class.operator void_word 0 ∷
    taken "continue" Class.other continue_word 0 ∷ taken "for" Class.head_word for_word 0 ∷ taken "switch" Class.other switch_word 0 ∷ taken "while" Class.head_word while_word 0 ∷
    taken "debugger" Class.other debugger_word 0 ∷ taken "function" Class.function_word function_word 0 ∷ taken "this" Class.value this_word 0 ∷ taken "with" Class.head_word with_word 0 ∷
    taken "default" Class.other default_word 0 ∷ taken "if" Class.head_word if_word 0 ∷ taken "throw" Class.return_word throw_word 0 ∷
    taken "delete" Class.operator delete_word 0 ∷ taken "in" Class.operator in_word 9 ∷ taken "try" Class.other try_word 0 ∷
    barred "class" ∷ barred "enum" ∷ barred "extends" ∷ barred "super" ∷
    barred "const" ∷ barred "export" ∷ barred "import" ∷
    taken "null" Class.value null_word 0 ∷ taken "true" Class.value true_word 0 ∷ taken "false" Class.value false_word 0 ∷
    []

-- "the 48 signs of ES5.1 section 7.7", in the order of that section. "Legal here: `/ + : ; = .` and `( ) { }`."; document 02, U2: "Add `[`, `]`
-- and `,`"; U4: "Add all 48 signs". A delimiter is no tree by itself, and the kinds of `++` and `--` settle their classes: in these rows it is never asked
abbrev pub signs : List Row
signs =
    taken "{" Class.other open_brace 0 ∷ taken "}" Class.other close_brace 0 ∷
    taken "(" Class.other open_paren 0 ∷ taken ")" Class.other close_paren 0 ∷
    taken "[" Class.other open_bracket 0 ∷ taken "]" Class.other close_bracket 0 ∷
    taken "." Class.dot dot 0 ∷ taken ";" Class.semicolon semicolon 0 ∷ taken "," Class.comma comma 1 ∷ taken "<" Class.operator less 9 ∷ taken ">" Class.operator greater 9 ∷ taken "<=" Class.operator at_most 9 ∷
    taken ">=" Class.operator at_least 9 ∷ taken "==" Class.operator equal 8 ∷ taken "!=" Class.operator unequal 8 ∷ taken "===" Class.operator identical 8 ∷ taken "!==" Class.operator unidentical 8 ∷
    taken "+" Class.operator plus 11 ∷ taken "-" Class.operator minus 11 ∷ taken "*" Class.operator multiply 12 ∷ taken "%" Class.operator remainder 12 ∷ taken "++" Class.operator increment 0 ∷ taken "--" Class.operator decrement 0 ∷
    taken "<<" Class.operator left_shift 10 ∷ taken ">>" Class.operator right_shift 10 ∷ taken ">>>" Class.operator unsigned_shift 10 ∷ taken "&" Class.operator bit_and 7 ∷ taken "|" Class.operator bit_or 5 ∷ taken "^" Class.operator bit_xor 6 ∷
    taken "!" Class.operator negation 0 ∷ taken "~" Class.operator complement 0 ∷ taken "&&" Class.operator logical_and 4 ∷ taken "||" Class.operator logical_or 3 ∷ taken "?" Class.question question 0 ∷ taken ":" Class.colon colon 0 ∷
    taken "=" Class.operator assign 2 ∷ taken "+=" Class.operator plus_assign 2 ∷ taken "-=" Class.operator minus_assign 2 ∷ taken "*=" Class.operator multiply_assign 2 ∷ taken "%=" Class.operator remainder_assign 2 ∷ taken "<<=" Class.operator left_shift_assign 2 ∷
    taken ">>=" Class.operator right_shift_assign 2 ∷ taken ">>>=" Class.operator unsigned_shift_assign 2 ∷ taken "&=" Class.operator and_assign 2 ∷ taken "|=" Class.operator or_assign 2 ∷ taken "^=" Class.operator xor_assign 2 ∷
    taken "/" Class.operator divide 12 ∷ taken "/=" Class.operator divide_assign 2 ∷
    []

-- what a row says; a word that is refused has no class of its own
abbrev pub spelling : Row → List ℕ
spelling (barred t) = bytes t
spelling (taken t rule token precedence) = bytes t

abbrev pub is_taken : Row → Bool
is_taken (barred t) = false
is_taken (taken t rule token precedence) = true

abbrev pub rule_class : Row → Class
rule_class (barred t) = Class.other
rule_class (taken t rule token precedence) = rule

abbrev pub token_class : Row → ℕ
token_class (barred t) = 0
token_class (taken t rule token precedence) = token

abbrev pub precedence_of : Row → ℕ
precedence_of (barred t) = 0
precedence_of (taken t rule token precedence) = precedence

-- the row of a number that is no word's or sign's
abbrev pub no_row : Row
no_row = barred ""

-- the row of a number: its place, from 1
unfoldable pub row_at : List Row → ℕ → Row
row_at rows number = get_or (no_row ∷ rows) number no_row
