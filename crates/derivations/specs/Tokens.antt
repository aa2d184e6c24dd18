-- The tokens of elements: their classes, and where they stand.
use Rattle.std.specs.Prelude.{ℕ, ◌+◌, cond, List, [], ◌∷◌, eqb}
use Rattle.elements.specs.Elements.{name_kind, word_kind, number_kind, string_kind, pattern_kind, sign_kind, delimiter_kind, delimiter}
use Rattle.elements.specs.declared.Element.{Element}
use Rattle.vocabulary.specs.Vocabulary.{words, signs, token_class, row_at}
pub use Rattle.machine.specs.Tokens.{Token, token, Spot, name, number, string, pattern, divide, divide_assign, increment, decrement, assign, question, comma, var_word, else_word, do_word, while_word, for_word, continue_word, break_word, with_word, switch_word, case_word, default_word, throw_word, try_word, catch_word, finally_word, debugger_word, colon, semicolon, dot, open_paren, close_paren, open_brace, close_brace, return_word, function_word, if_word, word_name, open_bracket, close_bracket}
use Rattle.derivations.specs.Cuts.{is_closer}

-- the class of a name by its number among the reserved words: one of these that is taken as a name has a class of its own
abbrev pub name_class : ℕ → ℕ
name_class which = cond (eqb which 0) name word_name

-- the class of a reserved word, of a sign that is no delimiter, and of a delimiter, which is a sign too
abbrev pub word_class : ℕ → ℕ
word_class which = token_class (row_at words which)

abbrev pub sign_class : ℕ → ℕ
sign_class which = cond (delimiter which) 0 (token_class (row_at signs which))

abbrev pub delimiter_class : ℕ → ℕ
delimiter_class which = cond (delimiter which) (token_class (row_at signs which)) 0

-- the class of an element; numbers, strings and regular expressions are told by their kinds alone. No element that is found has
-- the class 0
unfoldable pub class_of : Element → ℕ
unfolding row_at delimiter
class_of e =
    cond (eqb e.kind name_kind) (name_class e.which)
    (cond (eqb e.kind word_kind) (word_class e.which)
    (cond (eqb e.kind number_kind) number
    (cond (eqb e.kind string_kind) string
    (cond (eqb e.kind pattern_kind) pattern
    (cond (eqb e.kind sign_kind) (sign_class e.which)
    (cond (eqb e.kind delimiter_kind) (delimiter_class e.which)
    0))))))

-- the token of an element before which so many tree records stand
abbrev pub token_of : ℕ → Element → Token
token_of before e = token (class_of e) (record { newline = e.newline; mark = before; first = e.first })

-- "Its tree records, for the marks, are its elements other than closers, in text order, a group standing at its opener."
unfoldable pub tokens_from : ℕ → List Element → List Token
tokens_from before [] = []
tokens_from before (e ∷ es) = token_of before e ∷ tokens_from (cond (is_closer e) before (before + 1)) es

abbrev pub tokens : List Element → List Token
tokens es = tokens_from 0 es
