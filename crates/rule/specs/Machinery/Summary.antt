-- The summary of a level: all that the prefix rule needs of the trees before. Machinery: the rule itself knows nothing of it.
use Rattle.std.specs.Prelude.{ℕ, ◌+◌, ◌*◌, Bool, true, false, not, cond, List, [], ◌∷◌, eqb}
use Rattle.rule.specs.Rule.{Class, name, value, operator, question, answer, colon, dot, comma, semicolon, other, return_word, function_word, head_word, parens, brackets, object, block, Before, tree, backwards, unanswered}
use Rattle.rule.specs.Trees.{object_kind}
use Rattle.rule.specs.Levels.{Levels, is_expression, kind_of, trees_of}

-- what stands last. A head, as in `if ( )`, is told from other `( )`, `:` and `;` from other signs, and the trees of a function from other trees, with whether a brace in
-- place of `function` would open an object
pub data Summary : Type 0 where
  nothing operand after_operator after_separator after_dot after_comma after_other after_return after_head_word after_head after_block : Summary
  after_function after_function_name after_function_parens : Bool → Summary

-- its answers: what a brace opens, and what a slash does
abbrev pub brace_by : Bool → Summary → Bool → Bool
brace_by expression nothing newline = expression
brace_by expression operand newline = false
brace_by expression after_operator newline = true
brace_by expression after_separator newline = expression
brace_by expression after_dot newline = false
brace_by expression after_comma newline = true
brace_by expression after_other newline = false
brace_by expression after_return newline = not newline
brace_by expression after_head_word newline = false
brace_by expression after_head newline = false
brace_by expression after_block newline = false
brace_by expression (after_function inObject) newline = false
brace_by expression (after_function_name inObject) newline = false
brace_by expression (after_function_parens inObject) newline = false

abbrev pub slash_by : Summary → Bool
slash_by nothing = true
slash_by operand = false
slash_by after_operator = true
slash_by after_separator = true
slash_by after_dot = true
slash_by after_comma = true
slash_by after_other = true
slash_by after_return = true
slash_by after_head_word = true
slash_by after_head = true
slash_by after_block = true
slash_by (after_function inObject) = true
slash_by (after_function_name inObject) = false
slash_by (after_function_parens inObject) = false

-- after a name, after `( )` and after a block
abbrev pub add_name : Summary → Summary
add_name nothing = operand
add_name operand = operand
add_name after_operator = operand
add_name after_separator = operand
add_name after_dot = operand
add_name after_comma = operand
add_name after_other = operand
add_name after_return = operand
add_name after_head_word = operand
add_name after_head = operand
add_name after_block = operand
add_name (after_function inObject) = after_function_name inObject
add_name (after_function_name inObject) = operand
add_name (after_function_parens inObject) = operand

abbrev pub add_parens : Summary → Summary
add_parens nothing = operand
add_parens operand = operand
add_parens after_operator = operand
add_parens after_separator = operand
add_parens after_dot = operand
add_parens after_comma = operand
add_parens after_other = operand
add_parens after_return = operand
add_parens after_head_word = after_head
add_parens after_head = operand
add_parens after_block = operand
add_parens (after_function inObject) = after_function_parens inObject
add_parens (after_function_name inObject) = after_function_parens inObject
add_parens (after_function_parens inObject) = operand

-- a function in an operand's place is an operand
abbrev pub function_block : Bool → Summary
function_block true = operand
function_block false = after_block

abbrev pub add_block : Summary → Summary
add_block nothing = after_block
add_block operand = after_block
add_block after_operator = after_block
add_block after_separator = after_block
add_block after_dot = after_block
add_block after_comma = after_block
add_block after_other = after_block
add_block after_return = after_block
add_block after_head_word = after_block
add_block after_head = after_block
add_block after_block = after_block
add_block (after_function inObject) = after_block
add_block (after_function_name inObject) = after_block
add_block (after_function_parens inObject) = function_block inObject

-- after a tree of a class, before which a line end lies or not
abbrev pub add : Bool → Summary → Class → Bool → Summary
add expression s name newline = add_name s
add expression s value newline = operand
add expression s operator newline = after_operator
add expression s question newline = after_operator
add expression s answer newline = after_operator
add expression s colon newline = after_separator
add expression s dot newline = after_dot
add expression s comma newline = after_comma
add expression s semicolon newline = after_separator
add expression s other newline = after_other
add expression s return_word newline = after_return
add expression s function_word newline = after_function (brace_by expression s newline)
add expression s head_word newline = after_head_word
add expression s parens newline = add_parens s
add expression s brackets newline = operand
add expression s object newline = operand
add expression s block newline = add_block s

unfoldable pub summary : Bool → List Before → Summary
summary expression [] = nothing
summary expression (tree class newline ∷ before) = add expression (summary expression before) class newline

-- whether a reserved word is a name, in an object brace or not
abbrev pub name_by : Bool → Summary → Bool
name_by inBrace nothing = inBrace
name_by inBrace operand = false
name_by inBrace after_operator = false
name_by inBrace after_separator = false
name_by inBrace after_dot = true
name_by inBrace after_comma = inBrace
name_by inBrace after_other = false
name_by inBrace after_return = false
name_by inBrace after_head_word = false
name_by inBrace after_head = false
name_by inBrace after_block = false
name_by inBrace (after_function inObject) = false
name_by inBrace (after_function_name inObject) = false
name_by inBrace (after_function_parens inObject) = false

-- The number of a summary, in an object brace or not. Where a property is due, first or behind `,`, one number says all; elsewhere `,` is like an
-- operator. So one comparison tells whether a reserved word is a name.
abbrev pub code : Bool → Summary → ℕ
code inBrace operand = 0
code inBrace (after_function_name inObject) = cond inObject 2 1
code inBrace (after_function_parens inObject) = cond inObject 4 3
code inBrace (after_function inObject) = cond inObject 6 5
code inBrace nothing = cond inBrace 16 7
code inBrace after_operator = 8
code inBrace after_comma = cond inBrace 16 8
code inBrace after_separator = 9
code inBrace after_other = 10
code inBrace after_return = 11
code inBrace after_head_word = 12
code inBrace after_head = 13
code inBrace after_block = 14
code inBrace after_dot = 15

-- room for summaries in the code of a level
abbrev pub summaries : ℕ
summaries = 64

-- room for kinds of groups above it; from there up the unanswered `?`s are counted
abbrev pub kinds : ℕ
kinds = 32

abbrev pub one_question : ℕ
one_question = summaries * kinds

-- The code that is kept for a level: its summary below 64; the kind of its group, below 32, times 64; and 2,048 times the count of its
-- unanswered `?`s.
abbrev pub level_for : ℕ → Summary → ℕ → ℕ
level_for kind s questions = one_question * questions + summaries * kind + code (eqb kind object_kind) s

-- the code of the innermost level
unfoldable pub level_code : Levels → ℕ
level_code levels =
    level_for (kind_of levels) (summary (is_expression (kind_of levels)) (backwards (trees_of levels))) (unanswered (backwards (trees_of levels)))
