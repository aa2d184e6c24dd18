-- The numbers that the code computes with the code of a level, one definition for each of its functions. Machinery.
use Rattle.std.specs.Prelude.{ℕ, ◌+◌, ◌-◌, ◌*◌, ◌/◌, ◌%◌, Bool, true, false, not, cond, ◌||◌, eqb, ltb, leb}
use Rattle.elements.specs.Elements.{stating}
use Rattle.elements.specs.declared.Stated.{Stated}
use Rattle.rule.specs.Rule.{Class, name, value, operator, question, answer, colon, dot, comma, semicolon, other, return_word, function_word, head_word, parens, brackets, object, block, settled_sign}
use Rattle.rule.specs.Trees.{object_kind}
use Rattle.rule.specs.Levels.{is_expression}
use Rattle.rule.specs.Machinery.Summary.{nothing, operand, after_operator, after_separator, after_dot, after_comma, after_other, after_return, after_head_word, after_head, after_block, after_function, after_function_name, after_function_parens, code, summaries, kinds, one_question}

-- the kind of the level's group, and the count of its unanswered `?`s
abbrev pub kind_in : ℕ → ℕ
kind_in level = level / summaries % kinds

abbrev pub questions_in : ℕ → ℕ
questions_in level = level / one_question

-- the level with another summary
abbrev pub with : ℕ → ℕ → ℕ
with level code = summaries * (level / summaries) + code

-- the level where nothing stands yet in a group of a kind
abbrev pub level_in : ℕ → ℕ
level_in kind = cond (eqb kind object_kind) (summaries * object_kind + code true nothing) (summaries * kind + code false nothing)

-- whether a slash opens a regular expression, a reserved word is a name, and a brace opens an object
unfoldable pub slash_by_level : ℕ → Bool
slash_by_level level = ltb (code false (after_function_parens true)) (level % summaries)

unfoldable pub name_by_level : ℕ → Bool
name_by_level level = leb (code false after_dot) (level % summaries)

abbrev pub stated_by_level : ℕ → Stated
stated_by_level level = stating (slash_by_level level) (name_by_level level)

abbrev pub brace_by_code : Bool → ℕ → Bool → Bool
brace_by_code expression n newline =
    cond (eqb n (code false after_operator) || eqb n (code true after_comma)) true
    (cond (eqb n (code false after_return)) (not newline)
    (cond (eqb n (code false nothing) || eqb n (code false after_separator)) expression
    false))

unfoldable pub brace_by_level : ℕ → Bool → Bool
brace_by_level level newline = brace_by_code (is_expression (kind_in level)) (level % summaries) newline

-- the kind of the sign of a number
unfoldable pub settled_by_level : ℕ → Bool → ℕ → ℕ
settled_by_level level newline which = settled_sign (slash_by_level level) (questions_in level) newline which

-- after a name, after `( )` and after a block
abbrev pub name_code : ℕ → ℕ
name_code n =
    cond (eqb n (code false (after_function false))) (code false (after_function_name false))
    (cond (eqb n (code false (after_function true))) (code false (after_function_name true))
    (code false operand))

unfoldable pub level_after_name : ℕ → ℕ
level_after_name level = with level (name_code (level % summaries))

abbrev pub parens_code : ℕ → ℕ
parens_code n =
    cond (eqb n (code false after_head_word)) (code false after_head)
    (cond (eqb n (code false (after_function_name false)) || eqb n (code false (after_function false))) (code false (after_function_parens false))
    (cond (eqb n (code false (after_function_name true)) || eqb n (code false (after_function true))) (code false (after_function_parens true))
    (code false operand)))

unfoldable pub level_after_parens : ℕ → ℕ
level_after_parens level = with level (parens_code (level % summaries))

abbrev pub block_code : ℕ → ℕ
block_code n = cond (eqb n (code false (after_function_parens true))) (code false operand) (code false after_block)

unfoldable pub level_after_block : ℕ → ℕ
level_after_block level = with level (block_code (level % summaries))

-- after a tree of a class, before which a line end lies or not
unfoldable pub level_after : ℕ → Class → Bool → ℕ
level_after level name newline = level_after_name level
level_after level value newline = with level (code false operand)
level_after level operator newline = with level (code false after_operator)
level_after level question newline = with level (code false after_operator) + one_question
level_after level answer newline = with (cond (ltb level one_question) level (level - one_question)) (code false after_operator)
level_after level colon newline = with level (code false after_separator)
level_after level dot newline = with level (code false after_dot)
level_after level comma newline = with level (cond (eqb (kind_in level) object_kind) (code true after_comma) (code false after_comma))
level_after level semicolon newline = with (level % one_question) (code false after_separator)
level_after level other newline = with level (code false after_other)
level_after level return_word newline = with level (code false after_return)
level_after level function_word newline = with level (code false (after_function (brace_by_level level newline)))
level_after level head_word newline = with level (code false after_head_word)
level_after level parens newline = level_after_parens level
level_after level brackets newline = with level (code false operand)
level_after level object newline = with level (code false operand)
level_after level block newline = level_after_block level
