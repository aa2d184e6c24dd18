-- A part leads to tokens that stand behind it: the tokens after it end the tokens before it.
use mathlib.Core.List.{List, ◌∷◌}
use Rattle.machine.specs.Tokens.{Token}
use Rattle.machine.specs.Syntax.{Syntax}
use Rattle.grammar.specs.Grammar.{
  Items,
  ItemStart,
  at_argument,
  at_element,
  at_property,
  Names,
  one_name,
  more_names,
  Parameters,
  no_parameters,
  some_parameters,
  Form,
  Derives,
  chain_leaf,
  chain_array,
  chain_object,
  chain_parens,
  chain_function,
  chain_unnamed,
  chain_index,
  chain_member,
  chain_call,
  chain_new,
  no_items,
  add_item,
  add_hole,
  list_empty,
  list_items,
  list_last,
  expression_assign,
  expression_comma,
  assign_binary,
  assign_to,
  assign_conditional,
  binary_unary,
  binary_operator,
  unary_target,
  unary_prefix,
  unary_postfix,
  target_chain,
  target_new,
  function_all,
  block_all,
  statement_block,
  statement_expression,
  statement_var,
  no_variables,
  add_variable,
  variable_bare,
  variable_initialised,
  statement_empty,
  statement_if,
  statement_else,
  statement_do,
  statement_head,
  statement_for,
  statement_for_var,
  left_out,
  not_left_out,
  statement_for_in,
  statement_for_var_in,
  statement_bare_jump,
  statement_jump,
  statement_bare_return,
  statement_full_return,
  statement_switch,
  no_clauses,
  add_case,
  add_default,
  statement_throw,
  statement_try,
  statement_try_finally,
  statement_try_all,
  catch_all,
  finally_all,
  statement_debugger,
  statement_label,
  no_statements,
  add_statement,
  add_declaration,
}

-- a list of tokens ends with another
pub data EndsWith : List Token → List Token → Type 0 where
  itself : {here : List Token} → EndsWith here here
  behind : {t : Token} {before after : List Token} → EndsWith before after → EndsWith (t ∷ before) after

pub past : {t : Token} {before after : List Token} → EndsWith before (t ∷ after) → EndsWith before after
past itself = behind itself
past (behind e) = behind (past e)

pub then : {before middle after : List Token} → EndsWith before middle → EndsWith middle after → EndsWith before after
then itself e = e
then (behind d) e = behind (then d e)

pub item_end : {items : Items} {before after : List Token} → ItemStart items before after → EndsWith before after
item_end at_argument = itself
item_end at_element = itself
item_end (at_property called) = behind (behind itself)

names_end : {before after : List Token} → Names before after → EndsWith before after
names_end one_name = behind itself
names_end (more_names names) = past (past (names_end names))

pub parameters_end : {before after : List Token} → Parameters before after → EndsWith before after
parameters_end no_parameters = itself
parameters_end (some_parameters names) = names_end names

pub derived_end : {form : Form} {before after : List Token} {value : Syntax} → Derives form before after value → EndsWith before after
derived_end (chain_leaf leaf) = behind itself
derived_end (chain_array values) = behind (past (derived_end values))
derived_end (chain_object values) = behind (past (derived_end values))
derived_end (chain_parens value) = behind (past (derived_end value))
derived_end (chain_function function) = behind (behind (derived_end function))
derived_end (chain_unnamed function) = behind (derived_end function)
derived_end (chain_index object value) = then (past (derived_end object)) (past (derived_end value))
derived_end (chain_member called object) = past (past (derived_end object))
derived_end (chain_call callee values) = then (past (derived_end callee)) (past (derived_end values))
derived_end (chain_new callee values) = behind (then (past (derived_end callee)) (past (derived_end values)))
derived_end (target_chain chain) = derived_end chain
derived_end (target_new callee) = behind (derived_end callee)
derived_end (unary_target target) = derived_end target
derived_end (unary_prefix op operand) = behind (derived_end operand)
derived_end (unary_postfix op same operand) = past (derived_end operand)
derived_end (binary_unary unary) = derived_end unary
derived_end (binary_operator op tight left right) = then (past (derived_end left)) (derived_end right)
derived_end (assign_binary binary) = derived_end binary
derived_end (assign_to op target value) = then (past (derived_end target)) (derived_end value)
derived_end (assign_conditional condition first second) = then (past (derived_end condition)) (then (past (derived_end first)) (derived_end second))
derived_end (expression_assign value) = derived_end value
derived_end (expression_comma left right) = then (past (derived_end left)) (derived_end right)
derived_end (function_all parameters statements) = behind (then (past (past (parameters_end parameters))) (past (derived_end statements)))
derived_end (block_all statements) = behind (past (derived_end statements))
derived_end (statement_block inner) = derived_end inner
derived_end (statement_expression allowed value) = past (derived_end value)
derived_end (statement_var variables last) = behind (then (derived_end variables) (past (derived_end last)))
derived_end no_variables = itself
derived_end (add_variable variables last) = then (derived_end variables) (past (derived_end last))
derived_end variable_bare = behind itself
derived_end (variable_initialised value) = behind (behind (derived_end value))
derived_end statement_empty = behind itself
derived_end (statement_if none condition inner) = behind (behind (then (past (derived_end condition)) (derived_end inner)))
derived_end (statement_else condition first second) =
    behind (behind (then (past (derived_end condition)) (then (past (derived_end first)) (derived_end second))))
derived_end (statement_do inner condition) = behind (then (past (past (derived_end inner))) (past (past (derived_end condition))))
derived_end (statement_head word head inner) = behind (behind (then (past (derived_end head)) (derived_end inner)))
derived_end (statement_for start condition step inner) =
    behind (behind (then (past (derived_end start)) (then (past (derived_end condition)) (then (past (derived_end step)) (derived_end inner)))))
derived_end (statement_for_var variables last condition step inner) =
    behind (behind (behind
    (then (derived_end variables)
    (then (past (derived_end last)) (then (past (derived_end condition)) (then (past (derived_end step)) (derived_end inner)))))))
derived_end left_out = itself
derived_end (not_left_out value) = derived_end value
derived_end (statement_for_in target object inner) =
    behind (behind (then (past (derived_end target)) (then (past (derived_end object)) (derived_end inner))))
derived_end (statement_for_var_in variable object inner) =
    behind (behind (behind (then (past (derived_end variable)) (then (past (derived_end object)) (derived_end inner)))))
derived_end (statement_bare_jump word) = behind (behind itself)
derived_end (statement_jump word same) = behind (behind (behind itself))
derived_end statement_bare_return = behind (behind itself)
derived_end (statement_full_return same value) = behind (past (derived_end value))
derived_end (statement_switch subject clauses) = behind (behind (then (past (past (derived_end subject))) (past (derived_end clauses))))
derived_end no_clauses = itself
derived_end (add_case cases test statements) = then (past (derived_end cases)) (then (past (derived_end test)) (derived_end statements))
derived_end (add_default cases statements) = then (past (past (derived_end cases))) (derived_end statements)
derived_end (statement_throw same value) = behind (past (derived_end value))
derived_end (statement_try none inner handler) = behind (then (derived_end inner) (derived_end handler))
derived_end (statement_try_finally inner last) = behind (then (derived_end inner) (derived_end last))
derived_end (statement_try_all inner handler last) = behind (then (derived_end inner) (then (derived_end handler) (derived_end last)))
derived_end (catch_all inner) = behind (behind (behind (behind (derived_end inner))))
derived_end (finally_all inner) = behind (derived_end inner)
derived_end statement_debugger = behind (behind itself)
derived_end (statement_label inner) = behind (behind (derived_end inner))
derived_end no_statements = itself
derived_end (add_statement statements last) = then (derived_end statements) (derived_end last)
derived_end (add_declaration statements function) = then (past (past (derived_end statements))) (derived_end function)
derived_end no_items = itself
derived_end (add_item values starts last) = then (derived_end values) (then (item_end starts) (past (derived_end last)))
derived_end (add_hole values) = past (derived_end values)
derived_end list_empty = itself
derived_end (list_items allowed values) = derived_end values
derived_end (list_last values starts last) = then (derived_end values) (then (item_end starts) (derived_end last))
