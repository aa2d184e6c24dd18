-- A program has at most as many syntax records as tree records.
use mathlib.Core.Bool.{Bool, true, false, not, cond, ◌||◌}
use mathlib.Core.List.{List, [], ◌∷◌}
use Prim.Native.Nat.{ℕ, ◌+◌, ◌≤◌}
use native.Mathlib.Omega.{arith}
use lib.Dec.{T, eqb}
use Rattle.machine.specs.Tokens.{Token, token, Spot, name, colon, semicolon, open_paren, close_paren, close_bracket, close_brace}
use Rattle.machine.specs.Syntax.{Syntax, size}
use Rattle.grammar.specs.Grammar.{
  Leaf,
  assignment_operators,
  binary_operators,
  prefix_operators,
  postfix_operators,
  is_among,
  Form,
  Derives,
  HeadWord,
  while-word,
  with-word,
  JumpWord,
  continue-word,
  break-word,
  IdentifierName,
  identifier,
  reserved_word,
  Items,
  ItemStart,
  at_argument,
  at_element,
  at_property,
  Names,
  one_name,
  more_names,
  Parameters,
  no_parameters,
  some_parameters,
  chain_leaf,
  chain_array,
  chain_object,
  chain_parens,
  chain_function,
  chain_unnamed,
  chain_index,
  chain_member,
  chain_call,
  chain_new,
  no_items,
  add_item,
  add_hole,
  list_empty,
  list_items,
  list_last,
  expression_assign,
  expression_comma,
  assign_binary,
  assign_to,
  assign_conditional,
  binary_unary,
  binary_operator,
  unary_target,
  unary_prefix,
  unary_postfix,
  target_chain,
  target_new,
  function_all,
  block_all,
  statement_block,
  statement_expression,
  statement_var,
  no_variables,
  add_variable,
  variable_bare,
  variable_initialised,
  statement_empty,
  statement_if,
  statement_else,
  statement_do,
  statement_head,
  statement_for,
  statement_for_var,
  left_out,
  not_left_out,
  statement_for_in,
  statement_for_var_in,
  statement_bare_jump,
  statement_jump,
  statement_bare_return,
  statement_full_return,
  statement_switch,
  no_clauses,
  add_case,
  add_default,
  statement_throw,
  statement_try,
  statement_try_finally,
  statement_try_all,
  catch_all,
  finally_all,
  statement_debugger,
  statement_label,
  no_statements,
  add_statement,
  add_declaration,
  Program,
}
use Rattle.grammar.proofs.TableLaws.{each_class, at_class, at_leaf, binary_by}

-- the class of a closer
abbrev pub is_closing : ℕ → Bool
is_closing class = eqb class close_paren || eqb class close_bracket || eqb class close_brace

-- the tokens that are no closers: each has a tree record
abbrev pub count_tree_tokens : List Token → ℕ
count_tree_tokens [] = 0
count_tree_tokens (token class spot ∷ rest) = cond (is_closing class) 0 1 + count_tree_tokens rest

pub leaf_open : {class : ℕ} → Leaf class → T (not (is_closing class))
leaf_open leaf = at_leaf (λ x. not (is_closing x)) tt leaf

-- operators of a list that has no closers
pub operator_open : (classes : List ℕ) → T (each_class (λ x. not (is_closing x)) classes) → (class : ℕ) → T (is_among classes class) → T (not (is_closing class))
operator_open classes none class op = at_class (λ x. not (is_closing x)) classes class op none

pub name_open : {class : ℕ} → IdentifierName class → T (not (is_closing class))
name_open identifier = tt
name_open reserved_word = tt

pub head_open : {class : ℕ} → HeadWord class → T (not (is_closing class))
head_open while-word = tt
head_open with-word = tt

pub jump_open : {class bare : ℕ} → JumpWord class bare → T (not (is_closing class))
jump_open continue-word = tt
jump_open break-word = tt

one_more : (class : ℕ) (spot : Spot) (rest : List Token) → T (not (is_closing class)) → count_tree_tokens rest + 1 ≤ count_tree_tokens (token class spot ∷ rest)
one_more class spot rest h = go (is_closing class) h
  where
    go : (b : Bool) → T (not b) → count_tree_tokens rest + 1 ≤ cond b 0 1 + count_tree_tokens rest
    go true h = absurd h
    go false h = omega arith

item_counted : {items : Items} {before after : List Token} → ItemStart items before after → count_tree_tokens after ≤ count_tree_tokens before
item_counted at_argument = omega arith
item_counted at_element = omega arith
item_counted (at_property {class = class} {called = called} {sign = sign} {here = here} identified) =
    omega (arith, one_more class called (token colon sign ∷ here) (name_open identified))

names_counted : {before after : List Token} → Names before after → count_tree_tokens after ≤ count_tree_tokens before
names_counted one_name = omega arith
names_counted (more_names names) = omega (arith, names_counted names)

parameters_counted : {before after : List Token} → Parameters before after → count_tree_tokens after ≤ count_tree_tokens before
parameters_counted no_parameters = omega arith
parameters_counted (some_parameters names) = names_counted names

-- each part's records are at most as many as the tokens from before it to behind it that are no closers
counted : {form : Form} {before after : List Token} {value : Syntax} → Derives form before after value
    → size value + count_tree_tokens after ≤ count_tree_tokens before
counted (chain_leaf {class = class} {spot = spot} {after = after} leaf) = omega (arith, one_more class spot after (leaf_open leaf))
counted (chain_array values) = omega (arith, counted values)
counted (chain_object values) = omega (arith, counted values)
counted (chain_parens value) = omega (arith, counted value)
counted (chain_function function) = omega (arith, counted function)
counted (chain_unnamed function) = omega (arith, counted function)
counted (chain_index object value) = omega (arith, counted object, counted value)
counted (chain_member {class = class} {property = property} {after = after} called object) =
    omega (arith, counted object, one_more class property after (name_open called))
counted (chain_call callee values) = omega (arith, counted callee, counted values)
counted (chain_new callee values) = omega (arith, counted callee, counted values)
counted (target_chain chain) = counted chain
counted (target_new callee) = omega (arith, counted callee)
counted (unary_target target) = counted target
counted (unary_prefix {class = class} {sign = sign} {middle = middle} op operand) =
    omega (arith, counted operand, one_more class sign middle (operator_open prefix_operators tt class op))
counted (unary_postfix {class = class} {sign = sign} {after = after} op same operand) =
    omega (arith, counted operand, one_more class sign after (operator_open postfix_operators tt class op))
counted (binary_unary unary) = counted unary
counted (binary_operator {within = within} {class = class} {sign = sign} {middle = middle} op tight left right) =
    omega (arith, counted left, counted right, one_more class sign middle (operator_open binary_operators tt class (binary_by within class op)))
counted (assign_binary binary) = counted binary
counted (assign_to {class = class} {sign = sign} {middle = middle} op target value) =
    omega (arith, counted target, counted value, one_more class sign middle (operator_open assignment_operators tt class op))
counted (assign_conditional condition first second) = omega (arith, counted condition, counted first, counted second)
counted (expression_assign value) = counted value
counted (expression_comma left right) = omega (arith, counted left, counted right)
counted (function_all parameters statements) = omega (arith, parameters_counted parameters, counted statements)
counted (block_all statements) = omega (arith, counted statements)
counted (statement_block inner) = counted inner
counted (statement_expression allowed value) = omega (arith, counted value)
counted (statement_var variables last) = omega (arith, counted variables, counted last)
counted no_variables = omega arith
counted (add_variable variables last) = omega (arith, counted variables, counted last)
counted variable_bare = omega arith
counted (variable_initialised value) = omega (arith, counted value)
counted statement_empty = omega arith
counted (statement_if none condition inner) = omega (arith, counted condition, counted inner)
counted (statement_else condition first second) = omega (arith, counted condition, counted first, counted second)
counted (statement_do inner condition) = omega (arith, counted inner, counted condition)
counted (statement_head {class = class} {word = word} {opener = opener} {inside = inside} heads head inner) =
    omega (arith, counted head, counted inner, one_more class word (token open_paren opener ∷ inside) (head_open heads))
counted (statement_for start condition step inner) = omega (arith, counted start, counted condition, counted step, counted inner)
counted (statement_for_var variables last condition step inner) =
    omega (arith, counted variables, counted last, counted condition, counted step, counted inner)
counted left_out = omega arith
counted (not_left_out value) = counted value
counted (statement_for_in target object inner) = omega (arith, counted target, counted object, counted inner)
counted (statement_for_var_in variable object inner) = omega (arith, counted variable, counted object, counted inner)
counted (statement_bare_jump {class = class} {word = word} {end = end} {after = after} jumps) =
    omega (arith, one_more class word (token semicolon end ∷ after) (jump_open jumps))
counted (statement_jump {class = class} {word = word} {label = label} {end = end} {after = after} jumps same) =
    omega (arith, one_more class word (token name label ∷ token semicolon end ∷ after) (jump_open jumps))
counted statement_bare_return = omega arith
counted (statement_full_return same value) = omega (arith, counted value)
counted (statement_switch subject clauses) = omega (arith, counted subject, counted clauses)
counted no_clauses = omega arith
counted (add_case cases test statements) = omega (arith, counted cases, counted test, counted statements)
counted (add_default cases statements) = omega (arith, counted cases, counted statements)
counted (statement_throw same value) = omega (arith, counted value)
counted (statement_try none inner handler) = omega (arith, counted inner, counted handler)
counted (statement_try_finally inner last) = omega (arith, counted inner, counted last)
counted (statement_try_all inner handler last) = omega (arith, counted inner, counted handler, counted last)
counted (catch_all inner) = omega (arith, counted inner)
counted (finally_all inner) = omega (arith, counted inner)
counted statement_debugger = omega arith
counted (statement_label inner) = omega (arith, counted inner)
counted no_statements = omega arith
counted (add_statement statements last) = omega (arith, counted statements, counted last)
counted (add_declaration statements function) = omega (arith, counted statements, counted function)
counted no_items = omega arith
counted (add_item values starts last) = omega (arith, counted values, item_counted starts, counted last)
counted (add_hole values) = omega (arith, counted values)
counted list_empty = omega arith
counted (list_items allowed values) = counted values
counted (list_last values starts last) = omega (arith, counted values, item_counted starts, counted last)

pub few_parts : {all : List Token} {parts : Syntax} → Program all parts → size parts ≤ count_tree_tokens all
few_parts program = omega (arith, counted program)
