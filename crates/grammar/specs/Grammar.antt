-- Document 01, Grammar, and document 02, U1, U2, U4 and U6: derivations, one constructor for each step. Each part leads from the tokens before it to the
-- tokens after it, and has a syntax tree.
use Rattle.std.specs.Prelude.{ℕ, ◌+◌, ◌≤◌, Bool, true, false, not, ◌||◌, List, [], ◌∷◌, T, eqb}
use Rattle.machine.specs.Tokens.{
  Token,
  token,
  Spot,
  name,
  number,
  string,
  pattern,
  this_word,
  null_word,
  true_word,
  false_word,
  new_word,
  assign,
  question,
  comma,
  var_word,
  else_word,
  do_word,
  while_word,
  for_word,
  in_word,
  continue_word,
  break_word,
  with_word,
  switch_word,
  case_word,
  default_word,
  throw_word,
  try_word,
  catch_word,
  finally_word,
  debugger_word,
  colon,
  semicolon,
  dot,
  open_paren,
  close_paren,
  open_brace,
  close_brace,
  return_word,
  function_word,
  if_word,
  word_name,
  open_bracket,
  close_bracket,
}
pub use Rattle.machine.specs.Operators.{precedence, least_binary, assignment_operators, binary_operators, binary_operators_by, prefix_operators, prefix_kind, postfix_operators, postfix_kind, is_among}
pub use Rattle.machine.specs.Scopes.{Scope, body, block, Items, call_arguments, array_elements, object_properties}
use Rattle.machine.specs.Syntax.{Syntax, nil, node, snoc, object_syntax, parenthesised_syntax, function_syntax, member_syntax, call_syntax, construct_syntax, expression_syntax, bare_return_syntax, full_return_syntax, block_syntax, label_syntax, if_syntax, declaration_syntax, array_syntax, index_syntax, variable_syntax, empty_syntax, for_in_syntax, bare_continue_syntax, bare_break_syntax}

-- "name, number, string, regular expression", and the four value words of document 02, U4: the class of the token is the kind of the part
pub data Leaf : ℕ → Type 0 where
  leaf_name : Leaf name
  leaf_number : Leaf number
  leaf_string : Leaf string
  leaf_pattern : Leaf pattern
  leaf_this : Leaf this_word
  leaf_null : Leaf null_word
  leaf_true : Leaf true_word
  leaf_false : Leaf false_word

-- what "`. name`" and a property take: a name, or (document 02, U1 and U2) a reserved word that is taken as a name. No other step takes such a word
pub data IdentifierName : ℕ → Type 0 where
  identifier : IdentifierName name
  reserved_word : IdentifierName word_name

-- "not starting with `{` or `function`"
abbrev pub starts_expression : List Token → Bool
starts_expression [] = true
starts_expression (token class spot ∷ rest) = not (eqb class open_brace || eqb class function_word)

-- "with no line end after `return`"; ES5.1 chapter 12 has the same of `throw`, `continue` and `break`
abbrev pub on_same_line : List Token → Bool
on_same_line [] = true
on_same_line (token class spot ∷ rest) = not spot.newline

-- "An `else` joins the nearest `if` that can take it": an `if` without `else` stands before no `else`
abbrev pub no_else : List Token → Bool
no_else [] = true
no_else (token class spot ∷ rest) = not (eqb class else_word)

-- nor does a `try` without `finally` stand before one: no step would take it there
abbrev pub no_finally : List Token → Bool
no_finally [] = true
no_finally (token class spot ∷ rest) = not (eqb class finally_word)

-- the words whose head is an Expression in `( )` and whose body is a statement, but for `if` (12.6.2, 12.10): the class of the word is the kind of the part
pub data HeadWord : ℕ → Type 0 where
  while-word : HeadWord while_word
  with-word : HeadWord with_word

-- the words that a label may follow (12.7, 12.8): the class of the word is the kind of the part with a label, and the other that without one
pub data JumpWord : ℕ → ℕ → Type 0 where
  continue-word : JumpWord continue_word bare_continue_syntax
  break-word : JumpWord break_word bare_break_syntax

-- where the value of an item starts: with the item, or behind "name `:`" of a property
pub data ItemStart : Items → List Token → List Token → Type 0 where
  at_argument : {here : List Token} → ItemStart call_arguments here here
  at_element : {here : List Token} → ItemStart array_elements here here
  at_property : {class : ℕ} {called sign : Spot} {here : List Token} → IdentifierName class
      → ItemStart object_properties (token class called ∷ token colon sign ∷ here) here

-- "a `,` may follow the last property"; it may follow the last element of an array too, which is no hole (ES5.1 11.1.4), and follows no last argument
abbrev pub may_end_in_comma : Items → Bool
may_end_in_comma call_arguments = false
may_end_in_comma array_elements = true
may_end_in_comma object_properties = true

-- names with a `,` between any two
pub data Names : List Token → List Token → Type 0 where
  one_name : {first : Spot} {after : List Token} → Names (token name first ∷ after) after
  more_names : {sign next : Spot} {before after : List Token} → Names before (token comma sign ∷ token name next ∷ after) → Names before after

-- "any number of .. parameters"
pub data Parameters : List Token → List Token → Type 0 where
  no_parameters : {here : List Token} → Parameters here here
  some_parameters : {before after : List Token} → Names before after → Parameters before after

-- What is derived: the statements of a scope, a statement, a block, a `catch`, a `finally`, the clauses of a `switch`, of which one is a `default` or none, variables as far as each
-- has a `,` behind it, a variable, what may be left out of the head of a `for`, a Function behind its word and its name, if it has one, an Expression, an
-- Assign, a Binary by operators of at least a precedence, a Unary, a Target (ES5.1 11.2: LeftHandSideExpression or, with no calls, NewExpression), a Chain
-- (CallExpression or MemberExpression or, with no calls, MemberExpression), the items of a list as far as each has a `,` behind it, and a whole list. The Boolean
-- of clauses says that one is a `default`; that of variables to a Binary that `in` is among the operators (12.6: false for NoIn); that of a Target and a Chain
-- that it may have calls
pub data Form : Type 0 where
  statements_form : Scope → Form
  statement_form block_form catch_form finally_form function_form : Form
  clauses_form variables_form variable_form optional_form expression_form assign_form : Bool → Form
  binary_form : Bool → ℕ → Form
  unary_form : Form
  target_form chain_form : Bool → Form
  items_form list_form : Items → Form

pub data Derives : Form → List Token → List Token → Syntax → Type 0 where
  -- "Program and function body: statements and declarations, possibly none", and the statements of a block and of a clause
  no_statements : {scope : Scope} {here : List Token} → Derives (statements_form scope) here here nil
  add_statement : {scope : Scope} {before middle after : List Token} {statements last : Syntax}
      → Derives (statements_form scope) before middle statements → Derives statement_form middle after last
      → Derives (statements_form scope) before after (snoc statements last)
  add_declaration : {word called : Spot} {before rest after : List Token} {statements inside : Syntax}
      → Derives (statements_form body) before (token function_word word ∷ token name called ∷ rest) statements → Derives function_form rest after inside
      → Derives (statements_form body) before after (snoc statements (node declaration_syntax word.mark inside nil))
  -- "block of statements (no declarations), possibly none"
  block_all : {opener closer : Spot} {inside after : List Token} {statements : Syntax}
      → Derives (statements_form block) inside (token close_brace closer ∷ after) statements
      → Derives block_form (token open_brace opener ∷ inside) after (node block_syntax opener.mark statements nil)
  statement_block : {before after : List Token} {inner : Syntax} → Derives block_form before after inner → Derives statement_form before after inner
  -- "expression .. `;` not starting with `{` or `function`". Where document 01 has an Assign here, in `if ( )`, `return` and `( )`, and U2 behind a Chain in `[ ]`,
  -- document 02, U4, has "the comma operator where ES5.1 has Expression"
  statement_expression : {end : Spot} {before after : List Token} {value : Syntax}
      → T (starts_expression before) → Derives (expression_form true) before (token semicolon end ∷ after) value
      → Derives statement_form before after (node expression_syntax end.mark value nil)
  -- document 02, U6: "as in ES5.1 chapter 12": 12.2, `var` with its variables, of which the last has no `,` behind it
  statement_var : {word end : Spot} {before middle after : List Token} {variables last : Syntax} → Derives (variables_form true) before middle variables
      → Derives (variable_form true) middle (token semicolon end ∷ after) last
      → Derives statement_form (token var_word word ∷ before) after (node var_word word.mark variables last)
  no_variables : {within : Bool} {here : List Token} → Derives (variables_form within) here here nil
  add_variable : {within : Bool} {sign : Spot} {before middle after : List Token} {variables last : Syntax} → Derives (variables_form within) before middle variables
      → Derives (variable_form within) middle (token comma sign ∷ after) last → Derives (variables_form within) before after (snoc variables last)
  -- a name, with or without an initialiser; its `=` makes no record
  variable_bare : {within : Bool} {called : Spot} {after : List Token}
      → Derives (variable_form within) (token name called ∷ after) after (node variable_syntax called.mark nil nil)
  variable_initialised : {within : Bool} {called sign : Spot} {before after : List Token} {value : Syntax} → Derives (assign_form within) before after value
      → Derives (variable_form within) (token name called ∷ token assign sign ∷ before) after (node variable_syntax called.mark nil value)
  -- 12.3: the empty statement
  statement_empty : {end : Spot} {after : List Token} → Derives statement_form (token semicolon end ∷ after) after (node empty_syntax end.mark nil nil)
  -- "`if ( Assign )` statement", with an Expression
  statement_if : {word opener closer : Spot} {inside middle after : List Token} {condition inner : Syntax} → T (no_else after)
      → Derives (expression_form true) inside (token close_paren closer ∷ middle) condition → Derives statement_form middle after inner
      → Derives statement_form (token if_word word ∷ token open_paren opener ∷ inside) after (node if_syntax word.mark condition inner)
  -- 12.5: `if` with `else`, whose part holds the whole `if` before it
  statement_else : {word opener closer other : Spot} {inside middle rest after : List Token} {condition first second : Syntax}
      → Derives (expression_form true) inside (token close_paren closer ∷ middle) condition → Derives statement_form middle (token else_word other ∷ rest) first
      → Derives statement_form rest after second
      → Derives statement_form (token if_word word ∷ token open_paren opener ∷ inside) after
      (node else_word other.mark (node if_syntax word.mark condition first) second)
  -- 12.6.1: `do`, "semicolons written out"
  statement_do : {word other opener closer end : Spot} {before inside after : List Token} {inner condition : Syntax}
      → Derives statement_form before (token while_word other ∷ token open_paren opener ∷ inside) inner
      → Derives (expression_form true) inside (token close_paren closer ∷ token semicolon end ∷ after) condition
      → Derives statement_form (token do_word word ∷ before) after (node do_word word.mark inner condition)
  -- 12.6.2 and 12.10: `while` and `with`
  statement_head : {class : ℕ} {word opener closer : Spot} {inside middle after : List Token} {head inner : Syntax} → HeadWord class
      → Derives (expression_form true) inside (token close_paren closer ∷ middle) head → Derives statement_form middle after inner
      → Derives statement_form (token class word ∷ token open_paren opener ∷ inside) after (node class word.mark head inner)
  -- 12.6.3: `for` with two `;`, behind each of which and before the first of which an Expression may be left out, or variables in the place of the first
  statement_for : {word opener first second closer : Spot} {inside test update middle after : List Token} {start condition step inner : Syntax}
      → Derives (optional_form false) inside (token semicolon first ∷ test) start → Derives (optional_form true) test (token semicolon second ∷ update) condition
      → Derives (optional_form true) update (token close_paren closer ∷ middle) step → Derives statement_form middle after inner
      → Derives statement_form (token for_word word ∷ token open_paren opener ∷ inside) after
      (node for_word word.mark (snoc (snoc (snoc nil start) condition) step) inner)
  statement_for_var : {word opener declared first second closer : Spot} {inside named test update middle after : List Token}
      {variables last condition step inner : Syntax} → Derives (variables_form false) inside named variables
      → Derives (variable_form false) named (token semicolon first ∷ test) last → Derives (optional_form true) test (token semicolon second ∷ update) condition
      → Derives (optional_form true) update (token close_paren closer ∷ middle) step → Derives statement_form middle after inner
      → Derives statement_form (token for_word word ∷ token open_paren opener ∷ token var_word declared ∷ inside) after
      (node for_word word.mark (snoc (snoc (snoc nil (node var_word declared.mark variables last)) condition) step) inner)
  left_out : {within : Bool} {here : List Token} → Derives (optional_form within) here here nil
  not_left_out : {within : Bool} {before after : List Token} {value : Syntax} → Derives (expression_form within) before after value
      → Derives (optional_form within) before after value
  -- 12.6.4: `for` with `in`, behind a Target or one variable; the `in` makes no record
  statement_for_in : {word opener sign closer : Spot} {inside rest middle after : List Token} {target object inner : Syntax}
      → Derives (target_form true) inside (token in_word sign ∷ rest) target → Derives (expression_form true) rest (token close_paren closer ∷ middle) object
      → Derives statement_form middle after inner
      → Derives statement_form (token for_word word ∷ token open_paren opener ∷ inside) after (node for_in_syntax word.mark (snoc (snoc nil target) object) inner)
  statement_for_var_in : {word opener declared sign closer : Spot} {inside rest middle after : List Token} {variable object inner : Syntax}
      → Derives (variable_form false) inside (token in_word sign ∷ rest) variable → Derives (expression_form true) rest (token close_paren closer ∷ middle) object
      → Derives statement_form middle after inner
      → Derives statement_form (token for_word word ∷ token open_paren opener ∷ token var_word declared ∷ inside) after
      (node for_in_syntax word.mark (snoc (snoc nil (node var_word declared.mark nil variable)) object) inner)
  -- 12.7 and 12.8: `continue` and `break`, which "may stand anywhere", bare and with a label on the same line; the label makes no record
  statement_bare_jump : {class bare : ℕ} {word end : Spot} {after : List Token} → JumpWord class bare
      → Derives statement_form (token class word ∷ token semicolon end ∷ after) after (node bare word.mark nil nil)
  statement_jump : {class bare : ℕ} {word label end : Spot} {after : List Token} → JumpWord class bare → T (not label.newline)
      → Derives statement_form (token class word ∷ token name label ∷ token semicolon end ∷ after) after (node class word.mark nil nil)
  -- "`return ;`". "Return may stand anywhere": no form asks what stands around it
  statement_bare_return : {word end : Spot} {after : List Token}
      → Derives statement_form (token return_word word ∷ token semicolon end ∷ after) after (node bare_return_syntax word.mark nil nil)
  -- "`return Assign ;` with no line end after `return`", with an Expression
  statement_full_return : {word end : Spot} {before after : List Token} {value : Syntax}
      → T (on_same_line before) → Derives (expression_form true) before (token semicolon end ∷ after) value
      → Derives statement_form (token return_word word ∷ before) after (node full_return_syntax word.mark nil value)
  -- 12.11: `switch`, with clauses of which at most one is a `default`; the Boolean of clauses says whether one is
  statement_switch : {word openHead closeHead opener closer : Spot} {seen : Bool} {inside clauses after : List Token} {subject cases : Syntax}
      → Derives (expression_form true) inside (token close_paren closeHead ∷ token open_brace opener ∷ clauses) subject
      → Derives (clauses_form seen) clauses (token close_brace closer ∷ after) cases
      → Derives statement_form (token switch_word word ∷ token open_paren openHead ∷ inside) after (node switch_word word.mark subject cases)
  no_clauses : {here : List Token} → Derives (clauses_form false) here here nil
  add_case : {seen : Bool} {word sign : Spot} {before value inside after : List Token} {cases test statements : Syntax}
      → Derives (clauses_form seen) before (token case_word word ∷ value) cases → Derives (expression_form true) value (token colon sign ∷ inside) test
      → Derives (statements_form block) inside after statements
      → Derives (clauses_form seen) before after (snoc cases (node case_word word.mark test statements))
  add_default : {word sign : Spot} {before inside after : List Token} {cases statements : Syntax}
      → Derives (clauses_form false) before (token default_word word ∷ token colon sign ∷ inside) cases → Derives (statements_form block) inside after statements
      → Derives (clauses_form true) before after (snoc cases (node default_word word.mark nil statements))
  -- 12.13: `throw`, with no line end behind it
  statement_throw : {word end : Spot} {before after : List Token} {value : Syntax} → T (on_same_line before)
      → Derives (expression_form true) before (token semicolon end ∷ after) value
      → Derives statement_form (token throw_word word ∷ before) after (node throw_word word.mark nil value)
  -- 12.14: `try` with `catch`, `finally` or both; the parameter makes no record
  statement_try : {word : Spot} {before middle after : List Token} {inner handler : Syntax} → T (no_finally after) → Derives block_form before middle inner
      → Derives catch_form middle after handler → Derives statement_form (token try_word word ∷ before) after (node try_word word.mark (snoc (snoc nil inner) handler) nil)
  statement_try_finally : {word : Spot} {before middle after : List Token} {inner last : Syntax} → Derives block_form before middle inner
      → Derives finally_form middle after last → Derives statement_form (token try_word word ∷ before) after (node try_word word.mark (snoc (snoc nil inner) last) nil)
  statement_try_all : {word : Spot} {before middle rest after : List Token} {inner handler last : Syntax} → Derives block_form before middle inner
      → Derives catch_form middle rest handler → Derives finally_form rest after last
      → Derives statement_form (token try_word word ∷ before) after (node try_word word.mark (snoc (snoc (snoc nil inner) handler) last) nil)
  catch_all : {word opener called closer : Spot} {inside after : List Token} {inner : Syntax} → Derives block_form inside after inner
      → Derives catch_form (token catch_word word ∷ token open_paren opener ∷ token name called ∷ token close_paren closer ∷ inside) after
      (node catch_word word.mark nil inner)
  finally_all : {word : Spot} {inside after : List Token} {inner : Syntax} → Derives block_form inside after inner
      → Derives finally_form (token finally_word word ∷ inside) after (node finally_word word.mark nil inner)
  -- 12.15: `debugger`
  statement_debugger : {word end : Spot} {after : List Token}
      → Derives statement_form (token debugger_word word ∷ token semicolon end ∷ after) after (node debugger_word word.mark nil nil)
  -- "name `:` statement"
  statement_label : {label sign : Spot} {middle after : List Token} {inner : Syntax} → Derives statement_form middle after inner
      → Derives statement_form (token name label ∷ token colon sign ∷ middle) after (node label_syntax label.mark nil inner)
  -- "Function: `function` name `( name )` block holding a body", with any number of parameters (document 02, U2), behind its word and its name
  function_all : {opener closer openBody closeBody : Spot} {named inside after : List Token} {statements : Syntax}
      → Parameters named (token close_paren closer ∷ token open_brace openBody ∷ inside)
      → Derives (statements_form body) inside (token close_brace closeBody ∷ after) statements
      → Derives function_form (token open_paren opener ∷ named) after statements
  -- ES5.1 11.14: Expression: an Assign, or Expression `,` Assign
  expression_assign : {within : Bool} {before after : List Token} {value : Syntax} → Derives (assign_form within) before after value
      → Derives (expression_form within) before after value
  expression_comma : {within : Bool} {sign : Spot} {before middle after : List Token} {left right : Syntax}
      → Derives (expression_form within) before (token comma sign ∷ middle) left → Derives (assign_form within) middle after right
      → Derives (expression_form within) before after (node comma sign.mark left right)
  -- "Assign: Binary, or Chain `=` Assign.", with all twelve operators (11.13)
  assign_binary : {within : Bool} {before after : List Token} {value : Syntax} → Derives (binary_form within least_binary) before after value
      → Derives (assign_form within) before after value
  assign_to : {within : Bool} {class : ℕ} {sign : Spot} {before middle after : List Token} {target value : Syntax} → T (is_among assignment_operators class)
      → Derives (target_form true) before (token class sign ∷ middle) target → Derives (assign_form within) middle after value
      → Derives (assign_form within) before after (node class sign.mark target value)
  -- 11.12: the conditional; between its signs `in` is an operator wherever it stands
  assign_conditional : {within : Bool} {sign answer : Spot} {before inside middle after : List Token} {condition first second : Syntax}
      → Derives (binary_form within least_binary) before (token question sign ∷ inside) condition → Derives (assign_form true) inside (token colon answer ∷ middle) first
      → Derives (assign_form within) middle after second
      → Derives (assign_form within) before after (node question sign.mark (snoc condition first) second)
  -- "Binary: Chains joined by `/` and `+`; `/` binds tighter, both group to the left.", with all binary operators (11.5 to 11.11)
  binary_unary : {within : Bool} {least : ℕ} {before after : List Token} {value : Syntax} → Derives unary_form before after value
      → Derives (binary_form within least) before after value
  binary_operator : {within : Bool} {least class : ℕ} {sign : Spot} {before middle after : List Token} {left right : Syntax}
      → T (is_among (binary_operators_by within) class) → least ≤ precedence class
      → Derives (binary_form within (precedence class)) before (token class sign ∷ middle) left
      → Derives (binary_form within (precedence class + 1)) middle after right
      → Derives (binary_form within least) before after (node class sign.mark left right)
  -- 11.4 and 11.3: a Unary is a Target, has an operator before it, or is a Target with one after it and no line end between
  unary_target : {before after : List Token} {value : Syntax} → Derives (target_form true) before after value → Derives unary_form before after value
  unary_prefix : {class : ℕ} {sign : Spot} {middle after : List Token} {value : Syntax} → T (is_among prefix_operators class)
      → Derives unary_form middle after value → Derives unary_form (token class sign ∷ middle) after (node (prefix_kind class) sign.mark nil value)
  unary_postfix : {class : ℕ} {sign : Spot} {before after : List Token} {value : Syntax} → T (is_among postfix_operators class) → T (not sign.newline)
      → Derives (target_form true) before (token class sign ∷ after) value
      → Derives unary_form before after (node (postfix_kind class) sign.mark value nil)
  -- 11.2: a Target is a Chain, or `new` without arguments
  target_chain : {calls : Bool} {before after : List Token} {value : Syntax} → Derives (chain_form calls) before after value
      → Derives (target_form calls) before after value
  target_new : {calls : Bool} {word : Spot} {middle after : List Token} {value : Syntax} → Derives (target_form false) middle after value
      → Derives (target_form calls) (token new_word word ∷ middle) after (node new_word word.mark nil value)
  -- "Chain: name, number, string, regular expression, `{ }`, `{ name : Assign }`, `( Assign )` or function, then any run of
  -- `( Assign )` and `. name`.", with lists of any length (U2), an Expression in `( )` (U4) and the value words
  chain_leaf : {calls : Bool} {class : ℕ} {spot : Spot} {after : List Token} → Leaf class
      → Derives (chain_form calls) (token class spot ∷ after) after (node class spot.mark nil nil)
  -- document 02, U2: "arrays with holes"
  chain_array : {calls : Bool} {opener closer : Spot} {inside after : List Token} {values : Syntax}
      → Derives (list_form array_elements) inside (token close_bracket closer ∷ after) values
      → Derives (chain_form calls) (token open_bracket opener ∷ inside) after (node array_syntax opener.mark values nil)
  -- "any number of .. properties": `{ }` has none
  chain_object : {calls : Bool} {opener closer : Spot} {inside after : List Token} {values : Syntax}
      → Derives (list_form object_properties) inside (token close_brace closer ∷ after) values
      → Derives (chain_form calls) (token open_brace opener ∷ inside) after (node object_syntax opener.mark values nil)
  chain_parens : {calls : Bool} {opener closer : Spot} {inside after : List Token} {value : Syntax}
      → Derives (expression_form true) inside (token close_paren closer ∷ after) value
      → Derives (chain_form calls) (token open_paren opener ∷ inside) after (node parenthesised_syntax opener.mark value nil)
  chain_function : {calls : Bool} {word called : Spot} {rest after : List Token} {inside : Syntax} → Derives function_form rest after inside
      → Derives (chain_form calls) (token function_word word ∷ token name called ∷ rest) after (node function_syntax word.mark inside nil)
  -- "unnamed function expressions"
  chain_unnamed : {calls : Bool} {word : Spot} {rest after : List Token} {inside : Syntax} → Derives function_form rest after inside
      → Derives (chain_form calls) (token function_word word ∷ rest) after (node function_syntax word.mark inside nil)
  -- "indexing"
  chain_index : {calls : Bool} {opener closer : Spot} {before inside after : List Token} {object value : Syntax}
      → Derives (chain_form calls) before (token open_bracket opener ∷ inside) object
      → Derives (expression_form true) inside (token close_bracket closer ∷ after) value
      → Derives (chain_form calls) before after (node index_syntax opener.mark object value)
  chain_member : {calls : Bool} {class : ℕ} {sign property : Spot} {before after : List Token} {object : Syntax} → IdentifierName class
      → Derives (chain_form calls) before (token dot sign ∷ token class property ∷ after) object
      → Derives (chain_form calls) before after (node member_syntax property.mark object nil)
  -- "any number of arguments": of a call, and of `new` with what it makes, which has no calls
  chain_call : {opener closer : Spot} {before inside after : List Token} {callee values : Syntax}
      → Derives (chain_form true) before (token open_paren opener ∷ inside) callee
      → Derives (list_form call_arguments) inside (token close_paren closer ∷ after) values
      → Derives (chain_form true) before after (node call_syntax opener.mark callee values)
  chain_new : {calls : Bool} {word opener closer : Spot} {before inside after : List Token} {callee values : Syntax}
      → Derives (chain_form false) before (token open_paren opener ∷ inside) callee
      → Derives (list_form call_arguments) inside (token close_paren closer ∷ after) values
      → Derives (chain_form calls) (token new_word word ∷ before) after (node construct_syntax word.mark callee values)
  -- items with a `,` behind each; a `,` makes no record. In an array a `,` that stands where an element would is a hole, and so makes none either
  no_items : {items : Items} {here : List Token} → Derives (items_form items) here here nil
  add_item : {items : Items} {sign : Spot} {before middle first after : List Token} {values last : Syntax}
      → Derives (items_form items) before middle values → ItemStart items middle first → Derives (assign_form true) first (token comma sign ∷ after) last
      → Derives (items_form items) before after (snoc values last)
  add_hole : {sign : Spot} {before after : List Token} {values : Syntax} → Derives (items_form array_elements) before (token comma sign ∷ after) values
      → Derives (items_form array_elements) before after values
  -- a list: no argument; no item, or items with a `,` behind the last too; or items and a last one with none behind it
  list_empty : {here : List Token} → Derives (list_form call_arguments) here here nil
  list_items : {items : Items} {before after : List Token} {values : Syntax} → T (may_end_in_comma items)
      → Derives (items_form items) before after values → Derives (list_form items) before after values
  list_last : {items : Items} {before middle first after : List Token} {values last : Syntax} → Derives (items_form items) before middle values
      → ItemStart items middle first → Derives (assign_form true) first after last → Derives (list_form items) before after (snoc values last)

abbrev pub Statements : Scope → List Token → List Token → Syntax → Type 0
Statements scope before after value = Derives (statements_form scope) before after value

abbrev pub Statement : List Token → List Token → Syntax → Type 0
Statement before after value = Derives statement_form before after value

abbrev pub Function : List Token → List Token → Syntax → Type 0
Function before after value = Derives function_form before after value

abbrev pub Expression : List Token → List Token → Syntax → Type 0
Expression before after value = Derives (expression_form true) before after value

abbrev pub Assign : List Token → List Token → Syntax → Type 0
Assign before after value = Derives (assign_form true) before after value

abbrev pub Binary : ℕ → List Token → List Token → Syntax → Type 0
Binary least before after value = Derives (binary_form true least) before after value

abbrev pub Unary : List Token → List Token → Syntax → Type 0
Unary before after value = Derives unary_form before after value

abbrev pub Target : Bool → List Token → List Token → Syntax → Type 0
Target calls before after value = Derives (target_form calls) before after value

abbrev pub Chain : Bool → List Token → List Token → Syntax → Type 0
Chain calls before after value = Derives (chain_form calls) before after value

-- the steps "lead from Program to exactly these elements"
abbrev pub Program : List Token → Syntax → Type 0
Program all parts = Statements body all [] parts
