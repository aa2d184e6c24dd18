-- Partial derivations: where the machine stands in derivations that are not yet complete.
use mathlib.Core.Bool.{Bool, true, false, not, cond}
use mathlib.Core.List.{List, [], ◌∷◌}
use Prim.Native.Nat.{ℕ, ◌-◌, ◌≤◌}
use native.Mathlib.Omega.{arith}
use lib.Dec.{T, eqb}
use Rattle.machine.specs.Tokens.{
  Token,
  token,
  Spot,
  name,
  do_word,
  while_word,
  for_word,
  in_word,
  switch_word,
  default_word,
  throw_word,
  try_word,
  catch_word,
  debugger_word,
  colon,
  semicolon,
  dot,
  open_paren,
  close_paren,
  close_bracket,
  comma,
  close_brace,
  return_word,
  function_word,
  if_word,
}
use Rattle.machine.specs.Operators.{assignment_precedence}
use Rattle.machine.specs.Syntax.{Syntax, nil, node, snoc, function_syntax, call_syntax, full_return_syntax, expression_syntax, if_syntax, variable_syntax, for_in_syntax}
use Rattle.grammar.specs.Grammar.{
  Scope,
  body,
  IdentifierName,
  HeadWord,
  JumpWord,
  Items,
  call_arguments,
  array_elements,
  object_properties,
  at_argument,
  Names,
  Parameters,
  block_form,
  catch_form,
  finally_form,
  variable_form,
  optional_form,
  expression_form,
  assign_form,
  target_form,
  items_form,
  list_form,
  Derives,
  Chain,
  Unary,
  Assign,
  Expression,
  Function,
  Statement,
  Statements,
  chain_array,
  chain_object,
  chain_parens,
  chain_function,
  chain_unnamed,
  chain_index,
  chain_call,
  chain_new,
  add_item,
  list_items,
  list_last,
  function_all,
  no_statements,
  block_all,
  statement_block,
  statement_expression,
  statement_var,
  no_variables,
  add_variable,
  variable_initialised,
  statement_else,
  statement_do,
  statement_head,
  statement_for,
  statement_for_var,
  statement_for_in,
  statement_for_var_in,
  not_left_out,
  statement_switch,
  statement_try_finally,
  statement_try_all,
  catch_all,
  finally_all,
  statement_jump,
  statement_full_return,
  statement_throw,
  statement_debugger,
  statement_label,
  add_statement,
}
use Rattle.machine.specs.Machinery.Machine.{
  head_in,
  end_of_text,
  Pending,
  pending,
  Frame,
  frame,
  empty,
  prefix_precedence,
  called,
  held_word,
  complete_statement,
  done_of,
  joined,
  headed,
  to_parameter,
  to_statement,
  to_body,
  to_try,
  if_nest,
  else_nest,
  do_nest,
  Setting,
  among,
  in_clause,
  Variables,
  Target,
  some_target,
  Ending,
  by_statement,
  by_return,
  by_variable,
  by_start,
  by_test,
  by_step,
  by_object,
  by_case,
  by_paren,
  by_bracket,
  by_colon,
  by_item,
  allows_in,
  Role,
  declared,
  operand_in,
  Control,
  statement_due,
  statement_done,
  behind_statement,
  name_first,
  return_first,
  throw_first,
  jump_first,
  head_first,
  for_first,
  start_due,
  test_due,
  step_due,
  switch_first,
  switch_past,
  clause_due,
  default_first,
  try_first,
  try_done,
  catch_first,
  catch_due,
  catch_named,
  catch_past,
  catch_done,
  finally_first,
  try_ended,
  variable_due,
  variable_named,
  body_done,
  test_first,
  semicolon_due,
  if_first,
  operand_due,
  member_due,
  operand_done,
  postfix_done,
  dot_last,
  function_first,
  function_named,
  parameter_past,
  item_due,
  property_named,
  parameter_due,
  parameter_named,
  finished,
  list_closer,
  behind_comma,
  behind_variables,
  later_variables,
  is_first,
  Open,
  grouped,
  nested,
  State,
  dead,
  live,
  pop_to,
  turn_to,
  finish_in,
}
use Rattle.grammar.proofs.Waiting.{whole_level, whole-level, conditional_begun, Waiting, none_waits, operator_waits, new_waits, may_call, begun_calls}
use Rattle.grammar.proofs.Places.{
  statement_at,
  block_at,
  clause_at,
  head_at,
  variable_at,
  expression_at,
  list_at,
  ForStart,
  start_expression,
  start_variables,
  for_target,
  for_variable,
  ForHead,
  three_parts,
  both_sides,
  Tried,
  tried_block,
  tried_catch,
  Head,
  with_name,
  without_name,
  Reached,
  in_program,
  in_block,
  in_declaration,
  in_function,
  after_if,
  after_else,
  after_do,
  after_head,
  after_for,
  after_label,
  after_case,
  after_default,
  block_statement,
  block_of_try,
  block_of_catch,
  block_of_finally,
  in_switch,
  in-for,
  in_var,
  in_for_var,
  in_for_vars,
  in_expression,
  in_return,
  in_throw,
  in_variable,
  in_start,
  in_for_test,
  in_for_step,
  in_for_object,
  in_case,
  in_parens,
  in_index,
  in_condition,
  in-head,
  in_subject,
  in_test,
  in_call,
  in_array,
  in_object,
  in_conditional,
  in_item,
  with_declaration,
}

-- a function stands here, in its role
pub data FunctionAt (all : List Token) : Role → Syntax → List Pending → List Pending → List Open → List Token → Type 0 where
  declaration_at : {done : Syntax} {around : List Open} {here : List Token} → Reached all (statement_at (among body)) done [] around here
      → FunctionAt all declared done [] [] around here
  operand_at : {ending : Ending} {target : Target} {level : ℕ} {done : Syntax} {starts waiting : List Pending} {around : List Open} {first here : List Token}
      → Reached all (expression_at ending) done starts around first → Waiting ending target level waiting first here
      → FunctionAt all (operand_in ending target) done starts waiting around here

-- a variable stands before these tokens, with its value
pub data VariableAt (all : List Token) : Variables → Syntax → List Pending → List Open → List Token → Syntax → Type 0 where
  variable-at : {place : Variables} {mark : ℕ} {done value : Syntax} {starts : List Pending} {around : List Open} {first here : List Token}
      → Reached all (variable_at place) done starts around first
      → Derives (variable_form (allows_in (by_variable place))) first here (node variable_syntax mark nil value)
      → VariableAt all place done (pending variable_syntax mark nil ∷ starts) around here value

-- a statement that lacks only its `;`: the tokens before it and those where the `;` is due, the kind of its part, its mark and its two pieces
pub data Unended : List Token → List Token → ℕ → ℕ → Syntax → Syntax → Type 0 where
  jump_unended : {class bare : ℕ} {word label : Spot} {here : List Token} → JumpWord class bare → T (not label.newline)
      → Unended (token class word ∷ token name label ∷ here) here class word.mark nil nil
  debugger_unended : {word : Spot} {here : List Token} → Unended (token debugger_word word ∷ here) here debugger_word word.mark nil nil
  do_unended : {word other opener closer : Spot} {before inside here : List Token} {inner condition : Syntax}
      → Statement before (token while_word other ∷ token open_paren opener ∷ inside) inner → Expression inside (token close_paren closer ∷ here) condition
      → Unended (token do_word word ∷ before) here do_word word.mark inner condition

pub semicolon_ends : {kind mark : ℕ} {end : Spot} {before after : List Token} {left right : Syntax}
    → Unended before (token semicolon end ∷ after) kind mark left right → Statement before after (node kind mark left right)
semicolon_ends (jump_unended jump same) = statement_jump jump same
semicolon_ends debugger_unended = statement_debugger
semicolon_ends (do_unended inner condition) = statement_do inner condition

-- the partial derivation of a state: its control, its frame and what is around it, and the tokens from there on
pub data Partial (all : List Token) : Control → Frame → List Open → List Token → Type 0 where
  at_statement : {scope : Scope} {done : Syntax} {around : List Open} {here : List Token} → Reached all (statement_at (among scope)) done [] around here
      → Partial all (statement_due false (among scope)) (frame done [] [] nil) around here
  at_clause_statement : {done : Syntax} {around : List Open} {here : List Token} → Reached all (statement_at in_clause) done [] around here
      → Partial all (statement_due false in_clause) (frame done [] [] nil) around here
  at_inner_statement : {setting : Setting} {done : Syntax} {starts : List Pending} {around : List Open} {here : List Token}
      → Reached all (statement_at setting) done starts around here → Partial all (statement_due true setting) (frame done starts [] nil) around here
  behind_name : {setting : Setting} {done : Syntax} {starts : List Pending} {around : List Open} {spot : Spot} {here : List Token}
      → Reached all (statement_at setting) done starts around (token name spot ∷ here)
      → Partial all (name_first setting) (frame done starts [] (node name spot.mark nil nil)) around here
  behind_return : {setting : Setting} {done : Syntax} {starts : List Pending} {around : List Open} {word : Spot} {here : List Token}
      → Reached all (statement_at setting) done starts around (token return_word word ∷ here)
      → Partial all (return_first setting) (frame done (pending full_return_syntax word.mark nil ∷ starts) [] nil) around here
  behind_throw : {setting : Setting} {done : Syntax} {starts : List Pending} {around : List Open} {word : Spot} {here : List Token}
      → Reached all (statement_at setting) done starts around (token throw_word word ∷ here)
      → Partial all (throw_first setting) (frame done (pending throw_word word.mark nil ∷ starts) [] nil) around here
  behind_jump : {setting : Setting} {class : ℕ} {done : Syntax} {starts : List Pending} {around : List Open} {word : Spot} {here : List Token}
      → JumpWord class (class - 1) → Reached all (statement_at setting) done starts around (token class word ∷ here)
      → Partial all (jump_first setting) (frame done (pending class word.mark nil ∷ starts) [] nil) around here
  behind_head : {setting : Setting} {class : ℕ} {done : Syntax} {starts : List Pending} {around : List Open} {word : Spot} {here : List Token}
      → HeadWord class → Reached all (statement_at setting) done starts around (token class word ∷ here)
      → Partial all (head_first setting) (frame done (pending class word.mark nil ∷ starts) [] nil) around here
  behind_for : {setting : Setting} {done : Syntax} {starts : List Pending} {around : List Open} {word : Spot} {here : List Token}
      → Reached all (statement_at setting) done starts around (token for_word word ∷ here)
      → Partial all (for_first setting) (frame done (pending for_word word.mark nil ∷ starts) [] nil) around here
  at_start : {around : List Open} {here : List Token} → Reached all head_at nil [] around here → Partial all start_due empty around here
  at_for_test : {start : Syntax} {around : List Open} {sign : Spot} {first here : List Token} → Reached all head_at nil [] around first
      → ForStart first (token semicolon sign ∷ here) start → Partial all test_due (frame (snoc nil start) [] [] nil) around here
  at_for_step : {start condition : Syntax} {around : List Open} {sign second : Spot} {first test here : List Token} → Reached all head_at nil [] around first
      → ForStart first (token semicolon sign ∷ test) start → Derives (optional_form true) test (token semicolon second ∷ here) condition
      → Partial all step_due (frame (snoc (snoc nil start) condition) [] [] nil) around here
  behind_switch : {setting : Setting} {done : Syntax} {starts : List Pending} {around : List Open} {word : Spot} {here : List Token}
      → Reached all (statement_at setting) done starts around (token switch_word word ∷ here)
      → Partial all (switch_first setting) (frame done (pending switch_word word.mark nil ∷ starts) [] nil) around here
  behind_subject : {setting : Setting} {done subject : Syntax} {starts : List Pending} {around : List Open} {word opener closer : Spot}
      {inside here : List Token} → Reached all (statement_at setting) done starts around (token switch_word word ∷ token open_paren opener ∷ inside)
      → Expression inside (token close_paren closer ∷ here) subject
      → Partial all (switch_past setting) (frame done (pending switch_word word.mark subject ∷ starts) [] nil) around here
  at_clause : {seen : Bool} {cases : Syntax} {around : List Open} {here : List Token} → Reached all (clause_at seen) cases [] around here
      → Partial all (clause_due seen) (frame cases [] [] nil) around here
  behind_default : {cases : Syntax} {around : List Open} {word : Spot} {here : List Token}
      → Reached all (clause_at false) cases [] around (token default_word word ∷ here)
      → Partial all default_first (frame cases (pending default_word word.mark nil ∷ []) [] nil) around here
  behind_try : {done : Syntax} {starts : List Pending} {around : List Open} {here : List Token} → Reached all (block_at try_done) done starts around here
      → Partial all try_first (frame done starts [] nil) around here
  behind_tried : {setting : Setting} {done inner : Syntax} {starts : List Pending} {around : List Open} {word : Spot} {before here : List Token}
      → Reached all (statement_at setting) done starts around (token try_word word ∷ before) → Derives block_form before here inner
      → Partial all try_done (frame (snoc nil inner) [] [] nil) (nested (behind_statement setting) to_try word.mark (frame done starts [] nil) ∷ around) here
  behind_catch : {setting : Setting} {done inner : Syntax} {starts : List Pending} {around : List Open} {word other : Spot} {before here : List Token}
      → Reached all (statement_at setting) done starts around (token try_word word ∷ before) → Derives block_form before (token catch_word other ∷ here) inner
      → Partial all catch_first (frame (snoc nil inner) (pending catch_word other.mark nil ∷ []) [] nil)
      (nested (behind_statement setting) to_try word.mark (frame done starts [] nil) ∷ around) here
  at_catch_name : {setting : Setting} {done inner : Syntax} {starts : List Pending} {around : List Open} {word other opener : Spot} {before here : List Token}
      → Reached all (statement_at setting) done starts around (token try_word word ∷ before)
      → Derives block_form before (token catch_word other ∷ token open_paren opener ∷ here) inner
      → Partial all catch_due empty
      (grouped catch_past to_parameter opener.mark (frame (snoc nil inner) (pending catch_word other.mark nil ∷ []) [] nil)
      ∷ nested (behind_statement setting) to_try word.mark (frame done starts [] nil) ∷ around)
      here
  behind_catch_name : {setting : Setting} {done inner : Syntax} {starts : List Pending} {around : List Open} {word other opener called : Spot}
      {before here : List Token} → Reached all (statement_at setting) done starts around (token try_word word ∷ before)
      → Derives block_form before (token catch_word other ∷ token open_paren opener ∷ token name called ∷ here) inner
      → Partial all catch_named empty
      (grouped catch_past to_parameter opener.mark (frame (snoc nil inner) (pending catch_word other.mark nil ∷ []) [] nil)
      ∷ nested (behind_statement setting) to_try word.mark (frame done starts [] nil) ∷ around)
      here
  behind_catch_head : {done : Syntax} {starts : List Pending} {around : List Open} {here : List Token} → Reached all (block_at catch_done) done starts around here
      → Partial all catch_past (frame done starts [] nil) around here
  behind_caught : {setting : Setting} {done inner handler : Syntax} {starts : List Pending} {around : List Open} {word : Spot}
      {before middle here : List Token} → Reached all (statement_at setting) done starts around (token try_word word ∷ before)
      → Derives block_form before middle inner → Derives catch_form middle here handler
      → Partial all catch_done (frame (snoc (snoc nil inner) handler) [] [] nil)
      (nested (behind_statement setting) to_try word.mark (frame done starts [] nil) ∷ around) here
  behind_finally : {done : Syntax} {starts : List Pending} {around : List Open} {here : List Token} → Reached all (block_at try_ended) done starts around here
      → Partial all finally_first (frame done starts [] nil) around here
  behind_try_all : {setting : Setting} {mark : ℕ} {done parts : Syntax} {starts : List Pending} {around : List Open} {before here : List Token}
      → Reached all (statement_at setting) done starts around before → Statement before here (node try_word mark parts nil)
      → Partial all try_ended (frame parts [] [] nil) (nested (behind_statement setting) to_try mark (frame done starts [] nil) ∷ around) here
  at_variable : {place : Variables} {done : Syntax} {starts : List Pending} {around : List Open} {here : List Token}
      → Reached all (variable_at place) done starts around here → Partial all (variable_due place) (frame done starts [] nil) around here
  behind_variable : {place : Variables} {done : Syntax} {starts : List Pending} {around : List Open} {called : Spot} {here : List Token}
      → Reached all (variable_at place) done starts around (token name called ∷ here)
      → Partial all (variable_named place) (frame done (pending variable_syntax called.mark nil ∷ starts) [] nil) around here
  behind_body : {setting : Setting} {done inner : Syntax} {starts : List Pending} {around : List Open} {word : Spot} {first here : List Token}
      → Reached all (statement_at setting) done starts around (token do_word word ∷ first) → Statement first here inner
      → Partial all (body_done setting) (frame done (pending do_word word.mark inner ∷ starts) [] nil) around here
  at_test : {setting : Setting} {done inner : Syntax} {starts : List Pending} {around : List Open} {word other : Spot} {first here : List Token}
      → Reached all (statement_at setting) done starts around (token do_word word ∷ first) → Statement first (token while_word other ∷ here) inner
      → Partial all (test_first setting) (frame done (pending do_word word.mark inner ∷ starts) [] nil) around here
  at_semicolon : {setting : Setting} {kind mark : ℕ} {done left right : Syntax} {starts : List Pending} {around : List Open} {before here : List Token}
      → Reached all (statement_at setting) done starts around before → Unended before here kind mark left right
      → Partial all (semicolon_due setting) (frame done (pending kind mark left ∷ starts) [] right) around here
  behind_if : {setting : Setting} {done : Syntax} {starts : List Pending} {around : List Open} {word : Spot} {here : List Token}
      → Reached all (statement_at setting) done starts around (token if_word word ∷ here)
      → Partial all if_first (frame nil [] [] (held_word word.mark))
      (nested (behind_statement setting) to_statement word.mark (frame done starts [] nil) ∷ around) here
  behind_then : {setting : Setting} {done condition inner : Syntax} {starts : List Pending} {around : List Open} {word opener closer : Spot}
      {inside middle here : List Token} → Reached all (statement_at setting) done starts around (token if_word word ∷ token open_paren opener ∷ inside)
      → Expression inside (token close_paren closer ∷ middle) condition → Statement middle here inner
      → Partial all (statement_done if_nest) (frame (snoc nil (node if_syntax word.mark condition inner)) [] [] nil)
      (nested (behind_statement setting) to_statement word.mark (frame done starts [] nil) ∷ around) here
  behind_else : {setting : Setting} {mark : ℕ} {done whole : Syntax} {starts : List Pending} {around : List Open} {before here : List Token}
      → Reached all (statement_at setting) done starts around before → Statement before here whole
      → Partial all (statement_done else_nest) (frame (snoc nil whole) [] [] nil)
      (nested (behind_statement setting) to_statement mark (frame done starts [] nil) ∷ around) here
  behind_do : {setting : Setting} {done inner : Syntax} {starts : List Pending} {around : List Open} {word : Spot} {first here : List Token}
      → Reached all (statement_at setting) done starts around (token do_word word ∷ first) → Statement first here inner
      → Partial all (statement_done do_nest) (frame (snoc nil inner) [] [] nil)
      (nested (body_done setting) to_body word.mark (frame done starts [] nil) ∷ around) here
  at_operand : {ending : Ending} {target : Target} {level : ℕ} {done operand : Syntax} {starts waiting : List Pending} {around : List Open}
      {first here : List Token} → Reached all (expression_at ending) done starts around first → Waiting ending target level waiting first here
      → level ≤ prefix_precedence → Partial all (operand_due ending target) (frame done starts waiting operand) around here
  at_member : {ending : Ending} {target : Target} {level : ℕ} {done operand : Syntax} {starts waiting : List Pending} {around : List Open}
      {first here : List Token} → Reached all (expression_at ending) done starts around first → Waiting ending target level waiting first here
      → Partial all (member_due ending target) (frame done starts waiting operand) around here
  behind_operand : {ending : Ending} {target : Target} {level : ℕ} {done operand : Syntax} {starts waiting : List Pending} {around : List Open}
      {first before here : List Token} → Reached all (expression_at ending) done starts around first → Waiting ending target level waiting first before
      → Chain (may_call waiting) before here operand → Partial all (operand_done ending target) (frame done starts waiting operand) around here
  behind_postfix : {ending : Ending} {target : Target} {level : ℕ} {done operand : Syntax} {starts waiting : List Pending} {around : List Open}
      {first before here : List Token} → Reached all (expression_at ending) done starts around first → Waiting ending target level waiting first before
      → level ≤ prefix_precedence → Unary before here operand → Partial all (postfix_done ending) (frame done starts waiting operand) around here
  behind_dot : {ending : Ending} {target : Target} {level : ℕ} {done operand : Syntax} {starts waiting : List Pending} {around : List Open} {sign : Spot}
      {first before here : List Token} → Reached all (expression_at ending) done starts around first → Waiting ending target level waiting first before
      → Chain (may_call waiting) before (token dot sign ∷ here) operand → Partial all (dot_last ending target) (frame done starts waiting operand) around here
  behind-function : {role : Role} {done : Syntax} {starts waiting : List Pending} {around : List Open} {word : Spot} {here : List Token}
      → FunctionAt all role done starts waiting around (token function_word word ∷ here)
      → Partial all (function_first role) (frame done starts waiting (held_word word.mark)) around here
  behind_function_name : {role : Role} {done : Syntax} {starts waiting : List Pending} {around : List Open} {word : Spot} {before here : List Token}
      → FunctionAt all role done starts waiting around before → Head role word before here
      → Partial all (function_named role) (frame done starts waiting (held_word word.mark)) around here
  at_parameters : {role : Role} {done : Syntax} {starts waiting : List Pending} {around : List Open} {word opener : Spot} {before here : List Token}
      → FunctionAt all role done starts waiting around before → Head role word before (token open_paren opener ∷ here)
      → Partial all (parameter_due false) empty
      (grouped (parameter_past role) to_parameter opener.mark (frame done starts waiting (held_word word.mark)) ∷ around) here
  behind_parameter : {role : Role} {done : Syntax} {starts waiting : List Pending} {around : List Open} {word opener : Spot}
      {before named here : List Token} → FunctionAt all role done starts waiting around before → Head role word before (token open_paren opener ∷ named)
      → Names named here
      → Partial all parameter_named empty
      (grouped (parameter_past role) to_parameter opener.mark (frame done starts waiting (held_word word.mark)) ∷ around) here
  at_parameter : {role : Role} {done : Syntax} {starts waiting : List Pending} {around : List Open} {word opener sign : Spot}
      {before named here : List Token} → FunctionAt all role done starts waiting around before → Head role word before (token open_paren opener ∷ named)
      → Names named (token comma sign ∷ here)
      → Partial all (parameter_due true) empty
      (grouped (parameter_past role) to_parameter opener.mark (frame done starts waiting (held_word word.mark)) ∷ around) here
  at_function_body : {role : Role} {done : Syntax} {starts waiting : List Pending} {around : List Open} {word opener closer : Spot}
      {before named here : List Token} → FunctionAt all role done starts waiting around before → Head role word before (token open_paren opener ∷ named)
      → Parameters named (token close_paren closer ∷ here)
      → Partial all (parameter_past role) (frame done starts waiting (held_word word.mark)) around here
  at_item : {items : Items} {done : Syntax} {around : List Open} {first here : List Token} → Reached all (list_at items) nil [] around first
      → Derives (items_form items) first here done → Derives (list_form items) first here done
      → Partial all (item_due items) (frame done [] [] nil) around here
  behind_property : {class : ℕ} {called : Spot} {done : Syntax} {around : List Open} {first here : List Token}
      → Reached all (list_at object_properties) nil [] around first → Derives (items_form object_properties) first (token class called ∷ here) done
      → IdentifierName class → Partial all property_named (frame done [] [] nil) around here
  behind_end : {done : Syntax} {end : Spot} {here : List Token} → Statements body all (token end_of_text end ∷ here) done
      → Partial all finished (frame done [] [] nil) [] here

-- a state that is dead has none, and needs none
abbrev pub PartialOf : List Token → State → List Token → Type 0
PartialOf all (dead place) here = Unit {0}
PartialOf all (live control f around) here = Partial all control f around here

function_chain : {ending : Ending} {target : Target} {calls : Bool} {word : Spot} {before rest after : List Token} {inside : Syntax}
    → Head (operand_in ending target) word before rest → Function rest after inside → Chain calls before after (node function_syntax word.mark inside nil)
function_chain with_name function = chain_function function
function_chain without_name function = chain_unnamed function

-- a `for` with its head and its statement, and a `try` with its last part
for_whole : {kind : ℕ} {word opener : Spot} {inside middle after : List Token} {head inner : Syntax} → ForHead inside middle kind head
    → Statement middle after inner → Statement (token for_word word ∷ token open_paren opener ∷ inside) after (node kind word.mark head inner)
for_whole (three_parts (start_expression start) condition step) inner = statement_for start condition step inner
for_whole (three_parts (start_variables variables last) condition step) inner = statement_for_var variables last condition step inner
for_whole (both_sides (for_target target) object) inner = statement_for_in target object inner
for_whole (both_sides (for_variable variable) object) inner = statement_for_var_in variable object inner

try_whole : {word : Spot} {before middle after : List Token} {parts last : Syntax} → Tried before middle parts → Derives finally_form middle after last
    → Statement (token try_word word ∷ before) after (node try_word word.mark (snoc parts last) nil)
try_whole (tried_block inner) last = statement_try_finally inner last
try_whole (tried_catch inner handler) last = statement_try_all inner handler last

-- the group around the head of a `for` of a kind, as it closes
abbrev of_head : ℕ → List Open → List Open
of_head kind around = cond (eqb kind for_in_syntax) (head_in around) around

module _ {all : List Token} where
  -- an expression starts
  pub at_expression : {ending : Ending} {done operand : Syntax} {starts : List Pending} {around : List Open} {here : List Token}
      → Reached all (expression_at ending) done starts around here → Partial all (operand_due ending some_target) (frame done starts [] operand) around here
  at_expression {ending} outer = at_operand outer (none_waits tt) (under (whole_level ending) (whole-level ending))
    where
      under : (level : ℕ) → level ≤ assignment_precedence → level ≤ prefix_precedence
      under level h = omega arith

  -- a statement is complete
  pub with_statement : {setting : Setting} {done last : Syntax} {starts : List Pending} {around : List Open} {before here : List Token}
      → Reached all (statement_at setting) done starts around before → Statement before here last
      → Partial all (behind_statement setting) (complete_statement done starts last) around here
  with_statement (in_program statements) last = at_statement (in_program (add_statement statements last))
  with_statement (in_block outer statements) last = at_statement (in_block outer (add_statement statements last))
  with_statement (in_declaration outer parameters statements) last = at_statement (in_declaration outer parameters (add_statement statements last))
  with_statement (in_function outer waits head parameters statements) last =
      at_statement (in_function outer waits head parameters (add_statement statements last))
  with_statement (after_if outer condition) last = behind_then outer condition last
  with_statement (after_else outer condition first) last = behind_else outer (statement_else condition first last)
  with_statement (after_do outer) last = behind_do outer last
  with_statement (after_head head outer value) last = with_statement outer (statement_head head value last)
  with_statement (after_for outer head) last = with_statement outer (for_whole head last)
  with_statement (after_label outer) last = with_statement outer (statement_label last)
  with_statement (after_case outer test statements) last = at_clause_statement (after_case outer test (add_statement statements last))
  with_statement (after_default outer statements) last = at_clause_statement (after_default outer (add_statement statements last))

  -- a block is complete
  with_block : {behind : Control} {done inner : Syntax} {starts : List Pending} {around : List Open} {before here : List Token}
      → Reached all (block_at behind) done starts around before → Derives block_form before here inner
      → Partial all behind (complete_statement done starts inner) around here
  with_block (block_statement outer) inner = with_statement outer (statement_block inner)
  with_block (block_of_try outer) inner = behind_tried outer inner
  with_block (block_of_catch outer tried) inner = behind_caught outer tried (catch_all inner)
  with_block (block_of_finally outer tried) inner = behind_try_all outer (try_whole tried (finally_all inner))

  -- a group closes
  pub statements_close : {scope : Scope} {done : Syntax} {around : List Open} {closer : Spot} {here : List Token}
      → Reached all (statement_at (among scope)) done [] around (token close_brace closer ∷ here) → (place : ℕ) → PartialOf all (pop_to place done around) here
  statements_close (in_program _) place = tt
  statements_close (in_block outer statements) place = with_block outer (block_all statements)
  statements_close (in_declaration outer parameters statements) place = at_statement (with_declaration outer (function_all parameters statements))
  statements_close (in_function outer waits head parameters statements) place =
      behind_operand outer waits (function_chain head (function_all parameters statements))

  pub parens_close : {done value : Syntax} {starts : List Pending} {around : List Open} {closer : Spot} {first here : List Token}
      → Reached all (expression_at by_paren) done starts around first → Expression first (token close_paren closer ∷ here) value
      → (place : ℕ) → PartialOf all (pop_to place value around) here
  parens_close (in_parens outer waits) value place = behind_operand outer waits (chain_parens value)
  parens_close (in_condition outer) value place = at_inner_statement (after_if outer value)
  parens_close (in-head head outer) value place = at_inner_statement (after_head head outer value)
  parens_close (in_subject outer) value place = behind_subject outer value
  parens_close (in_test outer inner) value place = at_semicolon outer (do_unended inner value)

  pub index_closes : {done value : Syntax} {starts : List Pending} {around : List Open} {closer : Spot} {first here : List Token}
      → Reached all (expression_at by_bracket) done starts around first → Expression first (token close_bracket closer ∷ here) value
      → (place : ℕ) → PartialOf all (pop_to place value around) here
  index_closes (in_index outer waits object) value place = behind_operand outer waits (chain_index object value)

  -- arguments make a call, or are those of the `new` that waits
  arguments_close : {ending : Ending} {target : Target} {level : ℕ} {done callee values : Syntax} {starts waiting : List Pending} {around : List Open}
      {opener closer : Spot} {first before inside here : List Token} → Reached all (expression_at ending) done starts around first
      → Waiting ending target level waiting first before → Chain (may_call waiting) before (token open_paren opener ∷ inside) callee
      → Derives (list_form call_arguments) inside (token close_paren closer ∷ here) values
      → Partial all (operand_done ending target) (called opener.mark values done starts waiting callee) around here
  arguments_close outer (none_waits may) callee values = behind_operand outer (none_waits may) (chain_call callee values)
  arguments_close {callee = part} {values = list} {opener = opener} {here = here} outer (operator_waits w fits begun) callee values =
      let other = begun_calls begun in
      rw other
      (behind_operand {operand = node call_syntax opener.mark part list} {here = here} outer (operator_waits w fits begun)
      (rw other (chain_call (rw other at callee) values)))
  arguments_close outer (new_waits w) callee values = behind_operand outer w (chain_new callee values)

  pub list_closes : {items : Items} {value : Syntax} {around : List Open} {closer : Spot} {first here : List Token}
      → Reached all (list_at items) nil [] around first → Derives (list_form items) first (token (list_closer items) closer ∷ here) value
      → (place : ℕ) → PartialOf all (pop_to place value around) here
  list_closes (in_call outer waits callee) values place = arguments_close outer waits callee values
  list_closes (in_array outer waits) values place = behind_operand outer waits (chain_array values)
  list_closes (in_object outer waits) values place = behind_operand outer waits (chain_object values)

  -- an item ends: a `,` stands behind it, or the closer
  pub item_ends : {items : Items} {done value : Syntax} {starts : List Pending} {around : List Open} {sign : Spot} {first here : List Token}
      → Reached all (expression_at (by_item items)) done starts around first → Assign first (token comma sign ∷ here) value
      → Partial all (behind_comma items) (complete_statement done starts value) around here
  item_ends (in_item {items = call_arguments} outer values begins) value = at_expression (in_item outer (add_item values begins value) at_argument)
  item_ends (in_item {items = array_elements} outer values begins) value =
      at_item outer (add_item values begins value) (list_items tt (add_item values begins value))
  item_ends (in_item {items = object_properties} outer values begins) value =
      at_item outer (add_item values begins value) (list_items tt (add_item values begins value))

  pub last_item_ends : {items : Items} {done value : Syntax} {starts : List Pending} {around : List Open} {closer : Spot} {first here : List Token}
      → Reached all (expression_at (by_item items)) done starts around first → Assign first (token (list_closer items) closer ∷ here) value
      → (place : ℕ) → PartialOf all (pop_to place (done_of (complete_statement done starts value)) around) here
  last_item_ends (in_item outer values begins) value place = list_closes outer (list_last values begins value) place

  -- the first value of a conditional ends
  pub first_ends : {done value : Syntax} {starts : List Pending} {around : List Open} {answer : Spot} {first here : List Token}
      → Reached all (expression_at by_colon) done starts around first → Assign first (token colon answer ∷ here) value
      → (place : ℕ) → PartialOf all (turn_to place value around) here
  first_ends (in_conditional outer waits fits condition) value place = at_operand outer (operator_waits waits fits (conditional_begun condition value)) (omega arith)

  -- an expression ends with its statement
  pub expression-ends : {setting : Setting} {done value : Syntax} {starts : List Pending} {around : List Open} {end : Spot} {first here : List Token}
      → Reached all (expression_at (by_statement setting)) done starts around first → Expression first (token semicolon end ∷ here) value
      → Partial all (behind_statement setting) (complete_statement done starts (node expression_syntax end.mark value nil)) around here
  expression-ends (in_expression allowed outer) value = with_statement outer (statement_expression allowed value)

  pub return_ends : {setting : Setting} {done value : Syntax} {starts : List Pending} {around : List Open} {end : Spot} {first here : List Token}
      → Reached all (expression_at (by_return setting)) done starts around first → Expression first (token semicolon end ∷ here) value
      → Partial all (behind_statement setting) (complete_statement done starts value) around here
  return_ends (in_return same outer) value = with_statement outer (statement_full_return same value)
  return_ends (in_throw same outer) value = with_statement outer (statement_throw same value)

  -- a variable has its initialiser
  pub initialised : {place : Variables} {done value : Syntax} {starts : List Pending} {around : List Open} {first here : List Token}
      → Reached all (expression_at (by_variable place)) done starts around first → Derives (assign_form (allows_in (by_variable place))) first here value
      → VariableAt all place done starts around here value
  initialised (in_variable outer) value = variable-at outer (variable_initialised value)

  -- a variable ends: a `,` stands behind it, the `;` of its statement or its head, or the `in` of a `for`
  pub variable_ends : {place : Variables} {done value : Syntax} {starts : List Pending} {around : List Open} {sign : Spot} {here : List Token}
      → VariableAt all place done starts around (token comma sign ∷ here) value
      → Partial all (variable_due (later_variables place)) (frame done (joined starts value) [] nil) around here
  variable_ends (variable-at (in_var outer variables) last) = at_variable (in_var outer (add_variable variables last))
  variable_ends (variable-at (in_for_var outer) last) = at_variable (in_for_vars outer (add_variable no_variables last))
  variable_ends (variable-at (in_for_vars outer variables) last) = at_variable (in_for_vars outer (add_variable variables last))

  pub last_variable_ends : {place : Variables} {done value : Syntax} {starts : List Pending} {around : List Open} {end : Spot} {here : List Token}
      → VariableAt all place done starts around (token semicolon end ∷ here) value
      → Partial all (behind_variables place) (complete_statement done starts value) around here
  last_variable_ends (variable-at (in_var outer variables) last) = with_statement outer (statement_var variables last)
  last_variable_ends (variable-at (in_for_var outer) last) = at_for_test outer (start_variables no_variables last)
  last_variable_ends (variable-at (in_for_vars outer variables) last) = at_for_test outer (start_variables variables last)

  pub only_variable_ends : {place : Variables} {done value : Syntax} {starts : List Pending} {around : List Open} {sign : Spot} {here : List Token}
      → T (is_first place) → VariableAt all place done starts around (token in_word sign ∷ here) value
      → Partial all (operand_due by_object some_target) (complete_statement done starts value) around here
  only_variable_ends first (variable-at (in_var outer _) last) = absurd first
  only_variable_ends first (variable-at (in_for_var outer) last) = at_expression (in_for_object outer (for_variable last))
  only_variable_ends first (variable-at (in_for_vars outer _) last) = absurd first

  -- the parts of the head of a `for` end
  pub head_closes : {kind : ℕ} {head : Syntax} {around : List Open} {first here : List Token} → Reached all head_at nil [] around first
      → ForHead first here kind head → (place : ℕ) → PartialOf all (pop_to place head (of_head kind around)) here
  head_closes (in-for outer) (three_parts start condition step) place = at_inner_statement (after_for outer (three_parts start condition step))
  head_closes (in-for outer) (both_sides target object) place = at_inner_statement (after_for outer (both_sides target object))

  pub start_ends : {done value : Syntax} {starts : List Pending} {around : List Open} {end : Spot} {first here : List Token}
      → Reached all (expression_at by_start) done starts around first → Derives (expression_form false) first (token semicolon end ∷ here) value
      → Partial all test_due (complete_statement done starts value) around here
  start_ends (in_start outer) value = at_for_test outer (start_expression (not_left_out value))

  pub target_ends : {done value : Syntax} {starts : List Pending} {around : List Open} {sign : Spot} {first here : List Token}
      → Reached all (expression_at by_start) done starts around first → Derives (target_form true) first (token in_word sign ∷ here) value
      → Partial all (operand_due by_object some_target) (complete_statement done starts value) around here
  target_ends (in_start outer) value = at_expression (in_for_object outer (for_target value))

  pub test_ends : {done value : Syntax} {starts : List Pending} {around : List Open} {end : Spot} {first here : List Token}
      → Reached all (expression_at by_test) done starts around first → Expression first (token semicolon end ∷ here) value
      → Partial all step_due (complete_statement done starts value) around here
  test_ends (in_for_test outer start) value = at_for_step outer start (not_left_out value)

  pub step_ends : {done value : Syntax} {starts : List Pending} {around : List Open} {closer : Spot} {first here : List Token}
      → Reached all (expression_at by_step) done starts around first → Expression first (token close_paren closer ∷ here) value
      → (place : ℕ) → PartialOf all (pop_to place (done_of (complete_statement done starts value)) around) here
  step_ends (in_for_step outer start condition) value place = head_closes outer (three_parts start condition (not_left_out value)) place

  pub object_ends : {done value : Syntax} {starts : List Pending} {around : List Open} {closer : Spot} {first here : List Token}
      → Reached all (expression_at by_object) done starts around first → Expression first (token close_paren closer ∷ here) value
      → (place : ℕ) → PartialOf all (pop_to place (done_of (complete_statement done starts value)) (head_in around)) here
  object_ends (in_for_object outer target) value place = head_closes outer (both_sides target value) place

  -- the head of a clause ends, and a clause, and the last of them
  pub case_ends : {seen : Bool} {done value : Syntax} {starts : List Pending} {around : List Open} {sign : Spot} {first here : List Token}
      → Reached all (expression_at (by_case seen)) done starts around first → Expression first (token colon sign ∷ here) value
      → Partial all (statement_due false in_clause) empty
      (nested (clause_due seen) to_statement sign.mark (frame done (headed value starts) [] nil) ∷ around) here
  case_ends (in_case outer) value = at_clause_statement (after_case outer value no_statements)

  pub clauses_close : {seen : Bool} {cases : Syntax} {around : List Open} {closer : Spot} {here : List Token}
      → Reached all (clause_at seen) cases [] around (token close_brace closer ∷ here) → (place : ℕ) → PartialOf all (pop_to place cases around) here
  clauses_close (in_switch outer subject clauses) place = with_statement outer (statement_switch subject clauses)

  -- the text ends
  pub text_ends : {done : Syntax} {around : List Open} {end : Spot} {here : List Token}
      → Reached all (statement_at (among body)) done [] around (token end_of_text end ∷ here) → (place : ℕ) → PartialOf all (finish_in place (frame done [] [] nil) around) here
  text_ends (in_program statements) place = behind_end statements
  text_ends (in_declaration outer _ _) place = tt
  text_ends (in_function outer waits head _ _) place = tt
