-- The places that tokens lead to: where a statement may start or an expression starts, inside what is not yet complete.
use mathlib.Core.Bool.{Bool, true, false}
use mathlib.Core.List.{List, [], ◌∷◌}
use Prim.Native.Nat.{ℕ, ◌≤◌}
use lib.Dec.{T}
use Rattle.machine.specs.Tokens.{
  Token,
  token,
  Spot,
  name,
  assign,
  question,
  var_word,
  else_word,
  do_word,
  while_word,
  for_word,
  in_word,
  switch_word,
  case_word,
  default_word,
  throw_word,
  try_word,
  catch_word,
  finally_word,
  colon,
  semicolon,
  open_paren,
  close_paren,
  open_bracket,
  open_brace,
  return_word,
  function_word,
  if_word,
}
use Rattle.machine.specs.Operators.{assignment_precedence}
use Rattle.machine.specs.Syntax.{Syntax, nil, node, snoc, full_return_syntax, label_syntax, if_syntax, declaration_syntax, variable_syntax, for_in_syntax}
use Rattle.grammar.specs.Grammar.{
  least_binary,
  starts_expression,
  on_same_line,
  HeadWord,
  body,
  block,
  Items,
  call_arguments,
  array_elements,
  object_properties,
  ItemStart,
  Parameters,
  block_form,
  catch_form,
  clauses_form,
  variables_form,
  variable_form,
  optional_form,
  binary_form,
  target_form,
  items_form,
  Derives,
  Chain,
  Expression,
  Function,
  Statement,
  Statements,
  add_declaration,
}
use Rattle.machine.specs.Machinery.Machine.{
  Pending,
  pending,
  frame,
  held_word,
  to_parens,
  to_call,
  to_object,
  to_array,
  to_index,
  to_block,
  to_condition,
  to_head,
  to_for,
  to_test,
  to_declaration,
  to_function,
  to_statement,
  to_body,
  to_try,
  if_nest,
  else_nest,
  do_nest,
  Setting,
  among,
  in_clause,
  in_nest,
  Variables,
  in_statement,
  in_head,
  Target,
  Ending,
  by_statement,
  by_return,
  by_variable,
  by_start,
  by_test,
  by_step,
  by_object,
  by_case,
  by_paren,
  by_bracket,
  by_colon,
  by_item,
  allows_in,
  Role,
  operand_in,
  Control,
  statement_due,
  behind_statement,
  body_done,
  semicolon_due,
  switch_past,
  clause_due,
  try_done,
  catch_done,
  try_ended,
  operand_done,
  Open,
  grouped,
  nested,
  asking,
}
use Rattle.grammar.proofs.Waiting.{Waiting, may_call}

-- a place where a statement may start, in its setting, a block must come, with the control behind it, a clause of a `switch` may start, the head of a `for`
-- starts behind its `(`, a variable must come, an expression starts, with its ending, or a list starts
pub data Place : Type 0 where
  statement_at : Setting → Place
  block_at : Control → Place
  clause_at : Bool → Place
  head_at : Place
  variable_at : Variables → Place
  expression_at : Ending → Place
  list_at : Items → Place

-- in the head of a `for`: what stands before its first `;`, or before its `in`
pub data ForStart : List Token → List Token → Syntax → Type 0 where
  start_expression : {before after : List Token} {start : Syntax} → Derives (optional_form false) before after start → ForStart before after start
  start_variables : {word : Spot} {before middle after : List Token} {variables last : Syntax} → Derives (variables_form false) before middle variables
      → Derives (variable_form false) middle after last
      → ForStart (token var_word word ∷ before) after (node var_word word.mark variables last)

pub data ForTarget : List Token → List Token → Syntax → Type 0 where
  for_target : {before after : List Token} {target : Syntax} → Derives (target_form true) before after target → ForTarget before after target
  for_variable : {word : Spot} {before after : List Token} {variable : Syntax} → Derives (variable_form false) before after variable
      → ForTarget (token var_word word ∷ before) after (node var_word word.mark nil variable)

-- a whole head, with its `)`: the kind of the `for`, and what the head holds
pub data ForHead : List Token → List Token → ℕ → Syntax → Type 0 where
  three_parts : {first second closer : Spot} {inside test update here : List Token} {start condition step : Syntax}
      → ForStart inside (token semicolon first ∷ test) start → Derives (optional_form true) test (token semicolon second ∷ update) condition
      → Derives (optional_form true) update (token close_paren closer ∷ here) step
      → ForHead inside here for_word (snoc (snoc (snoc nil start) condition) step)
  both_sides : {sign closer : Spot} {inside rest here : List Token} {target object : Syntax} → ForTarget inside (token in_word sign ∷ rest) target
      → Expression rest (token close_paren closer ∷ here) object → ForHead inside here for_in_syntax (snoc (snoc nil target) object)

-- what a `try` has before its `finally`
pub data Tried : List Token → List Token → Syntax → Type 0 where
  tried_block : {before after : List Token} {inner : Syntax} → Derives block_form before after inner → Tried before after (snoc nil inner)
  tried_catch : {before middle after : List Token} {inner handler : Syntax} → Derives block_form before middle inner → Derives catch_form middle after handler
      → Tried before after (snoc (snoc nil inner) handler)

-- the word of a function, and its name if it has one: in an expression it needs none
pub data Head : Role → Spot → List Token → List Token → Type 0 where
  with_name : {role : Role} {word called : Spot} {here : List Token} → Head role word (token function_word word ∷ token name called ∷ here) here
  without_name : {ending : Ending} {target : Target} {word : Spot} {here : List Token} → Head (operand_in ending target) word (token function_word word ∷ here) here

-- The tokens of `all` lead to a place: with the statements or items done on its level, the beginnings of statements, the groups,
-- nests and `?` around it, and the tokens from there on.
pub data Reached (all : List Token) : Place → Syntax → List Pending → List Open → List Token → Type 0 where
  in_program : {done : Syntax} {here : List Token} → Statements body all here done → Reached all (statement_at (among body)) done [] [] here
  in_block : {behind : Control} {outer done : Syntax} {starts : List Pending} {around : List Open} {opener : Spot} {inside here : List Token}
      → Reached all (block_at behind) outer starts around (token open_brace opener ∷ inside) → Statements block inside here done
      → Reached all (statement_at (among block)) done [] (grouped behind to_block opener.mark (frame outer starts [] nil) ∷ around) here
  in_declaration : {outer done : Syntax} {around : List Open} {word called opener closer openBody : Spot} {named inside here : List Token}
      → Reached all (statement_at (among body)) outer [] around (token function_word word ∷ token name called ∷ token open_paren opener ∷ named)
      → Parameters named (token close_paren closer ∷ token open_brace openBody ∷ inside) → Statements body inside here done
      → Reached all (statement_at (among body)) done []
      (grouped (statement_due false (among body)) to_declaration openBody.mark (frame outer [] [] (held_word word.mark)) ∷ around) here
  in_function : {ending : Ending} {target : Target} {level : ℕ} {outer done : Syntax} {starts waiting : List Pending} {around : List Open}
      {word opener closer openBody : Spot} {first before named inside here : List Token} → Reached all (expression_at ending) outer starts around first
      → Waiting ending target level waiting first before → Head (operand_in ending target) word before (token open_paren opener ∷ named)
      → Parameters named (token close_paren closer ∷ token open_brace openBody ∷ inside) → Statements body inside here done
      → Reached all (statement_at (among body)) done []
      (grouped (operand_done ending target) to_function openBody.mark (frame outer starts waiting (held_word word.mark)) ∷ around) here
  after_if : {setting : Setting} {done condition : Syntax} {starts : List Pending} {around : List Open} {word opener closer : Spot}
      {inside here : List Token} → Reached all (statement_at setting) done starts around (token if_word word ∷ token open_paren opener ∷ inside)
      → Expression inside (token close_paren closer ∷ here) condition
      → Reached all (statement_at (in_nest if_nest)) nil (pending if_syntax word.mark condition ∷ [])
      (nested (behind_statement setting) to_statement word.mark (frame done starts [] nil) ∷ around) here
  after_else : {setting : Setting} {done condition first : Syntax} {starts : List Pending} {around : List Open} {word opener closer other : Spot}
      {inside middle here : List Token} → Reached all (statement_at setting) done starts around (token if_word word ∷ token open_paren opener ∷ inside)
      → Expression inside (token close_paren closer ∷ middle) condition → Statement middle (token else_word other ∷ here) first
      → Reached all (statement_at (in_nest else_nest)) nil (pending else_word other.mark (node if_syntax word.mark condition first) ∷ [])
      (nested (behind_statement setting) to_statement word.mark (frame done starts [] nil) ∷ around) here
  after_do : {setting : Setting} {done : Syntax} {starts : List Pending} {around : List Open} {word : Spot} {here : List Token}
      → Reached all (statement_at setting) done starts around (token do_word word ∷ here)
      → Reached all (statement_at (in_nest do_nest)) nil [] (nested (body_done setting) to_body word.mark (frame done starts [] nil) ∷ around) here
  after_head : {setting : Setting} {class : ℕ} {done head : Syntax} {starts : List Pending} {around : List Open} {word opener closer : Spot}
      {inside here : List Token} → HeadWord class
      → Reached all (statement_at setting) done starts around (token class word ∷ token open_paren opener ∷ inside)
      → Expression inside (token close_paren closer ∷ here) head
      → Reached all (statement_at setting) done (pending class word.mark head ∷ starts) around here
  after_for : {setting : Setting} {kind : ℕ} {done head : Syntax} {starts : List Pending} {around : List Open} {word opener : Spot}
      {inside here : List Token} → Reached all (statement_at setting) done starts around (token for_word word ∷ token open_paren opener ∷ inside)
      → ForHead inside here kind head → Reached all (statement_at setting) done (pending kind word.mark head ∷ starts) around here
  after_label : {setting : Setting} {done : Syntax} {starts : List Pending} {around : List Open} {label sign : Spot} {here : List Token}
      → Reached all (statement_at setting) done starts around (token name label ∷ token colon sign ∷ here)
      → Reached all (statement_at setting) done (pending label_syntax label.mark nil ∷ starts) around here
  after_case : {seen : Bool} {cases test done : Syntax} {around : List Open} {word sign : Spot} {value inside here : List Token}
      → Reached all (clause_at seen) cases [] around (token case_word word ∷ value) → Expression value (token colon sign ∷ inside) test
      → Statements block inside here done
      → Reached all (statement_at in_clause) done []
      (nested (clause_due seen) to_statement sign.mark (frame cases (pending case_word word.mark test ∷ []) [] nil) ∷ around) here
  after_default : {cases done : Syntax} {around : List Open} {word sign : Spot} {inside here : List Token}
      → Reached all (clause_at false) cases [] around (token default_word word ∷ token colon sign ∷ inside) → Statements block inside here done
      → Reached all (statement_at in_clause) done []
      (nested (clause_due true) to_statement sign.mark (frame cases (pending default_word word.mark nil ∷ []) [] nil) ∷ around) here
  block_statement : {setting : Setting} {done : Syntax} {starts : List Pending} {around : List Open} {here : List Token}
      → Reached all (statement_at setting) done starts around here → Reached all (block_at (behind_statement setting)) done starts around here
  block_of_try : {setting : Setting} {done : Syntax} {starts : List Pending} {around : List Open} {word : Spot} {here : List Token}
      → Reached all (statement_at setting) done starts around (token try_word word ∷ here)
      → Reached all (block_at try_done) nil [] (nested (behind_statement setting) to_try word.mark (frame done starts [] nil) ∷ around) here
  block_of_catch : {setting : Setting} {done inner : Syntax} {starts : List Pending} {around : List Open} {word other opener called closer : Spot}
      {before here : List Token} → Reached all (statement_at setting) done starts around (token try_word word ∷ before)
      → Derives block_form before (token catch_word other ∷ token open_paren opener ∷ token name called ∷ token close_paren closer ∷ here) inner
      → Reached all (block_at catch_done) (snoc nil inner) (pending catch_word other.mark nil ∷ [])
      (nested (behind_statement setting) to_try word.mark (frame done starts [] nil) ∷ around) here
  block_of_finally : {setting : Setting} {done parts : Syntax} {starts : List Pending} {around : List Open} {word other : Spot} {before here : List Token}
      → Reached all (statement_at setting) done starts around (token try_word word ∷ before) → Tried before (token finally_word other ∷ here) parts
      → Reached all (block_at try_ended) parts (pending finally_word other.mark nil ∷ [])
      (nested (behind_statement setting) to_try word.mark (frame done starts [] nil) ∷ around) here
  in_switch : {setting : Setting} {seen : Bool} {outer subject cases : Syntax} {starts : List Pending} {around : List Open}
      {word openHead closeHead opener : Spot} {inside clauses here : List Token}
      → Reached all (statement_at setting) outer starts around (token switch_word word ∷ token open_paren openHead ∷ inside)
      → Expression inside (token close_paren closeHead ∷ token open_brace opener ∷ clauses) subject → Derives (clauses_form seen) clauses here cases
      → Reached all (clause_at seen) cases []
      (grouped (behind_statement setting) to_statement opener.mark (frame outer (pending switch_word word.mark subject ∷ starts) [] nil) ∷ around) here
  in-for : {setting : Setting} {done : Syntax} {starts : List Pending} {around : List Open} {word opener : Spot} {here : List Token}
      → Reached all (statement_at setting) done starts around (token for_word word ∷ token open_paren opener ∷ here)
      → Reached all head_at nil []
      (grouped (statement_due true setting) to_for opener.mark (frame done (pending for_word word.mark nil ∷ starts) [] nil) ∷ around) here
  in_var : {setting : Setting} {done variables : Syntax} {starts : List Pending} {around : List Open} {word : Spot} {first here : List Token}
      → Reached all (statement_at setting) done starts around (token var_word word ∷ first) → Derives (variables_form true) first here variables
      → Reached all (variable_at (in_statement setting)) done (pending var_word word.mark variables ∷ starts) around here
  in_for_var : {around : List Open} {word : Spot} {here : List Token} → Reached all head_at nil [] around (token var_word word ∷ here)
      → Reached all (variable_at (in_head true)) nil (pending var_word word.mark nil ∷ []) around here
  in_for_vars : {variables : Syntax} {around : List Open} {word : Spot} {first here : List Token}
      → Reached all head_at nil [] around (token var_word word ∷ first) → Derives (variables_form false) first here variables
      → Reached all (variable_at (in_head false)) nil (pending var_word word.mark variables ∷ []) around here
  in_expression : {setting : Setting} {done : Syntax} {starts : List Pending} {around : List Open} {here : List Token}
      → T (starts_expression here) → Reached all (statement_at setting) done starts around here
      → Reached all (expression_at (by_statement setting)) done starts around here
  in_return : {setting : Setting} {done : Syntax} {starts : List Pending} {around : List Open} {word : Spot} {here : List Token}
      → T (on_same_line here) → Reached all (statement_at setting) done starts around (token return_word word ∷ here)
      → Reached all (expression_at (by_return setting)) done (pending full_return_syntax word.mark nil ∷ starts) around here
  in_throw : {setting : Setting} {done : Syntax} {starts : List Pending} {around : List Open} {word : Spot} {here : List Token}
      → T (on_same_line here) → Reached all (statement_at setting) done starts around (token throw_word word ∷ here)
      → Reached all (expression_at (by_return setting)) done (pending throw_word word.mark nil ∷ starts) around here
  in_variable : {place : Variables} {done : Syntax} {starts : List Pending} {around : List Open} {called sign : Spot} {here : List Token}
      → Reached all (variable_at place) done starts around (token name called ∷ token assign sign ∷ here)
      → Reached all (expression_at (by_variable place)) done (pending variable_syntax called.mark nil ∷ starts) around here
  in_start : {around : List Open} {here : List Token} → Reached all head_at nil [] around here → Reached all (expression_at by_start) nil [] around here
  in_for_test : {start : Syntax} {around : List Open} {sign : Spot} {first here : List Token} → Reached all head_at nil [] around first
      → ForStart first (token semicolon sign ∷ here) start → Reached all (expression_at by_test) (snoc nil start) [] around here
  in_for_step : {start condition : Syntax} {around : List Open} {sign second : Spot} {first test here : List Token} → Reached all head_at nil [] around first
      → ForStart first (token semicolon sign ∷ test) start → Derives (optional_form true) test (token semicolon second ∷ here) condition
      → Reached all (expression_at by_step) (snoc (snoc nil start) condition) [] around here
  in_for_object : {target : Syntax} {around : List Open} {sign : Spot} {first here : List Token} → Reached all head_at nil [] around first
      → ForTarget first (token in_word sign ∷ here) target → Reached all (expression_at by_object) (snoc nil target) [] around here
  in_case : {seen : Bool} {cases : Syntax} {around : List Open} {word : Spot} {here : List Token}
      → Reached all (clause_at seen) cases [] around (token case_word word ∷ here)
      → Reached all (expression_at (by_case seen)) cases (pending case_word word.mark nil ∷ []) around here
  in_parens : {ending : Ending} {target : Target} {level : ℕ} {done operand : Syntax} {starts waiting : List Pending} {around : List Open} {opener : Spot}
      {first here : List Token} → Reached all (expression_at ending) done starts around first
      → Waiting ending target level waiting first (token open_paren opener ∷ here)
      → Reached all (expression_at by_paren) nil []
      (grouped (operand_done ending target) to_parens opener.mark (frame done starts waiting operand) ∷ around) here
  in_index : {ending : Ending} {target : Target} {level : ℕ} {done object : Syntax} {starts waiting : List Pending} {around : List Open} {opener : Spot}
      {first before here : List Token} → Reached all (expression_at ending) done starts around first → Waiting ending target level waiting first before
      → Chain (may_call waiting) before (token open_bracket opener ∷ here) object
      → Reached all (expression_at by_bracket) nil []
      (grouped (operand_done ending target) to_index opener.mark (frame done starts waiting object) ∷ around) here
  in_condition : {setting : Setting} {done : Syntax} {starts : List Pending} {around : List Open} {word opener : Spot} {here : List Token}
      → Reached all (statement_at setting) done starts around (token if_word word ∷ token open_paren opener ∷ here)
      → Reached all (expression_at by_paren) nil []
      (grouped (statement_due true (in_nest if_nest)) to_condition opener.mark (frame nil [] [] (held_word word.mark))
      ∷ nested (behind_statement setting) to_statement word.mark (frame done starts [] nil) ∷ around)
      here
  in-head : {setting : Setting} {class : ℕ} {done : Syntax} {starts : List Pending} {around : List Open} {word opener : Spot} {here : List Token}
      → HeadWord class → Reached all (statement_at setting) done starts around (token class word ∷ token open_paren opener ∷ here)
      → Reached all (expression_at by_paren) nil []
      (grouped (statement_due true setting) to_head opener.mark (frame done (pending class word.mark nil ∷ starts) [] nil) ∷ around) here
  in_subject : {setting : Setting} {done : Syntax} {starts : List Pending} {around : List Open} {word opener : Spot} {here : List Token}
      → Reached all (statement_at setting) done starts around (token switch_word word ∷ token open_paren opener ∷ here)
      → Reached all (expression_at by_paren) nil []
      (grouped (switch_past setting) to_head opener.mark (frame done (pending switch_word word.mark nil ∷ starts) [] nil) ∷ around) here
  in_test : {setting : Setting} {done inner : Syntax} {starts : List Pending} {around : List Open} {word other opener : Spot} {first here : List Token}
      → Reached all (statement_at setting) done starts around (token do_word word ∷ first)
      → Statement first (token while_word other ∷ token open_paren opener ∷ here) inner
      → Reached all (expression_at by_paren) nil []
      (grouped (semicolon_due setting) to_test opener.mark (frame done (pending do_word word.mark inner ∷ starts) [] nil) ∷ around) here
  in_call : {ending : Ending} {target : Target} {level : ℕ} {done callee : Syntax} {starts waiting : List Pending} {around : List Open} {opener : Spot}
      {first before here : List Token} → Reached all (expression_at ending) done starts around first → Waiting ending target level waiting first before
      → Chain (may_call waiting) before (token open_paren opener ∷ here) callee
      → Reached all (list_at call_arguments) nil []
      (grouped (operand_done ending target) to_call opener.mark (frame done starts waiting callee) ∷ around) here
  in_array : {ending : Ending} {target : Target} {level : ℕ} {done operand : Syntax} {starts waiting : List Pending} {around : List Open} {opener : Spot}
      {first here : List Token} → Reached all (expression_at ending) done starts around first
      → Waiting ending target level waiting first (token open_bracket opener ∷ here)
      → Reached all (list_at array_elements) nil []
      (grouped (operand_done ending target) to_array opener.mark (frame done starts waiting operand) ∷ around) here
  in_object : {ending : Ending} {target : Target} {level : ℕ} {done operand : Syntax} {starts waiting : List Pending} {around : List Open} {opener : Spot}
      {first here : List Token} → Reached all (expression_at ending) done starts around first
      → Waiting ending target level waiting first (token open_brace opener ∷ here)
      → Reached all (list_at object_properties) nil []
      (grouped (operand_done ending target) to_object opener.mark (frame done starts waiting operand) ∷ around) here
  in_conditional : {ending : Ending} {target : Target} {level : ℕ} {done condition : Syntax} {starts waiting : List Pending} {around : List Open}
      {sign : Spot} {first before here : List Token} → Reached all (expression_at ending) done starts around first
      → Waiting ending target level waiting first before → level ≤ assignment_precedence
      → Derives (binary_form (allows_in ending) least_binary) before (token question sign ∷ here) condition
      → Reached all (expression_at by_colon) nil [] (asking ending sign.mark (frame done starts waiting condition) ∷ around) here
  in_item : {items : Items} {done : Syntax} {around : List Open} {first middle here : List Token} → Reached all (list_at items) nil [] around first
      → Derives (items_form items) first middle done → ItemStart items middle here
      → Reached all (expression_at (by_item items)) done [] around here

module _ {all : List Token} where
  -- a declaration is added
  pub with_declaration : {done inside : Syntax} {around : List Open} {word called : Spot} {rest here : List Token}
      → Reached all (statement_at (among body)) done [] around (token function_word word ∷ token name called ∷ rest) → Function rest here inside
      → Reached all (statement_at (among body)) (snoc done (node declaration_syntax word.mark inside nil)) [] around here
  with_declaration (in_program statements) last = in_program (add_declaration statements last)
  with_declaration (in_declaration outer parameters statements) last = in_declaration outer parameters (add_declaration statements last)
  with_declaration (in_function outer waits head parameters statements) last = in_function outer waits head parameters (add_declaration statements last)
