-- What a step of the code means: the entry of the machine's table, and between which controls it leads. Machinery.
use Rattle.std.specs.Prelude.{ℕ, ◌≡◌, Bool, true, false, T, Option, Some, None}
use Rattle.machine.specs.Tokens.{new_word, comma, colon, var_word, else_word, for_word, switch_word, case_word, default_word, throw_word, catch_word, finally_word, debugger_word, close_brace}
use Rattle.machine.specs.Syntax.{full_return_syntax, variable_syntax}
use Rattle.machine.specs.Operators.{assignment_operators, binary_operators_by, prefix_operators, prefix_kind, postfix_operators, postfix_kind, is_among}
use Rattle.machine.specs.Scopes.{Items, array_elements, object_properties, Scope, body}
use Rattle.machine.specs.Machinery.Machine.{end_of_text, if_nest, else_nest, Setting, among, in_nest, Variables, in_statement, in_head, Target, no_target, some_target, lone_target, is_target, takes_in, allows_in, behind_variables, later_variables, behind_statement, Effect, keep, take_name, take_member, end_expression, end_value, end_bare, end_empty, end_variable, take_label, take_else, hold_word, take_leaf, take_operator, take_prefix, take_postfix, start_statement, Closing, to_parens, to_call, to_object, to_array, to_index, to_block, to_condition, to_head, to_for, to_for_in, to_test, to_statement, to_parameter, to_declaration, to_function, no_value, expression_value, done_value, list_value, Ending, by_statement, by_return, by_variable, by_start, by_test, by_step, by_object, by_case, by_paren, by_bracket, by_colon, by_item, behind_comma, Role, declared, operand_in, Control, statement_due, statement_done, name_first, return_first, throw_first, jump_first, head_first, variable_due, variable_named, body_done, test_first, semicolon_due, for_first, start_due, test_due, step_due, switch_first, switch_past, clause_due, default_first, try_first, try_done, catch_first, catch_due, catch_named, catch_past, catch_done, finally_first, try_ended, if_first, operand_due, member_due, operand_done, postfix_done, dot_last, function_first, function_named, parameter_past, item_due, property_named, parameter_due, parameter_named, Action, fail, goto, push, enter, pop, pop_in, ask, turn, finish, head_words, jump_words}
use Rattle.machine.specs.Machinery.Classes.{is_opener, is_end, is_single}
use Rattle.controls.specs.Machinery.Numbers.{setting_by, control_of, effect_by, closing_by, inside_by, entered_by, worded_by, outside_by, behind_by, left_by}
use Rattle.controls.specs.declared.Control as code
use Rattle.controls.specs.declared.Place as places
use Rattle.controls.specs.declared.Place.TheVariants as stand
use Rattle.controls.specs.declared.Setting as settings
use Rattle.controls.specs.declared.Setting.TheVariants as within
use Rattle.controls.specs.declared.Effect as effects
use Rattle.controls.specs.declared.Closing as closings
use Rattle.controls.specs.declared.Nest as nests
use Rattle.controls.specs.declared.Nest.TheVariants as kind
use Rattle.controls.specs.declared.Step.{Step}
use Rattle.controls.specs.declared.Step.TheVariants.{Goto, Push, Enter, Ask, Turn}

-- where a primary may start, what ends its expression, and whether it may be assigned to; a property's does not start with the item, and
-- no row takes it there
pub data Due : Control → Ending → Target → Type 0 where
  due_operand : {ending : Ending} {target : Target} → Due (operand_due ending target) ending target
  due_value : {setting : Setting} → Due (return_first setting) (by_return setting) some_target
  due_thrown : {setting : Setting} → Due (throw_first setting) (by_return setting) some_target
  due_item : {items : Items} → Due (item_due items) (by_item items) some_target
  due_statement : {must : Bool} {setting : Setting} → Due (statement_due must setting) (by_statement setting) some_target
  due_start : Due start_due by_start lone_target
  due_test : Due test_due by_test some_target
  due_step : Due step_due by_step some_target
  due_member : {ending : Ending} {target : Target} → Due (member_due ending target) ending target

-- behind `new` no operator may stand before the operand
abbrev pub takes_prefix : {from : Control} {ending : Ending} {target : Target} → Due from ending target → Bool
takes_prefix due_operand = true
takes_prefix due_value = true
takes_prefix due_thrown = true
takes_prefix due_item = true
takes_prefix due_statement = true
takes_prefix due_start = true
takes_prefix due_test = true
takes_prefix due_step = true
takes_prefix due_member = false

-- a Unary has ended here, and what ends its expression
pub data Ended : Control → Ending → Type 0 where
  ended_operand : {ending : Ending} {target : Target} → Ended (operand_done ending target) ending
  ended_postfix : {ending : Ending} → Ended (postfix_done ending) ending

-- a variable has ended here, with its initialiser or without one
pub data VariableEnded : Control → Variables → Type 0 where
  ended_bare : {place : Variables} → VariableEnded (variable_named place) place
  ended_value : {from : Control} {place : Variables} → Ended from (by_variable place) → VariableEnded from place

-- what stands before the `in` of a `for` has ended here: a chain that is all there is, or one variable
pub data BeforeIn : Control → Type 0 where
  before_target : {ending : Ending} {target : Target} → T (takes_in ending target) → BeforeIn (operand_done ending target)
  before_variable : {from : Control} → VariableEnded from (in_head true) → BeforeIn from

-- a part of the head of a `for` has ended here, or is left out, and where its `;` leads
pub data PartEnded : Control → Control → Type 0 where
  no_start : PartEnded start_due test_due
  ended_start : {from : Control} → Ended from by_start → PartEnded from test_due
  no_test : PartEnded test_due step_due
  ended_test : {from : Control} → Ended from by_test → PartEnded from step_due

-- the words that statements start with, by the kind of what waits then, and where the machine stands behind each
pub data Started : ℕ → Setting → Control → Type 0 where
  started_return : {setting : Setting} → Started full_return_syntax setting (return_first setting)
  started_throw : {setting : Setting} → Started throw_word setting (throw_first setting)
  started_jump : {class : ℕ} {setting : Setting} → T (is_among jump_words class) → Started class setting (jump_first setting)
  started_head : {class : ℕ} {setting : Setting} → T (is_among head_words class) → Started class setting (head_first setting)
  started_debugger : {setting : Setting} → Started debugger_word setting (semicolon_due setting)
  started_var : {setting : Setting} → Started var_word setting (variable_due (in_statement setting))
  started_for : {setting : Setting} → Started for_word setting (for_first setting)
  started_switch : {setting : Setting} → Started switch_word setting (switch_first setting)

-- a `,` behind it is an operator
abbrev pub takes_comma : Ending → Bool
takes_comma (by_statement setting) = true
takes_comma (by_return setting) = true
takes_comma (by_variable place) = false
takes_comma by_start = true
takes_comma by_test = true
takes_comma by_step = true
takes_comma by_object = true
takes_comma (by_case seen) = true
takes_comma by_paren = true
takes_comma by_bracket = true
takes_comma by_colon = false
takes_comma (by_item items) = false

-- the controls between which an effect leads
pub data Leads : Effect → Control → Control → Type 0 where
  to_name : {must : Bool} {setting : Setting} → Leads take_name (statement_due must setting) (name_first setting)
  to_leaf : {class : ℕ} {from : Control} {ending : Ending} {target : Target} → Due from ending target
      → Leads (take_leaf class) from (operand_done ending target)
  to-function : {from : Control} {ending : Ending} {target : Target} → Due from ending target
      → Leads hold_word from (function_first (operand_in ending target))
  to-declaration : Leads hold_word (statement_due false (among body)) (function_first declared)
  to_start : {kind : ℕ} {must : Bool} {setting : Setting} {to : Control} → Started kind setting to → Leads (start_statement kind) (statement_due must setting) to
  to_empty : {must : Bool} {setting : Setting} → Leads end_empty (statement_due must setting) (behind_statement setting)
  to_else : Leads take_else (statement_done if_nest) (statement_due true (in_nest else_nest))
  to_variable : {place : Variables} → Leads (start_statement variable_syntax) (variable_due place) (variable_named place)
  to_initialiser : {place : Variables} → Leads keep (variable_named place) (operand_due (by_variable place) some_target)
  to_next_variable : {from : Control} {place : Variables} → VariableEnded from place → Leads end_variable from (variable_due (later_variables place))
  to_variables_end : {from : Control} {place : Variables} → VariableEnded from place → Leads end_value from (behind_variables place)
  to_head_variable : Leads (start_statement var_word) start_due (variable_due (in_head true))
  to_next_part : {from to : Control} → PartEnded from to → Leads end_value from to
  to-object : {from : Control} → BeforeIn from → Leads end_value from (operand_due by_object some_target)
  to_case : {seen : Bool} → Leads (start_statement case_word) (clause_due seen) (operand_due (by_case seen) some_target)
  to_default : Leads (start_statement default_word) (clause_due false) default_first
  to_catch : Leads (start_statement catch_word) try_done catch_first
  to_finally : Leads (start_statement finally_word) try_done finally_first
  to_finally_behind : Leads (start_statement finally_word) catch_done finally_first
  to_caught : Leads keep catch_due catch_named
  to-test : {setting : Setting} → Leads keep (body_done setting) (test_first setting)
  to_jump_label : {setting : Setting} → Leads keep (jump_first setting) (semicolon_due setting)
  to_bare_jump : {setting : Setting} → Leads end_bare (jump_first setting) (behind_statement setting)
  to_semicolon : {setting : Setting} → Leads end_value (semicolon_due setting) (behind_statement setting)
  to_label : {setting : Setting} → Leads take_label (name_first setting) (statement_due true setting)
  to_bare_end : {setting : Setting} → Leads end_bare (return_first setting) (behind_statement setting)
  to_dot : {ending : Ending} {target : Target} → Leads keep (operand_done ending target) (dot_last ending target)
  to_member : {ending : Ending} {target : Target} → Leads take_member (dot_last ending target) (operand_done ending target)
  to_prefix : (class : ℕ) {from : Control} {ending : Ending} {target : Target} → T (is_among prefix_operators class)
      → (due : Due from ending target) → T (takes_prefix due)
      → Leads (take_prefix (prefix_kind class)) from (operand_due ending no_target)
  to_new : {from : Control} {ending : Ending} {target : Target} → Due from ending target → Leads (take_prefix new_word) from (member_due ending target)
  to_postfix : (class : ℕ) {ending : Ending} {target : Target} → T (is_among postfix_operators class)
      → Leads (take_postfix (postfix_kind class)) (operand_done ending target) (postfix_done ending)
  to_assign : {class : ℕ} {ending : Ending} {target : Target} → T (is_target target) → T (is_among assignment_operators class)
      → Leads (take_operator class) (operand_done ending target) (operand_due ending some_target)
  to_operator : {class : ℕ} {from : Control} {ending : Ending} → T (is_among (binary_operators_by (allows_in ending)) class) → Ended from ending
      → Leads (take_operator class) from (operand_due ending no_target)
  to_comma : {from : Control} {ending : Ending} → T (takes_comma ending) → Ended from ending → Leads (take_operator comma) from (operand_due ending some_target)
  to_end : {from : Control} {setting : Setting} → Ended from (by_statement setting) → Leads end_expression from (behind_statement setting)
  to_return_end : {from : Control} {setting : Setting} → Ended from (by_return setting) → Leads end_value from (behind_statement setting)
  to_item_end : {from : Control} {items : Items} → Ended from (by_item items) → Leads end_value from (behind_comma items)
  to_hole : Leads keep (item_due array_elements) (item_due array_elements)
  to_function_name : {role : Role} → Leads keep (function_first role) (function_named role)
  to_property : Leads keep (item_due object_properties) property_named
  to_value : Leads keep property_named (operand_due (by_item object_properties) some_target)
  to-parameter : {must : Bool} → Leads keep (parameter_due must) parameter_named
  to_next_parameter : Leads keep parameter_named (parameter_due true)

-- and those between which a group stands
pub data Spans : Closing → Control → Control → Type 0 where
  past_parens : {from : Control} {ending : Ending} {target : Target} → Due from ending target → Spans to_parens from (operand_done ending target)
  past_object : {from : Control} {ending : Ending} {target : Target} → Due from ending target → Spans to_object from (operand_done ending target)
  past_array : {from : Control} {ending : Ending} {target : Target} → Due from ending target → Spans to_array from (operand_done ending target)
  past_index : {ending : Ending} {target : Target} → Spans to_index (operand_done ending target) (operand_done ending target)
  past_call : {ending : Ending} {target : Target} → Spans to_call (operand_done ending target) (operand_done ending target)
  past_condition : Spans to_condition if_first (statement_due true (in_nest if_nest))
  past_head : {setting : Setting} → Spans to_head (head_first setting) (statement_due true setting)
  past_for : {setting : Setting} → Spans to_for (for_first setting) (statement_due true setting)
  past_for_in : {setting : Setting} → Spans to_for_in (for_first setting) (statement_due true setting)
  past_subject : {setting : Setting} → Spans to_head (switch_first setting) (switch_past setting)
  past_clauses : {setting : Setting} → Spans to_statement (switch_past setting) (behind_statement setting)
  past_tried : Spans to_block try_first try_done
  past_caught : Spans to_parameter catch_first catch_past
  past_handled : Spans to_block catch_past catch_done
  past_finally : Spans to_block finally_first try_ended
  past_test : {setting : Setting} → Spans to_test (test_first setting) (semicolon_due setting)
  past_parameter : {role : Role} → Spans to_parameter (function_named role) (parameter_past role)
  past_unnamed : {ending : Ending} {target : Target} → Spans to_parameter (function_first (operand_in ending target)) (parameter_past (operand_in ending target))
  past_block : {must : Bool} {setting : Setting} → Spans to_block (statement_due must setting) (behind_statement setting)
  past_declaration : Spans to_declaration (parameter_past declared) (statement_due false (among body))
  past_function : {ending : Ending} {target : Target} → Spans to_function (parameter_past (operand_in ending target)) (operand_done ending target)

-- where a nest may be opened: where a statement is due, or behind the head of a clause
pub data Enters : nests.Nest → Setting → Control → Type 0 where
  enters_if : {must : Bool} {setting : Setting} → Enters kind.If setting (statement_due must setting)
  enters_do : {must : Bool} {setting : Setting} → Enters kind.Do setting (statement_due must setting)
  enters_try : {must : Bool} {setting : Setting} → Enters kind.Try setting (statement_due must setting)
  enters_case : {setting : Setting} {from : Control} → Ended from (by_case false) → Enters kind.Clause setting from
  enters_last_case : {setting : Setting} {from : Control} → Ended from (by_case true) → Enters kind.LastClause setting from
  enters_default : {setting : Setting} → Enters kind.LastClause setting default_first

-- what a step, or that there is none, says of the action for a token of a class; of a class that ends a level it says nothing
pub data Means (from : Control) (class : ℕ) : Option Step → Action → Type 0 where
  means_end : {action : Action} → T (is_end class) → Means from class None action
  means_fail : Means from class None fail
  means_goto : {to : code.Control} {effect : effects.Effect} → T (is_single class) → Leads (effect_by effect class) from (control_of to)
      → Means from class (Some (Goto to effect)) (goto (control_of to) (effect_by effect class))
  means_push : {to : code.Control} {closing : closings.Closing} → T (is_opener class) → Spans (closing_by closing) from (control_of to)
      → Means from class (Some (Push to closing)) (push (inside_by closing) (control_of to) (closing_by closing))
  means_enter : {nest : nests.Nest} {setting : settings.Setting} → T (is_single class) → Enters nest (setting_by setting) from
      → Means from class (Some (Enter nest setting)) (enter (entered_by nest) (worded_by nest) (outside_by nest) (behind_by nest (setting_by setting)) (left_by nest))
  means_ask : {ending : Ending} → T (is_single class) → Ended from ending → Means from class (Some Ask) (ask ending)
  means_turn : T (is_single class) → Ended from by_colon → Means from class (Some Turn) turn

-- what a step that goes on, or opens a group, means of each class, from wherever it leads
abbrev pub Goes : Option Step → Control → effects.Effect → Type 0
Goes step to effect = (from : Control) (class : ℕ) → T (is_single class) → Leads (effect_by effect class) from to
    → Means from class step (goto to (effect_by effect class))

abbrev pub Opens : Option Step → Control → closings.Closing → Type 0
Opens step behind closing = (from : Control) (class : ℕ) → T (is_opener class) → Spans (closing_by closing) from behind
    → Means from class step (push (inside_by closing) behind (closing_by closing))

-- a control is settled before a token of a class: no name that is no label is held, and no nest is to be left
pub record SettledAt (place : places.Place) (setting : settings.Setting) (class : ℕ) : Type 0 where
  pub no_nest : place ≡ stand.StatementDone → (setting ≡ within.IfNest) × (class ≡ else_word)
  pub no_name : place ≡ stand.NameFirst → class ≡ colon
  pub no_catch : place ≡ stand.CatchDone → class ≡ finally_word
  pub no_try : place ≡ stand.TryEnded → ⊥
  pub no_clause : place ≡ stand.ClauseStatement → (class ≡ case_word → ⊥) × (class ≡ default_word → ⊥) × (class ≡ close_brace → ⊥)

abbrev pub Settled : code.Control → ℕ → Type 0
Settled at class = SettledAt at.place at.setting class

-- an expression that is the whole inside of a group
abbrev pub in_group : Ending → Bool
in_group (by_statement setting) = false
in_group (by_return setting) = false
in_group (by_variable place) = false
in_group by_start = false
in_group by_test = false
in_group by_step = false
in_group by_object = false
in_group (by_case seen) = false
in_group by_paren = true
in_group by_bracket = true
in_group by_colon = false
in_group (by_item items) = false

-- whether a level ends at a closer, or at the text's end, and with what
pub data Ends (class : ℕ) : Control → Bool → Action → Type 0 where
  ends_statements : {scope : Scope} → Ends class (statement_due false (among scope)) true (pop done_value)
  ends_text : class ≡ end_of_text → Ends class (statement_due false (among body)) true finish
  ends_expression : {from : Control} {ending : Ending} → T (in_group ending) → Ended from ending → Ends class from true (pop expression_value)
  ends_item : {from : Control} {items : Items} → Ended from (by_item items) → Ends class from true (pop list_value)
  ends_items : {items : Items} → Ends class (item_due items) true (pop done_value)
  ends_no_parameter : Ends class (parameter_due false) true (pop no_value)
  ends_parameter : Ends class parameter_named true (pop no_value)
  ends_head : {from : Control} → Ended from by_step → Ends class from true (pop list_value)
  ends_object : {from : Control} → Ended from by_object → Ends class from true pop_in
  ends_no_step : Ends class step_due true (pop list_value)
  ends_clauses : {seen : Bool} → Ends class (clause_due seen) true (pop done_value)
  ends_caught : Ends class catch_named true (pop no_value)
  goes_on : {from : Control} → Ends class from false fail
