-- A level inside a parameter's parentheses stays there, and has no value.
use mathlib.Core.Path.{◌≡◌, refl, sym, ◌∙◌}
use mathlib.Core.Bool.{Bool, true, false, cond}
use Prim.Native.Nat.{ℕ}
use native.Mathlib.Omega.{arith}
use borrow.Author.Tests.{eqb-true}
use lib.Dec.{eqb}
use Rattle.machine.specs.Syntax.{Syntax, nil}
use Rattle.machine.specs.Scopes.{Items, call_arguments, array_elements, object_properties}
use Rattle.machine.specs.Machinery.Machine.{Frame, Setting, among, in_clause, in_nest, Variables, in_statement, in_head, Target, behind_statement, behind_variables, behind_comma, Effect, Closing, to_parameter, Ending, Control, Action}
use Rattle.controls.specs.Machinery.Numbers.{closing_by, inside_by}
use Rattle.controls.specs.Machinery.Steps.{
  Due,
  due_operand,
  due_value,
  due_thrown,
  due_item,
  due_statement,
  due_start,
  due_test,
  due_step,
  due_member,
  Ended,
  ended_operand,
  ended_postfix,
  VariableEnded,
  ended_bare,
  ended_value,
  BeforeIn,
  before_target,
  before_variable,
  PartEnded,
  no_start,
  ended_start,
  no_test,
  ended_test,
  Started,
  started_return,
  started_throw,
  started_jump,
  started_head,
  started_debugger,
  started_var,
  started_for,
  started_switch,
  Leads,
  to_name,
  to_leaf,
  to-function,
  to-declaration,
  to_start,
  to_empty,
  to_else,
  to_variable,
  to_initialiser,
  to_next_variable,
  to_variables_end,
  to_head_variable,
  to_next_part,
  to-object,
  to_case,
  to_default,
  to_catch,
  to_finally,
  to_finally_behind,
  to_caught,
  to-test,
  to_jump_label,
  to_bare_jump,
  to_semicolon,
  to_label,
  to_bare_end,
  to_dot,
  to_member,
  to_prefix,
  to_new,
  to_postfix,
  to_assign,
  to_operator,
  to_comma,
  to_end,
  to_return_end,
  to_item_end,
  to_hole,
  to_function_name,
  to_property,
  to_value,
  to-parameter,
  to_next_parameter,
  Spans,
  past_parens,
  past_object,
  past_array,
  past_index,
  past_call,
  past_condition,
  past_head,
  past_for,
  past_for_in,
  past_subject,
  past_clauses,
  past_tried,
  past_caught,
  past_handled,
  past_finally,
  past_test,
  past_parameter,
  past_unnamed,
  past_block,
  past_declaration,
  past_function,
  Ends,
  ends_statements,
  ends_text,
  ends_expression,
  ends_item,
  ends_items,
  ends_no_parameter,
  ends_parameter,
  ends_head,
  ends_object,
  ends_no_step,
  ends_clauses,
  ends_caught,
}
use Rattle.controls.specs.declared.Closing as closings
use Rattle.controls.specs.declared.Closing.TheVariants as group
use Rattle.frames.specs.Machinery.Effects.{of_parameter, IsValue, is_popped}

due_kind : {from : Control} {ending : Ending} {target : Target} → Due from ending target → false ≡ of_parameter from
due_kind due_operand = refl
due_kind due_value = refl
due_kind due_thrown = refl
due_kind due_item = refl
due_kind due_statement = refl
due_kind due_start = refl
due_kind due_test = refl
due_kind due_step = refl
due_kind due_member = refl

pub ended_kind : {from : Control} {ending : Ending} → Ended from ending → of_parameter from ≡ false
ended_kind ended_operand = refl
ended_kind ended_postfix = refl

variable_kind : {from : Control} {place : Variables} → VariableEnded from place → of_parameter from ≡ false
variable_kind ended_bare = refl
variable_kind (ended_value ended) = ended_kind ended

start-kind : {kind : ℕ} {setting : Setting} {to : Control} → Started kind setting to → of_parameter to ≡ false
start-kind started_return = refl
start-kind started_throw = refl
start-kind (started_jump listed) = refl
start-kind (started_head listed) = refl
start-kind started_debugger = refl
start-kind started_var = refl
start-kind started_for = refl
start-kind started_switch = refl

part_kind : {from to : Control} → PartEnded from to → of_parameter to ≡ of_parameter from
part_kind no_start = refl
part_kind (ended_start ended) = sym (ended_kind ended)
part_kind no_test = refl
part_kind (ended_test ended) = sym (ended_kind ended)

before-kind : {from : Control} → BeforeIn from → false ≡ of_parameter from
before-kind (before_target t) = refl
before-kind (before_variable ended) = sym (variable_kind ended)

pub behind_kind : (setting : Setting) → of_parameter (behind_statement setting) ≡ false
behind_kind (among scope) = refl
behind_kind in_clause = refl
behind_kind (in_nest nest) = refl

variables_kind : (place : Variables) → of_parameter (behind_variables place) ≡ false
variables_kind (in_statement setting) = behind_kind setting
variables_kind (in_head first) = refl

comma_kind : (items : Items) → of_parameter (behind_comma items) ≡ false
comma_kind call_arguments = refl
comma_kind array_elements = refl
comma_kind object_properties = refl

pub leads_kind : {effect : Effect} {from to : Control} → Leads effect from to → of_parameter to ≡ of_parameter from
leads_kind to_name = refl
leads_kind (to_leaf due) = due_kind due
leads_kind (to-function due) = due_kind due
leads_kind to-declaration = refl
leads_kind (to_start started) = start-kind started
leads_kind (to_empty {setting = setting}) = behind_kind setting
leads_kind to_else = refl
leads_kind to_variable = refl
leads_kind to_initialiser = refl
leads_kind (to_next_variable ended) = sym (variable_kind ended)
leads_kind (to_variables_end {place = place} ended) = variables_kind place ∙ sym (variable_kind ended)
leads_kind to_head_variable = refl
leads_kind (to_next_part ended) = part_kind ended
leads_kind (to-object before) = before-kind before
leads_kind to_case = refl
leads_kind to_default = refl
leads_kind to_catch = refl
leads_kind to_finally = refl
leads_kind to_finally_behind = refl
leads_kind to_caught = refl
leads_kind to-test = refl
leads_kind to_jump_label = refl
leads_kind (to_bare_jump {setting = setting}) = behind_kind setting
leads_kind (to_semicolon {setting = setting}) = behind_kind setting
leads_kind to_label = refl
leads_kind (to_bare_end {setting = setting}) = behind_kind setting
leads_kind to_dot = refl
leads_kind to_member = refl
leads_kind (to_prefix class in_List due takes) = due_kind due
leads_kind (to_new due) = due_kind due
leads_kind (to_postfix class in_List) = refl
leads_kind (to_assign may in_List) = refl
leads_kind (to_operator in_List ended) = sym (ended_kind ended)
leads_kind (to_comma takes ended) = sym (ended_kind ended)
leads_kind (to_end {setting = setting} ended) = behind_kind setting ∙ sym (ended_kind ended)
leads_kind (to_return_end {setting = setting} ended) = behind_kind setting ∙ sym (ended_kind ended)
leads_kind (to_item_end {items = items} ended) = comma_kind items ∙ sym (ended_kind ended)
leads_kind to_hole = refl
leads_kind to_function_name = refl
leads_kind to_property = refl
leads_kind to_value = refl
leads_kind to-parameter = refl
leads_kind to_next_parameter = refl

pub spans_kind : {closing : Closing} {from to : Control} → Spans closing from to → of_parameter to ≡ of_parameter from
spans_kind (past_parens due) = due_kind due
spans_kind (past_object due) = due_kind due
spans_kind (past_array due) = due_kind due
spans_kind past_index = refl
spans_kind past_call = refl
spans_kind past_condition = refl
spans_kind past_head = refl
spans_kind past_for = refl
spans_kind past_for_in = refl
spans_kind past_subject = refl
spans_kind (past_clauses {setting = setting}) = behind_kind setting
spans_kind past_tried = refl
spans_kind past_caught = refl
spans_kind past_handled = refl
spans_kind past_finally = refl
spans_kind past_test = refl
spans_kind past_parameter = refl
spans_kind past_unnamed = refl
spans_kind (past_block {setting = setting}) = behind_kind setting
spans_kind past_declaration = refl
spans_kind past_function = refl

-- where it starts, and its value: no other group is one of parameters
pub parameter_inside : (closing : closings.Closing) → closing_by closing ≡ to_parameter → of_parameter (inside_by closing) ≡ true
parameter_inside group.Parameter e = refl
parameter_inside group.Catch e = refl
parameter_inside _ e = absurd (let z : ◌≡◌ {A = ℕ} 0 1 = cc in omega arith)

pub parameter_value : {class : ℕ} {c : Control} {action : Action} {g : Frame} {value : Syntax} → Ends class c true action → of_parameter c ≡ true → IsValue action g value → value ≡ nil
parameter_value ends_statements e is = let z : ◌≡◌ {A = ℕ} 0 1 = cc in absurd (omega arith)
parameter_value (ends_text t) e is = let z : ◌≡◌ {A = ℕ} 0 1 = cc in absurd (omega arith)
parameter_value (ends_expression t ended) e is = let k = ended_kind ended in let z : ◌≡◌ {A = ℕ} 0 1 = cc in absurd (omega arith)
parameter_value (ends_item ended) e is = let k = ended_kind ended in let z : ◌≡◌ {A = ℕ} 0 1 = cc in absurd (omega arith)
parameter_value ends_items e is = let z : ◌≡◌ {A = ℕ} 0 1 = cc in absurd (omega arith)
parameter_value ends_no_parameter e is_popped = refl
parameter_value ends_parameter e is_popped = refl
parameter_value (ends_head ended) e is = let k = ended_kind ended in let z : ◌≡◌ {A = ℕ} 0 1 = cc in absurd (omega arith)
parameter_value (ends_object ended) e is = let k = ended_kind ended in let z : ◌≡◌ {A = ℕ} 0 1 = cc in absurd (omega arith)
parameter_value ends_no_step e is = let z : ◌≡◌ {A = ℕ} 0 1 = cc in absurd (omega arith)
parameter_value ends_clauses e is = let z : ◌≡◌ {A = ℕ} 0 1 = cc in absurd (omega arith)
parameter_value ends_caught e is_popped = refl
