-- The machine's controls, effects, groups and nests as the code has them. Machinery.
use Rattle.std.specs.Prelude.{ℕ, Bool, true, false, cond, ◌||◌, eqb}
use Rattle.machine.specs.Tokens.{name, return_word}
use Rattle.machine.specs.Operators.{prefix_kind, postfix_kind}
use Rattle.machine.specs.Syntax.{full_return_syntax, variable_syntax}
use Rattle.machine.specs.Scopes.{Items, call_arguments, array_elements, object_properties, body, block}
use Rattle.machine.specs.Machinery.Machine.{if_nest, else_nest, do_nest, Nest, Setting, among, in_nest, in_clause, Variables, in_statement, in_head, Target, no_target, some_target, lone_target, Effect, keep, take_name, take_member, end_expression, end_value, end_bare, end_empty, end_variable, end_head, take_label, take_else, hold_word, take_leaf, take_operator, take_prefix, take_postfix, start_statement, Closing, to_parens, to_call, to_object, to_array, to_index, to_block, to_condition, to_head, to_test, to_for, to_for_in, to_parameter, to_declaration, to_function, to_statement, to_body, to_try, Ending, by_statement, by_return, by_variable, by_start, by_test, by_step, by_object, by_case, by_paren, by_bracket, by_colon, by_item, declared, operand_in, Control, statement_due, statement_done, behind_statement, name_first, return_first, throw_first, jump_first, head_first, variable_due, variable_named, body_done, test_first, semicolon_due, for_first, start_due, test_due, step_due, switch_first, switch_past, clause_due, default_first, try_first, try_done, catch_first, catch_due, catch_named, catch_past, catch_done, finally_first, try_ended, if_first, operand_due, member_due, operand_done, postfix_done, dot_last, function_first, function_named, parameter_past, item_due, property_named, parameter_due, parameter_named}
use Rattle.controls.specs.declared.Control as code
use Rattle.controls.specs.declared.Place as places
use Rattle.controls.specs.declared.Place.TheVariants as stand
use Rattle.controls.specs.declared.Setting as settings
use Rattle.controls.specs.declared.Setting.TheVariants as within
use Rattle.controls.specs.declared.Ending as endings
use Rattle.controls.specs.declared.Ending.TheVariants as by
use Rattle.controls.specs.declared.Effect as effects
use Rattle.controls.specs.declared.Effect.TheVariants as does
use Rattle.controls.specs.declared.Closing as closings
use Rattle.controls.specs.declared.Closing.TheVariants as group
use Rattle.controls.specs.declared.Nest as nests
use Rattle.controls.specs.declared.Nest.TheVariants as kind

-- settings of statements, nests, lists by what ends their items, variables and what ends an expression
abbrev pub setting_by : settings.Setting → Setting
setting_by within.Body = among body
setting_by within.Block = among block
setting_by within.Clause = in_clause
setting_by within.IfNest = in_nest if_nest
setting_by within.ElseNest = in_nest else_nest
setting_by within.DoNest = in_nest do_nest

abbrev pub nest_by : settings.Setting → Nest
nest_by within.IfNest = if_nest
nest_by within.ElseNest = else_nest
nest_by _ = do_nest

abbrev pub items_by : endings.Ending → Items
items_by by.Argument = call_arguments
items_by by.Element = array_elements
items_by _ = object_properties

abbrev pub variables_by : endings.Ending → settings.Setting → Variables
variables_by by.FirstVariable setting = in_head true
variables_by by.LaterVariable setting = in_head false
variables_by _ setting = in_statement (setting_by setting)

abbrev pub ending_by : endings.Ending → settings.Setting → Ending
ending_by by.Statement setting = by_statement (setting_by setting)
ending_by by.Return setting = by_return (setting_by setting)
ending_by by.Variable setting = by_variable (in_statement (setting_by setting))
ending_by by.FirstVariable setting = by_variable (in_head true)
ending_by by.LaterVariable setting = by_variable (in_head false)
ending_by by.LoneStart setting = by_start
ending_by by.Start setting = by_start
ending_by by.Test setting = by_test
ending_by by.Case setting = by_case false
ending_by by.LastCase setting = by_case true
ending_by by.Step setting = by_step
ending_by by.Object setting = by_object
ending_by by.Paren setting = by_paren
ending_by by.Bracket setting = by_bracket
ending_by by.Colon setting = by_colon
ending_by by.Argument setting = by_item call_arguments
ending_by by.Element setting = by_item array_elements
ending_by by.Property setting = by_item object_properties

-- whether a chain may be assigned to: the start of a `for`'s head is alone by what ends it
abbrev pub is_lone : endings.Ending → Bool
is_lone by.LoneStart = true
is_lone _ = false

abbrev pub target_by : endings.Ending → Bool → Target
target_by ending flag = cond flag (cond (is_lone ending) lone_target some_target) no_target

-- whether a statement must come: where none must come in a clause is a place of its own
abbrev pub is_clause : settings.Setting → Bool
is_clause within.Clause = true
is_clause _ = false

abbrev pub must_by : Bool → settings.Setting → Bool
must_by flag setting = flag || is_clause setting

-- controls by place, what ends the expression, the setting, and the flag
abbrev pub control_by : places.Place → endings.Ending → settings.Setting → Bool → Control
control_by stand.StatementDue ending setting flag = statement_due (must_by flag setting) (setting_by setting)
control_by stand.ReturnFirst ending setting flag = return_first (setting_by setting)
control_by stand.OperandDue ending setting flag = operand_due (ending_by ending setting) (target_by ending flag)
control_by stand.OperandDone ending setting flag = operand_done (ending_by ending setting) (target_by ending flag)
control_by stand.PostfixDone ending setting flag = postfix_done (ending_by ending setting)
control_by stand.ThrowFirst ending setting flag = throw_first (setting_by setting)
control_by stand.JumpFirst ending setting flag = jump_first (setting_by setting)
control_by stand.VariableNamed ending setting flag = variable_named (variables_by ending setting)
control_by stand.SemicolonDue ending setting flag = semicolon_due (setting_by setting)
control_by stand.StartDue ending setting flag = start_due
control_by stand.TestDue ending setting flag = test_due
control_by stand.StepDue ending setting flag = step_due
control_by stand.MemberDue ending setting flag = member_due (ending_by ending setting) (target_by ending flag)
control_by stand.IfFirst ending setting flag = if_first
control_by stand.DotLast ending setting flag = dot_last (ending_by ending setting) (target_by ending flag)
control_by stand.ItemDue ending setting flag = item_due (items_by ending)
control_by stand.PropertyNamed ending setting flag = property_named
control_by stand.HeadFirst ending setting flag = head_first (setting_by setting)
control_by stand.VariableDue ending setting flag = variable_due (variables_by ending setting)
control_by stand.BodyDone ending setting flag = body_done (setting_by setting)
control_by stand.TestFirst ending setting flag = test_first (setting_by setting)
control_by stand.ForFirst ending setting flag = for_first (setting_by setting)
control_by stand.SwitchFirst ending setting flag = switch_first (setting_by setting)
control_by stand.SwitchPast ending setting flag = switch_past (setting_by setting)
control_by stand.ClauseDue ending setting flag = clause_due flag
control_by stand.DefaultFirst ending setting flag = default_first
control_by stand.TryFirst ending setting flag = try_first
control_by stand.TryDone ending setting flag = try_done
control_by stand.CatchFirst ending setting flag = catch_first
control_by stand.CatchDue ending setting flag = catch_due
control_by stand.CatchNamed ending setting flag = catch_named
control_by stand.CatchPast ending setting flag = catch_past
control_by stand.FinallyFirst ending setting flag = finally_first
control_by stand.ParameterDue ending setting flag = parameter_due flag
control_by stand.ParameterNamed ending setting flag = parameter_named
control_by stand.FunctionFirst ending setting flag = function_first (operand_in (ending_by ending setting) (target_by ending flag))
control_by stand.FunctionNamed ending setting flag = function_named (operand_in (ending_by ending setting) (target_by ending flag))
control_by stand.ParameterPast ending setting flag = parameter_past (operand_in (ending_by ending setting) (target_by ending flag))
control_by stand.DeclaredFirst ending setting flag = function_first declared
control_by stand.DeclaredNamed ending setting flag = function_named declared
control_by stand.DeclaredPast ending setting flag = parameter_past declared
control_by stand.StatementDone ending setting flag = statement_done (nest_by setting)
control_by stand.NameFirst ending setting flag = name_first (setting_by setting)
control_by stand.CatchDone ending setting flag = catch_done
control_by stand.TryEnded ending setting flag = try_ended
control_by stand.ClauseStatement ending setting flag = statement_due false in_clause

abbrev pub control_of : code.Control → Control
control_of c = control_by c.place c.ending c.setting c.flag

-- statements stand in a body or a block without a nest or a clause around them
abbrev pub IsScope : settings.Setting → Type 0
IsScope within.Body = Unit {0}
IsScope within.Block = Unit {0}
IsScope _ = ⊥

-- the kind of what starts with a token of a class: a return, a variable, or the statement of a word
unfoldable pub start_kind : ℕ → ℕ
start_kind class = cond (eqb class return_word) full_return_syntax (cond (eqb class name) variable_syntax class)

-- effects, of a token of a class
abbrev pub effect_by : effects.Effect → ℕ → Effect
effect_by does.Keep class = keep
effect_by does.TakeLeaf class = take_leaf class
effect_by does.TakeMember class = take_member
effect_by does.TakeOperator class = take_operator class
effect_by does.TakeLabel class = take_label
effect_by does.HoldWord class = hold_word
effect_by does.HoldName class = take_name
effect_by does.StartStatement class = start_statement (start_kind class)
effect_by does.EndExpression class = end_expression
effect_by does.EndValue class = end_value
effect_by does.EndBare class = end_bare
effect_by does.TakePrefix class = take_prefix (prefix_kind class)
effect_by does.TakePostfix class = take_postfix (postfix_kind class)
effect_by does.EndEmpty class = end_empty
effect_by does.EndVariable class = end_variable
effect_by does.TakeElse class = take_else

-- groups, by what they do when they close; and where the inside of each starts
abbrev pub closing_by : closings.Closing → Closing
closing_by group.Parens = to_parens
closing_by group.Call = to_call
closing_by group.Object = to_object
closing_by group.Condition = to_condition
closing_by group.Parameter = to_parameter
closing_by group.Block = to_block
closing_by group.Declaration = to_declaration
closing_by group.Function = to_function
closing_by group.Array = to_array
closing_by group.Index = to_index
closing_by group.Head = to_head
closing_by group.Test = to_test
closing_by group.For = to_for
closing_by group.Clauses = to_statement
closing_by group.Catch = to_parameter
closing_by group.ForIn = to_for_in

abbrev pub inside_by : closings.Closing → Control
inside_by group.Parens = operand_due by_paren some_target
inside_by group.Call = item_due call_arguments
inside_by group.Object = item_due object_properties
inside_by group.Condition = operand_due by_paren some_target
inside_by group.Parameter = parameter_due false
inside_by group.Block = statement_due false (among block)
inside_by group.Declaration = statement_due false (among body)
inside_by group.Function = statement_due false (among body)
inside_by group.Array = item_due array_elements
inside_by group.Index = operand_due by_bracket some_target
inside_by group.Head = operand_due by_paren some_target
inside_by group.Test = operand_due by_paren some_target
inside_by group.For = start_due
inside_by group.Clauses = clause_due false
inside_by group.Catch = catch_due
inside_by group.ForIn = operand_due by_paren some_target

-- nests, by what they are: where the inside of each starts, what its token does there and around it, where the machine stands behind it, with what value
-- it is left, and what it does then
abbrev pub entered_by : nests.Nest → Control
entered_by kind.If = if_first
entered_by kind.Do = statement_due true (in_nest do_nest)
entered_by kind.Try = try_first
entered_by kind.Clause = statement_due false in_clause
entered_by kind.LastClause = statement_due false in_clause

abbrev pub worded_by : nests.Nest → Effect
worded_by kind.If = hold_word
worded_by kind.Do = keep
worded_by kind.Try = keep
worded_by kind.Clause = keep
worded_by kind.LastClause = keep

abbrev pub outside_by : nests.Nest → Effect
outside_by kind.If = keep
outside_by kind.Do = keep
outside_by kind.Try = keep
outside_by kind.Clause = end_head
outside_by kind.LastClause = end_head

abbrev pub behind_by : nests.Nest → Setting → Control
behind_by kind.If setting = behind_statement setting
behind_by kind.Do setting = body_done setting
behind_by kind.Try setting = behind_statement setting
behind_by kind.Clause setting = clause_due false
behind_by kind.LastClause setting = clause_due true

abbrev pub left_by : nests.Nest → Closing
left_by kind.If = to_statement
left_by kind.Do = to_body
left_by kind.Try = to_try
left_by kind.Clause = to_statement
left_by kind.LastClause = to_statement

-- the numbers of nests, settings and endings on the lent stack
abbrev pub nest_number : nests.Nest → ℕ
nest_number kind.If = 0
nest_number kind.Do = 1
nest_number kind.Try = 2
nest_number kind.Clause = 3
nest_number kind.LastClause = 4

abbrev pub setting_number : settings.Setting → ℕ
setting_number within.Body = 0
setting_number within.Block = 1
setting_number within.Clause = 2
setting_number within.IfNest = 3
setting_number within.ElseNest = 4
setting_number within.DoNest = 5

abbrev pub ending_number : endings.Ending → ℕ
ending_number by.Statement = 0
ending_number by.Return = 1
ending_number by.Variable = 2
ending_number by.FirstVariable = 3
ending_number by.LaterVariable = 4
ending_number by.LoneStart = 5
ending_number by.Start = 6
ending_number by.Test = 7
ending_number by.Case = 8
ending_number by.LastCase = 9
ending_number by.Step = 10
ending_number by.Object = 11
ending_number by.Paren = 12
ending_number by.Bracket = 13
ending_number by.Colon = 14
ending_number by.Argument = 15
ending_number by.Element = 16
ending_number by.Property = 17

-- and back: a number past the last stands for what the last does
unfoldable pub setting_numbered : ℕ → settings.Setting
setting_numbered number =
    cond (eqb number 0) within.Body
    (cond (eqb number 1) within.Block
    (cond (eqb number 2) within.Clause
    (cond (eqb number 3) within.IfNest
    (cond (eqb number 4) within.ElseNest
    within.DoNest))))

unfoldable pub ending_numbered : ℕ → endings.Ending
ending_numbered number =
    cond (eqb number 0) by.Statement
    (cond (eqb number 1) by.Return
    (cond (eqb number 2) by.Variable
    (cond (eqb number 3) by.FirstVariable
    (cond (eqb number 4) by.LaterVariable
    (cond (eqb number 5) by.LoneStart
    (cond (eqb number 6) by.Start
    (cond (eqb number 7) by.Test
    (cond (eqb number 8) by.Case
    (cond (eqb number 9) by.LastCase
    (cond (eqb number 10) by.Step
    (cond (eqb number 11) by.Object
    (cond (eqb number 12) by.Paren
    (cond (eqb number 13) by.Bracket
    (cond (eqb number 14) by.Colon
    (cond (eqb number 15) by.Argument
    (cond (eqb number 16) by.Element
    by.Property))))))))))))))))
