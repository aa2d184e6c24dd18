-- The token machine: it takes tokens one at a time, and builds the syntax tree as it goes. Machinery: it is shown to accept what
-- has a derivation, and nothing else.
use Rattle.std.specs.Prelude.{ℕ, ◌-◌, Bool, true, false, cond, ◌&&◌, List, [], ◌∷◌, eqb, leb}
use Rattle.machine.specs.Tokens.{Token, token, Spot, name, number, string, pattern, this_word, null_word, true_word, false_word, new_word, assign, question, comma, in_word, var_word, else_word, do_word, while_word, for_word, continue_word, break_word, with_word, switch_word, case_word, default_word, throw_word, try_word, catch_word, finally_word, debugger_word, colon, semicolon, dot, open_paren, close_paren, open_brace, close_brace, return_word, function_word, if_word, word_name, open_bracket, close_bracket}
use Rattle.machine.specs.Syntax.{Syntax, nil, node, snoc, object_syntax, parenthesised_syntax, function_syntax, member_syntax, call_syntax, construct_syntax, expression_syntax, full_return_syntax, block_syntax, label_syntax, if_syntax, declaration_syntax, array_syntax, index_syntax, variable_syntax, empty_syntax, for_in_syntax}
use Rattle.machine.specs.Operators.{precedence, least_binary, assignment_operators, binary_operators_by, prefix_operators, prefix_kind, postfix_operators, postfix_kind, is_among}
use Rattle.machine.specs.Scopes.{Scope, body, block, Items, call_arguments, array_elements, object_properties}

-- behind the last token of a text stands its end
abbrev pub end_of_text : ℕ
end_of_text = 128

-- what waits for a part on its right: an operator with its left part, or the beginning of a statement; kind, mark, part
pub data Pending : Type 0 where
  pending : ℕ → ℕ → Syntax → Pending

-- what a level, or a nest on it, has so far: statements done, or items of a list, beginnings of statements, operators, and the operand
pub data Frame : Type 0 where
  frame : Syntax → List Pending → List Pending → Syntax → Frame

abbrev pub empty : Frame
empty = frame nil [] [] nil

-- How tight what waits binds. Operators between two operands bind by their precedence, from 1 to 12, and a conditional like an assignment; tighter
-- are operators before their operand, whose kinds are 31 to 39, and `new`
abbrev pub prefix_precedence : ℕ
prefix_precedence = 13

abbrev pub new_precedence : ℕ
new_precedence = 14

abbrev pub is_prefix_kind : ℕ → Bool
is_prefix_kind kind = leb 31 kind && leb kind 39

abbrev pub tightness : ℕ → ℕ
tightness kind =
    cond (eqb kind new_word) new_precedence
    (cond (is_prefix_kind kind) prefix_precedence
    (cond (eqb kind question) 2
    (precedence kind)))

-- operators that bind at least as tight are closed
abbrev pub reduce : ℕ → Syntax → List Pending → List Pending → Syntax → Frame
reduce least done starts [] operand = frame done starts [] operand
reduce least done starts (pending class mark left ∷ waiting) operand =
    cond (leb least (tightness class)) (reduce least done starts waiting (node class mark left operand))
    (frame done starts (pending class mark left ∷ waiting) operand)

-- a statement is complete, and so are those that it ends
abbrev pub wrap : List Pending → Syntax → Syntax
wrap [] last = last
wrap (pending kind mark left ∷ starts) last = wrap starts (node kind mark left last)

abbrev pub complete_statement : Syntax → List Pending → Syntax → Frame
complete_statement done starts last = frame (snoc done (wrap starts last)) [] [] nil

abbrev pub operand_of : Frame → Syntax
operand_of (frame done starts waiting operand) = operand

abbrev pub done_of : Frame → Syntax
done_of (frame done starts waiting operand) = done

abbrev pub mark_of : Syntax → ℕ
mark_of nil = 0
mark_of (node kind mark left right) = mark
mark_of (snoc before last) = 0

-- the word of a function or of an `if`, held in place of the operand for its mark
abbrev pub held_word : ℕ → Syntax
held_word mark = node 0 mark nil nil

-- What a token does to the frame. A name that a statement starts with is a label or an operand; a statement that starts with a word waits for its
-- parts, and so does a variable; a value that ends is that of such a statement, or an item of a list.
pub data Effect : Type 0 where
  keep take_name take_member end_expression end_value end_bare end_empty end_variable end_head take_label take_else hold_word : Effect
  take_leaf take_operator take_prefix take_postfix start_statement : ℕ → Effect

abbrev pub await : ℕ → ℕ → Frame → Frame
await class mark (frame done starts waiting operand) = frame done starts (pending class mark operand ∷ waiting) nil

abbrev pub complete_expression : ℕ → Frame → Frame
complete_expression mark (frame done starts waiting operand) = complete_statement done starts (node expression_syntax mark operand nil)

abbrev pub complete_value : Frame → Frame
complete_value (frame done starts waiting operand) = complete_statement done starts operand

-- a return, `continue` or `break` ends with nothing behind its word: the kind of what it is then is the number before
abbrev pub complete_bare : Syntax → List Pending → Frame
complete_bare done [] = complete_statement done [] nil
complete_bare done (pending kind mark left ∷ starts) = complete_statement done starts (node (kind - 1) mark nil nil)

-- a variable that waits is complete, and joins those of the `var` that waits around it
abbrev pub joined : List Pending → Syntax → List Pending
joined [] value = []
joined (variable ∷ []) value = variable ∷ []
joined (pending kind mark left ∷ pending word spot variables ∷ starts) value = pending word spot (snoc variables (node kind mark left value)) ∷ starts

abbrev pub complete_variable : Frame → Frame
complete_variable (frame done starts waiting operand) = frame done (joined starts operand) [] nil

-- what a statement that waits has in its head
abbrev pub headed : Syntax → List Pending → List Pending
headed value [] = []
headed value (pending kind mark left ∷ starts) = pending kind mark value ∷ starts

-- how tight a pending operator must bind to be closed by one of a class: as tight, since they group to the left; an assignment closes
-- those that are binary or tighter, and no other assignment
abbrev pub threshold : ℕ → ℕ
threshold class = cond (is_among assignment_operators class) least_binary (precedence class)

-- the same of a frame
abbrev pub reduced : ℕ → Frame → Frame
reduced least (frame done starts waiting operand) = reduce least done starts waiting operand

-- `++` or `--` behind an operand
abbrev pub postfixed : ℕ → ℕ → Frame → Frame
postfixed kind mark (frame done starts waiting operand) = frame done starts waiting (node kind mark operand nil)

-- a `?` that is answered waits for its last part
abbrev pub answered : ℕ → Syntax → Frame → Frame
answered mark value (frame done starts waiting operand) = frame done starts (pending question mark (snoc operand value) ∷ waiting) nil

-- arguments belong to the innermost `new` that has none, or make a call
abbrev pub called : ℕ → Syntax → Syntax → List Pending → List Pending → Syntax → Frame
called mark value done starts [] operand = frame done starts [] (node call_syntax mark operand value)
called mark value done starts (pending kind word left ∷ waiting) operand =
    cond (eqb kind new_word) (frame done starts waiting (node construct_syntax word operand value))
    (frame done starts (pending kind word left ∷ waiting) (node call_syntax mark operand value))

-- the head of a clause ends
abbrev pub complete_head : Frame → Frame
complete_head (frame done starts waiting operand) = frame done (headed operand starts) [] nil

-- a `for` whose head has `in`
abbrev pub in_headed : Syntax → List Pending → List Pending
in_headed value [] = []
in_headed value (pending kind mark left ∷ starts) = pending for_in_syntax mark value ∷ starts

-- the last of statements
abbrev pub last_of : Syntax → Syntax
last_of nil = nil
last_of (node kind mark left right) = nil
last_of (snoc before last) = last

abbrev pub affect : Effect → ℕ → Frame → Frame
affect keep mark f = f
affect take_name mark (frame done starts waiting operand) = frame done starts waiting (node name mark nil nil)
affect take_member mark (frame done starts waiting operand) = frame done starts waiting (node member_syntax mark operand nil)
affect end_expression mark (frame done starts waiting operand) = complete_expression mark (reduce 0 done starts waiting operand)
affect end_value mark (frame done starts waiting operand) = complete_value (reduce 0 done starts waiting operand)
affect end_bare mark (frame done starts waiting operand) = complete_bare done starts
affect end_empty mark (frame done starts waiting operand) = complete_statement done starts (node empty_syntax mark nil nil)
affect end_variable mark (frame done starts waiting operand) = complete_variable (reduce 0 done starts waiting operand)
affect end_head mark (frame done starts waiting operand) = complete_head (reduce 0 done starts waiting operand)
affect take_label mark (frame done starts waiting operand) = frame done (pending label_syntax (mark_of operand) nil ∷ starts) waiting nil
affect take_else mark (frame done starts waiting operand) = frame nil (pending else_word mark (last_of done) ∷ []) waiting nil
affect hold_word mark (frame done starts waiting operand) = frame done starts waiting (held_word mark)
affect (take_leaf class) mark (frame done starts waiting operand) = frame done starts waiting (node class mark nil nil)
affect (take_operator class) mark (frame done starts waiting operand) = await class mark (reduce (threshold class) done starts waiting operand)
affect (take_prefix kind) mark (frame done starts waiting operand) = frame done starts (pending kind mark nil ∷ waiting) nil
affect (take_postfix kind) mark (frame done starts waiting operand) = postfixed kind mark (reduce new_precedence done starts waiting operand)
affect (start_statement kind) mark (frame done starts waiting operand) = frame done (pending kind mark nil ∷ starts) waiting nil

-- what a group or nest that closes does to the frame around it, with its mark and its value
pub data Closing : Type 0 where
  to_parens to_call to_object to_array to_index to_block to_condition to_head to_for to_for_in to_test to_parameter to_declaration to_function to_statement to_body to_try : Closing

abbrev pub close : Closing → ℕ → Syntax → Frame → Frame
close to_parens mark value (frame done starts waiting operand) = frame done starts waiting (node parenthesised_syntax mark value nil)
close to_call mark value (frame done starts waiting operand) = called mark value done starts waiting operand
close to_object mark value (frame done starts waiting operand) = frame done starts waiting (node object_syntax mark value nil)
close to_array mark value (frame done starts waiting operand) = frame done starts waiting (node array_syntax mark value nil)
close to_index mark value (frame done starts waiting operand) = frame done starts waiting (node index_syntax mark operand value)
close to_block mark value (frame done starts waiting operand) = complete_statement done starts (node block_syntax mark value nil)
close to_condition mark value (frame done starts waiting operand) = frame done (pending if_syntax (mark_of operand) value ∷ starts) waiting nil
close to_head mark value (frame done starts waiting operand) = frame done (headed value starts) waiting nil
close to_for mark value (frame done starts waiting operand) = frame done (headed value starts) waiting nil
close to_for_in mark value (frame done starts waiting operand) = frame done (in_headed value starts) waiting nil
close to_test mark value (frame done starts waiting operand) = frame done starts waiting value
close to_parameter mark value f = f
close to_declaration mark value (frame done starts waiting operand) = complete_statement done starts (node declaration_syntax (mark_of operand) value nil)
close to_function mark value (frame done starts waiting operand) = frame done starts waiting (node function_syntax (mark_of operand) value nil)
close to_statement mark value (frame done starts waiting operand) = complete_statement done starts value
close to_body mark value (frame done starts waiting operand) = frame done (pending do_word mark value ∷ starts) waiting nil
close to_try mark value (frame done starts waiting operand) = complete_statement done starts (node try_word mark value nil)

-- what a group does whose inside turned out to be the head of a `for` with `in`
abbrev pub in_for : Closing → Closing
in_for to_parens = to_parens
in_for to_call = to_call
in_for to_object = to_object
in_for to_array = to_array
in_for to_index = to_index
in_for to_block = to_block
in_for to_condition = to_condition
in_for to_head = to_head
in_for to_for = to_for_in
in_for to_for_in = to_for_in
in_for to_test = to_test
in_for to_parameter = to_parameter
in_for to_declaration = to_declaration
in_for to_function = to_function
in_for to_statement = to_statement
in_for to_body = to_body
in_for to_try = to_try

-- the value of a group or nest that closes: none; an expression; what is done, the last item of a list with it or not; a statement
pub data Value : Type 0 where
  no_value expression_value done_value list_value statement_value : Value

abbrev pub value_of : Value → Frame → Syntax
value_of no_value f = nil
value_of expression_value (frame done starts waiting operand) = operand_of (reduce 0 done starts waiting operand)
value_of done_value f = done_of f
value_of list_value (frame done starts waiting operand) = done_of (complete_value (reduce 0 done starts waiting operand))
value_of statement_value f = last_of (done_of f)

-- a stretch of a level that holds one statement: from `if` to the end of it, the same from its `else` on, and that behind `do`; its frame holds that alone
pub data Nest : Type 0 where
  if_nest else_nest do_nest : Nest

-- where a statement stands: among the statements of a scope, or of a clause of a `switch`, which are a nest; or alone in a nest
pub data Setting : Type 0 where
  among : Scope → Setting
  in_clause : Setting
  in_nest : Nest → Setting

-- where variables stand: in a statement, or in the head of a `for`, the first of them or a later one
pub data Variables : Type 0 where
  in_statement : Setting → Variables
  in_head : Bool → Variables

-- whether a chain may be assigned to, and if so, whether it may also be all that stands before the `in` of a `for`
pub data Target : Type 0 where
  no_target some_target lone_target : Target

-- what ends an expression: the `;` of an expression statement, or of a return or `throw`, in a setting; what ends a variable; in the head of a `for` its
-- first `;`, its second, and the `)` behind its third part or behind what follows `in`; the `:` of a `case`, behind a `default` or not; `)`; `]`; the
-- `:` of a conditional; or what ends an item of a list
pub data Ending : Type 0 where
  by_statement by_return : Setting → Ending
  by_variable : Variables → Ending
  by_start by_test by_step by_object : Ending
  by_case : Bool → Ending
  by_paren by_bracket by_colon : Ending
  by_item : Items → Ending

-- what a function is: a declaration, or an operand of an expression that may yet be assigned to or not
pub data Role : Type 0 where
  declared : Role
  operand_in : Ending → Target → Role

-- Where the machine stands. The Boolean of a statement or a parameter says whether one must come, that of a clause whether a `default` has come. Behind
-- `new` no operator may come; behind `++` or `--` no more of the chain. Behind the statement of a `do` its `while` is due, and then its test.
pub data Control : Type 0 where
  statement_due : Bool → Setting → Control
  statement_done : Nest → Control
  name_first return_first throw_first jump_first head_first for_first switch_first switch_past body_done test_first semicolon_due : Setting → Control
  variable_due variable_named : Variables → Control
  start_due test_due step_due default_first : Control
  clause_due : Bool → Control
  try_first try_done catch_first catch_due catch_named catch_past catch_done finally_first try_ended : Control
  operand_due member_due operand_done dot_last : Ending → Target → Control
  postfix_done : Ending → Control
  function_first function_named parameter_past : Role → Control
  item_due : Items → Control
  parameter_due : Bool → Control
  if_first property_named parameter_named finished : Control

-- behind a statement: another may come, or its nest is done
abbrev pub behind_statement : Setting → Control
behind_statement (among scope) = statement_due false (among scope)
behind_statement in_clause = statement_due false in_clause
behind_statement (in_nest nest) = statement_done nest

-- what to do: nothing more; go on; open a group or a nest, with the control for its inside, what the token does there and to what stands around it, and
-- the control behind it; close the
-- group; leave the nest before the token, which is for what stands around it; ask, at a `?` of an expression with an ending, and be answered; close the head of a `for` with `in`; or end
pub data Action : Type 0 where
  fail : Action
  goto : Control → Effect → Action
  push : Control → Control → Closing → Action
  enter : Control → Effect → Effect → Control → Closing → Action
  pop leave : Value → Action
  ask : Ending → Action
  turn pop_in finish : Action

-- an entry of a row: the action for a class, or for any that no entry before it names
pub data Entry : Type 0 where
  on : ℕ → Action → Entry
  otherwise : Action → Entry

abbrev pub look : ℕ → List Entry → Action
look class [] = fail
look class (on x action ∷ rest) = cond (eqb class x) action (look class rest)
look class (otherwise action ∷ rest) = action

-- a name, or a reserved word that is taken as one
abbrev pub names : Action → List Entry → List Entry
names action rest = on name action ∷ on word_name action ∷ rest

-- an entry for each class of a list
abbrev pub for_each : (ℕ → Action) → List ℕ → List Entry → List Entry
for_each action [] rest = rest
for_each action (class ∷ classes) rest = on class (action class) ∷ for_each action classes rest

-- the leaves but for names, which may be labels
abbrev pub values : List ℕ
values = number ∷ string ∷ pattern ∷ this_word ∷ null_word ∷ true_word ∷ false_word ∷ []

-- what an operand starts with, wherever one is due: behind `new` and at the beginning of a statement too
abbrev pub primaries : Ending → Target → List Entry → List Entry
primaries ending target rest =
    for_each (λ class. goto (operand_done ending target) (take_leaf class)) values
    (on open_paren (push (operand_due by_paren some_target) (operand_done ending target) to_parens)
    ∷ on open_bracket (push (item_due array_elements) (operand_done ending target) to_array)
    ∷ on new_word (goto (member_due ending target) (take_prefix new_word))
    ∷ rest)

-- the same, or an operator before an operand
abbrev pub beginnings : Ending → Target → List Entry → List Entry
beginnings ending target rest =
    for_each (λ class. goto (operand_due ending no_target) (take_prefix (prefix_kind class))) prefix_operators (primaries ending target rest)

-- where no statement may start: names, objects and functions too
abbrev pub operand_begins : Ending → Target → List Entry → List Entry
operand_begins ending target rest =
    on name (goto (operand_done ending target) (take_leaf name))
    ∷ on open_brace (push (item_due object_properties) (operand_done ending target) to_object)
    ∷ on function_word (goto (function_first (operand_in ending target)) hold_word)
    ∷ rest

abbrev pub operand : Ending → Target → List Entry
operand ending target = operand_begins ending target (beginnings ending target [])

abbrev pub member : Ending → Target → List Entry
member ending target = operand_begins ending target (primaries ending target [])

-- what a place that needs no statement takes besides
abbrev pub no_statement : Bool → Setting → List Entry
no_statement true setting = []
no_statement false (among body) =
    on function_word (goto (function_first declared) hold_word) ∷ on close_brace (pop done_value) ∷ on end_of_text finish ∷ []
no_statement false (among block) = on close_brace (pop done_value) ∷ []
no_statement false in_clause = on case_word (leave done_value) ∷ on default_word (leave done_value) ∷ on close_brace (leave done_value) ∷ []
no_statement false (in_nest nest) = []

-- the class of the closer of a list, and where the machine stands behind a `,` in it
abbrev pub list_closer : Items → ℕ
list_closer call_arguments = close_paren
list_closer array_elements = close_bracket
list_closer object_properties = close_brace

abbrev pub behind_comma : Items → Control
behind_comma call_arguments = operand_due (by_item call_arguments) some_target
behind_comma array_elements = item_due array_elements
behind_comma object_properties = item_due object_properties

-- the comma operator
abbrev pub comma_action : Ending → Action
comma_action ending = goto (operand_due ending some_target) (take_operator comma)

-- behind the variables, and behind the `,` of one
abbrev pub behind_variables : Variables → Control
behind_variables (in_statement setting) = behind_statement setting
behind_variables (in_head first) = test_due

abbrev pub later_variables : Variables → Variables
later_variables (in_statement setting) = in_statement setting
later_variables (in_head first) = in_head false

-- the `in` of a `for`, behind one variable, or a chain that is all there is
abbrev pub in_entry : Bool → List Entry → List Entry
in_entry true rest = on in_word (goto (operand_due by_object some_target) end_value) ∷ rest
in_entry false rest = rest

abbrev pub is_first : Variables → Bool
is_first (in_statement setting) = false
is_first (in_head first) = first

abbrev pub ending_row : Ending → List Entry
ending_row (by_statement setting) = on semicolon (goto (behind_statement setting) end_expression) ∷ on comma (comma_action (by_statement setting)) ∷ []
ending_row (by_return setting) = on semicolon (goto (behind_statement setting) end_value) ∷ on comma (comma_action (by_return setting)) ∷ []
ending_row (by_variable place) =
    on semicolon (goto (behind_variables place) end_value) ∷ on comma (goto (variable_due (later_variables place)) end_variable) ∷ in_entry (is_first place) []
ending_row by_start = on semicolon (goto test_due end_value) ∷ on comma (comma_action by_start) ∷ []
ending_row by_test = on semicolon (goto step_due end_value) ∷ on comma (comma_action by_test) ∷ []
ending_row by_step = on close_paren (pop list_value) ∷ on comma (comma_action by_step) ∷ []
ending_row by_object = on close_paren pop_in ∷ on comma (comma_action by_object) ∷ []
ending_row (by_case seen) =
    on colon (enter (statement_due false in_clause) keep end_head (clause_due seen) to_statement) ∷ on comma (comma_action (by_case seen)) ∷ []
ending_row by_paren = on close_paren (pop expression_value) ∷ on comma (comma_action by_paren) ∷ []
ending_row by_bracket = on close_bracket (pop expression_value) ∷ on comma (comma_action by_bracket) ∷ []
ending_row by_colon = on colon turn ∷ []
ending_row (by_item items) = on comma (goto (behind_comma items) end_value) ∷ on (list_closer items) (pop list_value) ∷ []

-- whether `in` is an operator
abbrev pub allows_in : Ending → Bool
allows_in (by_statement setting) = true
allows_in (by_return setting) = true
allows_in (by_variable (in_statement setting)) = true
allows_in (by_variable (in_head first)) = false
allows_in by_start = false
allows_in by_test = true
allows_in by_step = true
allows_in by_object = true
allows_in (by_case seen) = true
allows_in by_paren = true
allows_in by_bracket = true
allows_in by_colon = true
allows_in (by_item items) = true

-- what may follow a whole Unary: binary operators, `?`, and what ends the expression
abbrev pub after_unary : Ending → List Entry
after_unary ending =
    for_each (λ class. goto (operand_due ending no_target) (take_operator class)) (binary_operators_by (allows_in ending)) (on question (ask ending) ∷ ending_row ending)

-- what a chain that may be assigned to takes besides
abbrev pub is_target : Target → Bool
is_target no_target = false
is_target some_target = true
is_target lone_target = true

abbrev assignments : Ending → Bool → List Entry → List Entry
assignments ending true rest = for_each (λ class. goto (operand_due ending some_target) (take_operator class)) assignment_operators rest
assignments ending false rest = rest

abbrev pub assignment_row : Ending → Target → List Entry → List Entry
assignment_row ending target rest = assignments ending (is_target target) rest

-- whether a chain is all that stands before the `in` of a `for`
abbrev is_start : Ending → Bool
is_start (by_statement setting) = false
is_start (by_return setting) = false
is_start (by_variable place) = false
is_start by_start = true
is_start by_test = false
is_start by_step = false
is_start by_object = false
is_start (by_case seen) = false
is_start by_paren = false
is_start by_bracket = false
is_start by_colon = false
is_start (by_item items) = false

abbrev pub takes_in : Ending → Target → Bool
takes_in ending no_target = false
takes_in ending some_target = false
takes_in ending lone_target = is_start ending

-- `++` and `--` want no line end before them
abbrev pub postfix_row : Ending → Bool → List Entry → List Entry
postfix_row ending true rest = rest
postfix_row ending false rest = for_each (λ class. goto (postfix_done ending) (take_postfix (postfix_kind class))) postfix_operators rest

abbrev pub after_operand : Ending → Target → Bool → List Entry
after_operand ending target newline =
    on dot (goto (dot_last ending target) keep)
    ∷ on open_paren (push (item_due call_arguments) (operand_done ending target) to_call)
    ∷ on open_bracket (push (operand_due by_bracket some_target) (operand_done ending target) to_index)
    ∷ in_entry (takes_in ending target) (assignment_row ending target (postfix_row ending newline (after_unary ending)))

abbrev pub after_parameter : Role → Entry
after_parameter declared = on open_brace (push (statement_due false (among body)) (statement_due false (among body)) to_declaration)
after_parameter (operand_in ending target) = on open_brace (push (statement_due false (among body)) (operand_done ending target) to_function)

-- a function in an expression needs no name
abbrev pub unnamed : Role → List Entry
unnamed declared = []
unnamed (operand_in ending target) = on open_paren (push (parameter_due false) (parameter_past (operand_in ending target)) to_parameter) ∷ []

-- the items of a list: each takes an item's beginning, or the closer
abbrev pub item_row : Items → List Entry
item_row call_arguments = on close_paren (pop done_value) ∷ operand (by_item call_arguments) some_target
item_row array_elements = on comma (goto (item_due array_elements) keep) ∷ on close_bracket (pop done_value) ∷ operand (by_item array_elements) some_target
item_row object_properties = names (goto property_named keep) (on close_brace (pop done_value) ∷ [])

-- what a place that needs no parameter takes besides
abbrev pub no_parameter : Bool → List Entry
no_parameter true = []
no_parameter false = on close_paren (pop no_value) ∷ []

abbrev pub unless_line : Bool → List Entry → List Entry
unless_line true row = []
unless_line false row = row

-- the words whose head is an expression and whose body a statement, but for `if`, and those that a label may follow
abbrev pub head_words : List ℕ
head_words = while_word ∷ with_word ∷ []

abbrev pub jump_words : List ℕ
jump_words = continue_word ∷ break_word ∷ []

-- the statements that start with a word, but for `if` and `return`, and the empty one
abbrev pub word_row : Setting → List Entry → List Entry
word_row setting rest =
    on semicolon (goto (behind_statement setting) end_empty)
    ∷ on var_word (goto (variable_due (in_statement setting)) (start_statement var_word))
    ∷ on do_word (enter (statement_due true (in_nest do_nest)) keep keep (body_done setting) to_body)
    ∷ on for_word (goto (for_first setting) (start_statement for_word))
    ∷ on switch_word (goto (switch_first setting) (start_statement switch_word))
    ∷ on throw_word (goto (throw_first setting) (start_statement throw_word))
    ∷ on try_word (enter try_first keep keep (behind_statement setting) to_try)
    ∷ on debugger_word (goto (semicolon_due setting) (start_statement debugger_word))
    ∷ for_each (λ class. goto (head_first setting) (start_statement class)) head_words
    (for_each (λ class. goto (jump_first setting) (start_statement class)) jump_words
    rest)

-- at most one `default`
abbrev pub default_row : Bool → List Entry
default_row true = []
default_row false = on default_word (goto default_first (start_statement default_word)) ∷ []

-- the table: the row of a control, by whether a line end lies before the token
abbrev pub row : Control → Bool → List Entry
row (statement_due must setting) newline =
    on open_brace (push (statement_due false (among block)) (behind_statement setting) to_block)
    ∷ on if_word (enter if_first hold_word keep (behind_statement setting) to_statement)
    ∷ on return_word (goto (return_first setting) (start_statement full_return_syntax))
    ∷ on name (goto (name_first setting) take_name)
    ∷ word_row setting (beginnings (by_statement setting) some_target (no_statement must setting))
row (statement_done if_nest) newline = on else_word (goto (statement_due true (in_nest else_nest)) take_else) ∷ otherwise (leave statement_value) ∷ []
row (statement_done else_nest) newline = otherwise (leave statement_value) ∷ []
row (statement_done do_nest) newline = otherwise (leave statement_value) ∷ []
row (name_first setting) newline = on colon (goto (statement_due true setting) take_label) ∷ after_operand (by_statement setting) some_target newline
row (return_first setting) newline = on semicolon (goto (behind_statement setting) end_bare) ∷ unless_line newline (operand (by_return setting) some_target)
row (throw_first setting) newline = unless_line newline (operand (by_return setting) some_target)
row (jump_first setting) newline =
    on semicolon (goto (behind_statement setting) end_bare) ∷ unless_line newline (on name (goto (semicolon_due setting) keep) ∷ [])
row (head_first setting) newline = on open_paren (push (operand_due by_paren some_target) (statement_due true setting) to_head) ∷ []
row (for_first setting) newline = on open_paren (push start_due (statement_due true setting) to_for) ∷ []
row start_due newline =
    on semicolon (goto test_due end_value) ∷ on var_word (goto (variable_due (in_head true)) (start_statement var_word)) ∷ operand by_start lone_target
row test_due newline = on semicolon (goto step_due end_value) ∷ operand by_test some_target
row step_due newline = on close_paren (pop list_value) ∷ operand by_step some_target
row (switch_first setting) newline = on open_paren (push (operand_due by_paren some_target) (switch_past setting) to_head) ∷ []
row (switch_past setting) newline = on open_brace (push (clause_due false) (behind_statement setting) to_statement) ∷ []
row (clause_due seen) newline =
    on case_word (goto (operand_due (by_case seen) some_target) (start_statement case_word)) ∷ on close_brace (pop done_value) ∷ default_row seen
row default_first newline = on colon (enter (statement_due false in_clause) keep end_head (clause_due true) to_statement) ∷ []
row try_first newline = on open_brace (push (statement_due false (among block)) try_done to_block) ∷ []
row try_done newline = on catch_word (goto catch_first (start_statement catch_word)) ∷ on finally_word (goto finally_first (start_statement finally_word)) ∷ []
row catch_first newline = on open_paren (push catch_due catch_past to_parameter) ∷ []
row catch_due newline = on name (goto catch_named keep) ∷ []
row catch_named newline = on close_paren (pop no_value) ∷ []
row catch_past newline = on open_brace (push (statement_due false (among block)) catch_done to_block) ∷ []
row catch_done newline = on finally_word (goto finally_first (start_statement finally_word)) ∷ otherwise (leave done_value) ∷ []
row finally_first newline = on open_brace (push (statement_due false (among block)) try_ended to_block) ∷ []
row try_ended newline = otherwise (leave done_value) ∷ []
row (variable_due place) newline = on name (goto (variable_named place) (start_statement variable_syntax)) ∷ []
row (variable_named place) newline = on assign (goto (operand_due (by_variable place) some_target) keep) ∷ ending_row (by_variable place)
row (body_done setting) newline = on while_word (goto (test_first setting) keep) ∷ []
row (test_first setting) newline = on open_paren (push (operand_due by_paren some_target) (semicolon_due setting) to_test) ∷ []
row (semicolon_due setting) newline = on semicolon (goto (behind_statement setting) end_value) ∷ []
row if_first newline = on open_paren (push (operand_due by_paren some_target) (statement_due true (in_nest if_nest)) to_condition) ∷ []
row (operand_due ending target) newline = operand ending target
row (member_due ending target) newline = member ending target
row (operand_done ending target) newline = after_operand ending target newline
row (postfix_done ending) newline = after_unary ending
row (dot_last ending target) newline = names (goto (operand_done ending target) take_member) []
row (function_first role) newline = on name (goto (function_named role) keep) ∷ unnamed role
row (function_named role) newline = on open_paren (push (parameter_due false) (parameter_past role) to_parameter) ∷ []
row (parameter_past role) newline = after_parameter role ∷ []
row (item_due items) newline = item_row items
row property_named newline = on colon (goto (operand_due (by_item object_properties) some_target) keep) ∷ []
row (parameter_due must) newline = on name (goto parameter_named keep) ∷ no_parameter must
row parameter_named newline = on comma (goto (parameter_due true) keep) ∷ on close_paren (pop no_value) ∷ []
row finished newline = []

-- a group or a nest that is open: the control behind it, what it does when it closes, its mark, and the frame around it; or a `?` that is not
-- answered: the ending of its expression, its mark, and the frame around it
pub data Open : Type 0 where
  grouped nested : Control → Closing → ℕ → Frame → Open
  asking : Ending → ℕ → Frame → Open

-- the machine's state: dead, by the token at a place; or a control with the frame of the innermost level or nest, and what is open
pub data State : Type 0 where
  dead : ℕ → State
  live : Control → Frame → List Open → State

abbrev pub pop_to : ℕ → Syntax → List Open → State
pop_to place value [] = dead place
pop_to place value (grouped behind closing mark f ∷ around) = live behind (close closing mark value f) around
pop_to place value (nested behind closing mark f ∷ around) = dead place
pop_to place value (asking ending mark f ∷ around) = dead place

-- the innermost group turned out to be the head of a `for` with `in`
abbrev pub head_in : List Open → List Open
head_in [] = []
head_in (grouped behind closing mark f ∷ around) = grouped behind (in_for closing) mark f ∷ around
head_in (nested behind closing mark f ∷ around) = nested behind closing mark f ∷ around
head_in (asking ending mark f ∷ around) = asking ending mark f ∷ around

-- a `:` answers the innermost `?`
abbrev pub turn_to : ℕ → Syntax → List Open → State
turn_to place value [] = dead place
turn_to place value (grouped behind closing mark f ∷ around) = dead place
turn_to place value (nested behind closing mark f ∷ around) = dead place
turn_to place value (asking ending mark f ∷ around) = live (operand_due ending some_target) (answered mark value f) around

abbrev pub finish_in : ℕ → Frame → List Open → State
finish_in place f [] = live finished f []
finish_in place f (h ∷ around) = dead place

-- what an action does, and what is done to leave a nest with a value
abbrev pub act_by : (Syntax → State) → Action → Spot → Frame → List Open → State
act_by out fail spot f around = dead spot.first
act_by out (goto control effect) spot f around = live control (affect effect spot.mark f) around
act_by out (push inside behind closing) spot f around = live inside empty (grouped behind closing spot.mark f ∷ around)
act_by out (enter inside effect outer behind closing) spot f around =
    live inside (affect effect spot.mark empty) (nested behind closing spot.mark (affect outer spot.mark f) ∷ around)
act_by out (pop value) spot f around = pop_to spot.first (value_of value f) around
act_by out (leave value) spot f around = out (value_of value f)
act_by out (ask ending) spot f around = live (operand_due by_colon some_target) empty (asking ending spot.mark (reduced least_binary f) ∷ around)
act_by out pop_in spot f around = pop_to spot.first (value_of list_value f) (head_in around)
act_by out turn spot f around = turn_to spot.first (value_of expression_value f) around
act_by out finish spot f around = finish_in spot.first f around

-- a nest is left with a value: the control behind it takes the token
abbrev pub leave_to : ℕ → Spot → List Open → Syntax → State
leave_to class spot [] value = dead spot.first
leave_to class spot (grouped behind closing opened f ∷ around) value = dead spot.first
leave_to class spot (asking ending opened f ∷ around) value = dead spot.first
leave_to class spot (nested behind closing opened f ∷ around) value =
    act_by (leave_to class spot around) (look class (row behind spot.newline)) spot (close closing opened value f) around

abbrev pub act : Action → ℕ → Spot → Frame → List Open → State
act action class spot f around = act_by (leave_to class spot around) action spot f around

abbrev pub consume : State → Token → State
consume (dead place) t = dead place
consume (live control f around) (token class spot) = act (look class (row control spot.newline)) class spot f around

abbrev pub run : State → List Token → State
run state [] = state
run state (t ∷ ts) = run (consume state t) ts

abbrev pub start : State
start = live (statement_due false (among body)) empty []

-- whether a `?` of its expression is open where the machine stands: the next `:` answers it
abbrev is_asked : Ending → Bool
is_asked (by_statement setting) = false
is_asked (by_return setting) = false
is_asked (by_variable place) = false
is_asked by_start = false
is_asked by_test = false
is_asked by_step = false
is_asked by_object = false
is_asked (by_case seen) = false
is_asked by_paren = false
is_asked by_bracket = false
is_asked by_colon = true
is_asked (by_item items) = false

abbrev asked_in : Role → Bool
asked_in declared = false
asked_in (operand_in ending _) = is_asked ending

abbrev pub asks : Control → Bool
asks (statement_due must setting) = false
asks (statement_done nest) = false
asks (name_first setting) = false
asks (return_first setting) = false
asks (throw_first setting) = false
asks (jump_first setting) = false
asks (head_first setting) = false
asks (variable_due place) = false
asks (variable_named place) = false
asks (for_first setting) = false
asks (switch_first setting) = false
asks (switch_past setting) = false
asks (clause_due seen) = false
asks start_due = false
asks test_due = false
asks step_due = false
asks default_first = false
asks try_first = false
asks try_done = false
asks catch_first = false
asks catch_due = false
asks catch_named = false
asks catch_past = false
asks catch_done = false
asks finally_first = false
asks try_ended = false
asks (body_done setting) = false
asks (test_first setting) = false
asks (semicolon_due setting) = false
asks if_first = false
asks (operand_due ending _) = is_asked ending
asks (member_due ending _) = is_asked ending
asks (operand_done ending _) = is_asked ending
asks (postfix_done ending) = is_asked ending
asks (dot_last ending _) = is_asked ending
asks (function_first role) = asked_in role
asks (function_named role) = asked_in role
asks (parameter_past role) = asked_in role
asks (item_due items) = false
asks property_named = false
asks (parameter_due must) = false
asks parameter_named = false
asks finished = false

abbrev pub asks_in : State → Bool
asks_in (dead place) = false
asks_in (live control f around) = asks control
