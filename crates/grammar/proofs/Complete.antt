-- What has a derivation is taken by the machine, which builds its syntax; so there is one syntax tree.
use mathlib.Core.Path.{◌≡◌, refl, sym, ◌∙◌, ap, subst}
use mathlib.Core.Bool.{Bool, true, false, cond}
use mathlib.Core.List.{List, [], ◌∷◌, ◌++◌}
use Prim.Native.Nat.{ℕ, ◌≤◌, ◌<◌, ◌+◌}
use native.Mathlib.Omega.{arith}
use lib.Dec.{T, eqb, eqb→eq}
use Rattle.machine.specs.Tokens.{Token, token, Spot, new_word, question, semicolon, close_paren, comma, var_word, else_word, while_word, continue_word, break_word, with_word, throw_word, case_word, default_word, try_word, catch_word, finally_word, for_word, open_brace, close_brace}
use Rattle.machine.specs.Syntax.{Syntax, nil, node, snoc, call_syntax, construct_syntax, full_return_syntax, label_syntax, if_syntax, function_syntax, declaration_syntax, variable_syntax, for_in_syntax}
use Rattle.machine.specs.Operators.{assignment_precedence}
use Rattle.grammar.specs.Grammar.{
  Leaf,
  identifier,
  reserved_word,
  precedence,
  least_binary,
  prefix_operators,
  prefix_kind,
  is_among,
  no_else,
  no_finally,
  binary_operators_by,
  while-word,
  with-word,
  continue-word,
  break-word,
  Scope,
  body,
  block,
  Items,
  call_arguments,
  array_elements,
  object_properties,
  may_end_in_comma,
  Names,
  one_name,
  more_names,
  Parameters,
  no_parameters,
  some_parameters,
  Form,
  expression_form,
  assign_form,
  binary_form,
  unary_form,
  target_form,
  chain_form,
  function_form,
  statement_form,
  block_form,
  catch_form,
  finally_form,
  clauses_form,
  variables_form,
  variable_form,
  optional_form,
  statements_form,
  items_form,
  list_form,
  Derives,
  Function,
  chain_leaf,
  chain_array,
  chain_object,
  chain_parens,
  chain_function,
  chain_unnamed,
  chain_index,
  chain_member,
  chain_call,
  chain_new,
  no_items,
  add_item,
  add_hole,
  list_empty,
  list_items,
  list_last,
  expression_assign,
  expression_comma,
  assign_binary,
  assign_to,
  assign_conditional,
  binary_unary,
  binary_operator,
  unary_target,
  unary_prefix,
  unary_postfix,
  target_chain,
  target_new,
  function_all,
  block_all,
  statement_block,
  statement_expression,
  statement_var,
  no_variables,
  add_variable,
  variable_bare,
  variable_initialised,
  statement_empty,
  statement_if,
  statement_else,
  statement_do,
  statement_head,
  statement_for,
  statement_for_var,
  left_out,
  not_left_out,
  statement_for_in,
  statement_for_var_in,
  statement_bare_jump,
  statement_jump,
  statement_bare_return,
  statement_full_return,
  statement_switch,
  no_clauses,
  add_case,
  add_default,
  statement_throw,
  statement_try,
  statement_try_finally,
  statement_try_all,
  catch_all,
  finally_all,
  statement_debugger,
  statement_label,
  no_statements,
  add_statement,
  add_declaration,
  Program,
}
use Rattle.machine.specs.Machinery.Machine.{end_of_text, Pending, pending, Frame, frame, empty, prefix_precedence, new_precedence, tightness, complete_statement, called, mark_of, held_word, to_parameter, to_statement, to_body, to_block, to_try, take_else, start_statement, statement_value, done_value, Target, no_target, some_target, lone_target, is_target, allows_in, Ending, by_statement, by_return, by_variable, by_start, by_object, by_case, by_paren, by_bracket, by_colon, by_item, Role, declared, operand_in, Nest, if_nest, else_nest, do_nest, Setting, among, in_clause, in_nest, Variables, in_statement, in_head, Control, statement_due, statement_done, behind_statement, clause_due, try_first, try_done, catch_past, catch_done, finally_first, try_ended, variable_due, body_done, operand_due, operand_done, function_first, function_named, item_due, parameter_due, parameter_named, parameter_past, Closing, close, list_closer, finished, look, row, Action, goto, leave, otherwise, Open, grouped, nested, asking, State, dead, live, act, consume, run, start}
use Rattle.machine.proofs.Ran.{ran, ran_is_run, anywhere}
use Rattle.grammar.proofs.TableLaws.{look_past, holds_at, binary_by, binary_tightness, binary_under_prefix, assignment_tightness, prefix_tightness}
use Rattle.grammar.proofs.ReduceLaws.{Looser, looser_up}
use Rattle.grammar.proofs.Beginnings.{no_colon, Sees, widened, target_begins, assign_begins, expression_begins, between_items, between_variables, HeadPart, start_part, test_part, step_part, look_leaf, look_prefix, expression_is_taken, target_is_taken, value_is_returned, value_is_thrown, label_is_taken, item_is_taken, part_is_taken}
use Rattle.grammar.proofs.Following.{past_operand, takes_comma}
use Rattle.grammar.proofs.Passing.{
  Reached,
  Passed,
  by-paren,
  by-bracket,
  group_passed,
  item_passed,
  ListPassed,
  list_passed,
  last_passed,
  VariablePassed,
  bare_passed,
  initialised_passed,
  variable_passed,
  variables_passed,
  only_passed,
  later_between,
  between_allows,
  PartPassed,
  none_passed,
  part_passed,
  start_passed,
  test_passed,
  target_passed,
  step_passed,
  object_passed,
  case_passed,
  expression_passed,
  return_passed,
  passed_down,
  operand_reached,
  postfix_passed,
  awaited_reached,
  awaited_passed,
  binary_taken,
  assignment_taken,
  question_taken,
  answer_taken,
  comma_taken,
}

-- behind a function: the control, and the frame
abbrev pub behind_function : Role → Control
behind_function declared = statement_due false (among body)
behind_function (operand_in ending target) = operand_done ending target

abbrev with_function : Role → Syntax → Syntax → List Pending → List Pending → Syntax → Frame
with_function declared inside done starts waiting word = complete_statement done starts (node declaration_syntax (mark_of word) inside nil)
with_function (operand_in ending _) inside done starts waiting word = frame done starts waiting (node function_syntax (mark_of word) inside nil)

leaf_taken : {class : ℕ} (stop spot : Spot) (after : List Token) (ending : Ending) (target : Target) (done : Syntax) (starts waiting : List Pending)
    (operand : Syntax) (around : List Open) → Leaf class
    → ran stop (live (operand_due ending target) (frame done starts waiting operand) around) (token class spot ∷ after)
    ≡ ran stop (live (operand_done ending target) (frame done starts waiting (node class spot.mark nil nil)) around) after
leaf_taken {class} stop spot after ending target done starts waiting operand around leaf =
    ap (λ (z : Action). ran stop (act z class spot (frame done starts waiting operand) around) after) (look_leaf ending target leaf)

-- an operator before an operand waits
prefix_taken : (stop : Spot) (class : ℕ) (sign : Spot) (middle : List Token) (ending : Ending) (target : Target) (done : Syntax) (starts waiting : List Pending)
    (operand : Syntax) (around : List Open) → T (is_among prefix_operators class)
    → ran stop (live (operand_due ending target) (frame done starts waiting operand) around) (token class sign ∷ middle)
    ≡ ran stop (live (operand_due ending no_target) (frame done starts (pending (prefix_kind class) sign.mark nil ∷ waiting) nil) around) middle
prefix_taken stop class sign middle ending target done starts waiting operand around op =
    ap (λ (z : Action). ran stop (act z class sign (frame done starts waiting operand) around) middle) (look_prefix ending target class op)

-- where no `new` waits, arguments make a call; a Chain without calls may stand behind one
abbrev MayCall : Bool → List Pending → Type 0
MayCall true waiting = Looser new_precedence waiting
MayCall false waiting = Unit {0}

call_made : (mark : ℕ) (value done : Syntax) (starts waiting : List Pending) (operand : Syntax) → Looser new_precedence waiting
    → called mark value done starts waiting operand ≡ frame done starts waiting (node call_syntax mark operand value)
call_made mark value done starts [] operand loose = refl
call_made mark value done starts (pending kind word left ∷ waiting) operand loose = go (eqb kind new_word) (λ t. t)
  where
    not_new : tightness new_word < new_precedence → ⊥
    not_new loose = omega arith

    go : (b : Bool) → (T b → T (eqb kind new_word))
        → cond b (frame done starts waiting (node construct_syntax word operand value))
        (frame done starts (pending kind word left ∷ waiting) (node call_syntax mark operand value))
        ≡ frame done starts (pending kind word left ∷ waiting) (node call_syntax mark operand value)
    go true same = absurd (not_new (subst (λ (k : ℕ). tightness k < new_precedence) (eqb→eq kind new_word (same tt)) loose))
    go false same = refl

ran_sees : (stop : Spot) → Sees (ran stop)
ran_sees stop = record { by_take = λ state other t ts asked same. ap (λ (s : State). ran stop s ts) same; past_other = λ state class spot ts other. refl }

-- a nest that is complete is left, whatever comes, but that of an `if` by an `else`
abbrev left_before : Nest → List Token → Bool
left_before if_nest after = no_else after
left_before else_nest after = true
left_before do_nest after = true

nest_left : (nest : Nest) (stop : Spot) (setting : Setting) (value : Syntax) (mark : ℕ) (done : Syntax) (starts : List Pending) (around : List Open)
    (after : List Token) → T (left_before nest after)
    → ran stop (live (statement_done nest) (frame (snoc nil value) [] [] nil)
    (nested (behind_statement setting) to_statement mark (frame done starts [] nil) ∷ around)) after
    ≡ ran stop (live (behind_statement setting) (complete_statement done starts value) around) after
nest_left if_nest stop setting value mark done starts around [] none = refl
nest_left if_nest stop setting value mark done starts around (token class spot ∷ after) none =
    let outside = nested (behind_statement setting) to_statement mark (frame done starts [] nil) ∷ around in
    ap (λ (z : Action). ran stop (act z class spot (frame (snoc nil value) [] [] nil) outside) after)
    (look_past class else_word (goto (statement_due true (in_nest else_nest)) take_else) (otherwise (leave statement_value) ∷ []) none)
nest_left else_nest stop setting value mark done starts around [] none = refl
nest_left else_nest stop setting value mark done starts around (token class spot ∷ after) none = refl
nest_left do_nest stop setting value mark done starts around [] none = refl
nest_left do_nest stop setting value mark done starts around (token class spot ∷ after) none = refl

-- `{` opens the block of a statement, or of a `try`: where it is due, and where the machine stands behind it
data BlockAt : Control → Control → Type 0 where
  in-statement : {must : Bool} {setting : Setting} → BlockAt (statement_due must setting) (behind_statement setting)
  in_try : BlockAt try_first try_done
  in_catch : BlockAt catch_past catch_done
  in_finally : BlockAt finally_first try_ended

block_opened : {control behind : Control} (stop opener : Spot) (f : Frame) (around : List Open) (inside : List Token) → BlockAt control behind
    → ran stop (live control f around) (token open_brace opener ∷ inside)
    ≡ ran stop (live (statement_due false (among block)) empty (grouped behind to_block opener.mark f ∷ around)) inside
block_opened stop opener f around inside in-statement = refl
block_opened stop opener f around inside in_try = refl
block_opened stop opener f around inside in_catch = refl
block_opened stop opener f around inside in_finally = refl

-- where `finally` may come
data FinallyAt : Control → Type 0 where
  behind_try : FinallyAt try_done
  behind_catch : FinallyAt catch_done

finally_opened : {control : Control} (stop word : Spot) (done : Syntax) (around : List Open) (inside : List Token) → FinallyAt control
    → ran stop (live control (frame done [] [] nil) around) (token finally_word word ∷ inside)
    ≡ ran stop (live finally_first (frame done (pending finally_word word.mark nil ∷ []) [] nil) around) inside
finally_opened stop word done around inside behind_try = refl
finally_opened stop word done around inside behind_catch = refl

-- a `try` that is complete is left, but behind its `catch` not by a `finally`
data TryLeft : Control → List Token → Type 0 where
  past_catch : {after : List Token} → T (no_finally after) → TryLeft catch_done after
  past_finally : {after : List Token} → TryLeft try_ended after

try_left : {control : Control} (stop : Spot) (setting : Setting) (value : Syntax) (mark : ℕ) (done : Syntax) (starts : List Pending) (around : List Open)
    (after : List Token) → TryLeft control after
    → ran stop (live control (frame value [] [] nil) (nested (behind_statement setting) to_try mark (frame done starts [] nil) ∷ around)) after
    ≡ ran stop (live (behind_statement setting) (complete_statement done starts (node try_word mark value nil)) around) after
try_left stop setting value mark done starts around [] (past_catch none) = refl
try_left stop setting value mark done starts around (token class spot ∷ after) (past_catch none) =
    let outside = nested (behind_statement setting) to_try mark (frame done starts [] nil) ∷ around in
    ap (λ (z : Action). ran stop (act z class spot (frame value [] [] nil) outside) after)
    (look_past class finally_word (goto finally_first (start_statement finally_word)) (otherwise (leave done_value) ∷ []) none)
try_left stop setting value mark done starts around [] past_finally = refl
try_left stop setting value mark done starts around (token class spot ∷ after) past_finally = refl

-- the statements of a scope stand on a level of their own, and those of a clause in a nest
data StatementsAt : Scope → Setting → Type 0 where
  on_level : {scope : Scope} → StatementsAt scope (among scope)
  in-clause : StatementsAt block in_clause

another_due : {scope : Scope} {setting : Setting} → StatementsAt scope setting → behind_statement setting ≡ statement_due false setting
another_due on_level = refl
another_due in-clause = refl

in_body : {setting : Setting} → StatementsAt body setting → setting ≡ among body
in_body on_level = refl

-- a clause ends before another, and with the `switch`
abbrev ends_clause : List Token → Bool
ends_clause [] = false
ends_clause (token class spot ∷ rest) = is_among (case_word ∷ default_word ∷ close_brace ∷ []) class

clause_left : (stop : Spot) (seen : Bool) (kind mark opened : ℕ) (head value done : Syntax) (around : List Open) (after : List Token) → T (ends_clause after)
    → ran stop (live (statement_due false in_clause) (frame value [] [] nil)
    (nested (clause_due seen) to_statement opened (frame done (pending kind mark head ∷ []) [] nil) ∷ around)) after
    ≡ ran stop (live (clause_due seen) (frame (snoc done (node kind mark head value)) [] [] nil) around) after
clause_left stop seen kind mark opened head value done around [] ends = absurd ends
clause_left stop seen kind mark opened head value done around (token class spot ∷ after) ends =
    let outside = nested (clause_due seen) to_statement opened (frame done (pending kind mark head ∷ []) [] nil) ∷ around in
    ap (λ (z : Action). ran stop (act z class spot (frame value [] [] nil) outside) after)
    (holds_at (λ (x : ℕ). look x (row (statement_due false in_clause) spot.newline) ≡ leave done_value) (case_word ∷ default_word ∷ close_brace ∷ [])
    (refl, (refl, (refl, tt))) class ends)

-- the first chain of each part of the head of a `for` may be assigned to, and each is an Expression
part_target : {due : Control} {ending : Ending} {target : Target} {class : ℕ} → HeadPart due ending target class → T (is_target target)
part_target start_part = tt
part_target test_part = tt
part_target step_part = tt

part_comma : {due : Control} {ending : Ending} {target : Target} {class : ℕ} → HeadPart due ending target class → T (takes_comma ending)
part_comma start_part = tt
part_comma test_part = tt
part_comma step_part = tt

-- a function without a name goes on as one with a name
unnamed_taken : {before after : List Token} {value : Syntax} (stop : Spot) (ending : Ending) (target : Target) (f : Frame) (around : List Open)
    → Function before after value
    → ran stop (live (function_first (operand_in ending target)) f around) before ≡ ran stop (live (function_named (operand_in ending target)) f around) before
unnamed_taken stop ending _ f around (function_all _ _) = refl

names_taken : {before after : List Token} (stop : Spot) (around : List Open) → Names before after
    → ran stop (live (parameter_due false) empty around) before ≡ ran stop (live parameter_named empty around) after
names_taken stop around one_name = refl
names_taken stop around (more_names names) = names_taken stop around names

-- parameters are taken up to the closer behind them
parameters_taken : {before after : List Token} {closer : Spot} (stop : Spot) (behind : Control) (mark : ℕ) (f : Frame) (around : List Open)
    → Parameters before (token close_paren closer ∷ after)
    → ran stop (live (parameter_due false) empty (grouped behind to_parameter mark f ∷ around)) before ≡ ran stop (live behind f around) after
parameters_taken stop behind mark f around no_parameters = refl
parameters_taken stop behind mark f around (some_parameters names) = names_taken stop (grouped behind to_parameter mark f ∷ around) names

-- a list that may end behind a `,` ends where an item may come
between_closes : (items : Items) (first : Bool) (behind : Control) (closing : Closing) (mark : ℕ) (f : Frame) (around : List Open) (value : Syntax) (closer : Spot)
    → T (may_end_in_comma items)
    → consume (live (between_items items first) (frame value [] [] nil) (grouped behind closing mark f ∷ around)) (token (list_closer items) closer)
    ≡ live behind (close closing mark value f) around
between_closes call_arguments first behind closing mark f around value closer allowed = absurd allowed
between_closes array_elements true behind closing mark f around value closer allowed = refl
between_closes array_elements false behind closing mark f around value closer allowed = refl
between_closes object_properties true behind closing mark f around value closer allowed = refl
between_closes object_properties false behind closing mark f around value closer allowed = refl

hole_taken : (first : Bool) (stop sign : Spot) (f : Frame) (around : List Open) (after : List Token)
    → ran stop (live (between_items array_elements first) f around) (token comma sign ∷ after) ≡ ran stop (live (item_due array_elements) f around) after
hole_taken true stop sign f around after = refl
hole_taken false stop sign f around after = refl

-- how tight an operator binds, where a law says it
as_tight : (n a b : ℕ) → a ≡ b → n ≤ b → n ≤ a
as_tight n a b same h = omega arith

as_loose : (n a b : ℕ) → a ≡ b → b < n → a < n
as_loose n a b same h = omega arith

-- what the machine does with the tokens of a form, wherever it stands
abbrev Taken : Spot → Form → List Token → List Token → Syntax → Type 0
Taken stop (chain_form calls) before after value =
    (ending : Ending) (target : Target) (done : Syntax) (starts waiting : List Pending) (operand : Syntax) (around : List Open)
    → MayCall calls waiting
    → ran stop (live (operand_due ending target) (frame done starts waiting operand) around) before
    ≡ ran stop (live (operand_done ending target) (frame done starts waiting value) around) after
Taken stop (target_form calls) before after value =
    (ending : Ending) (target : Target) (done : Syntax) (starts waiting : List Pending) (operand : Syntax) (around : List Open)
    → MayCall calls waiting
    → Reached stop (operand_done ending target) done starts around new_precedence waiting
    (live (operand_due ending target) (frame done starts waiting operand) around) before after value
Taken stop unary_form before after value =
    (ending : Ending) (target : Target) (done : Syntax) (starts waiting : List Pending) (operand : Syntax) (around : List Open)
    → Looser new_precedence waiting
    → Passed stop ending done starts around prefix_precedence waiting (live (operand_due ending target) (frame done starts waiting operand) around)
    before after value
Taken stop (binary_form within least) before after value =
    (ending : Ending) (target : Target) (done : Syntax) (starts waiting : List Pending) (operand : Syntax) (around : List Open)
    → within ≡ allows_in ending → least ≤ prefix_precedence → Looser least waiting
    → Passed stop ending done starts around least waiting (live (operand_due ending target) (frame done starts waiting operand) around) before after value
Taken stop (assign_form within) before after value =
    (ending : Ending) (target : Target) (done : Syntax) (starts waiting : List Pending) (operand : Syntax) (around : List Open)
    → within ≡ allows_in ending → T (is_target target) → Looser least_binary waiting
    → Passed stop ending done starts around assignment_precedence waiting (live (operand_due ending target) (frame done starts waiting operand) around)
    before after value
Taken stop (expression_form within) before after value =
    (ending : Ending) (target : Target) (done : Syntax) (starts : List Pending) (operand : Syntax) (around : List Open)
    → within ≡ allows_in ending → T (is_target target) → T (takes_comma ending)
    → Passed stop ending done starts around (precedence comma) [] (live (operand_due ending target) (frame done starts [] operand) around) before after value
Taken stop function_form before after value =
    (role : Role) (done : Syntax) (starts waiting : List Pending) (word : Syntax) (around : List Open)
    → ran stop (live (function_named role) (frame done starts waiting word) around) before
    ≡ ran stop (live (behind_function role) (with_function role value done starts waiting word) around) after
Taken stop statement_form before after value =
    (must : Bool) (setting : Setting) (done : Syntax) (starts : List Pending) (around : List Open)
    → ran stop (live (statement_due must setting) (frame done starts [] nil) around) before
    ≡ ran stop (live (behind_statement setting) (complete_statement done starts value) around) after
Taken stop block_form before after value =
    (control behind : Control) (done : Syntax) (starts : List Pending) (around : List Open) → BlockAt control behind
    → ran stop (live control (frame done starts [] nil) around) before ≡ ran stop (live behind (complete_statement done starts value) around) after
Taken stop catch_form before after value =
    (done : Syntax) (around : List Open) → ran stop (live try_done (frame done [] [] nil) around) before
    ≡ ran stop (live catch_done (frame (snoc done value) [] [] nil) around) after
Taken stop finally_form before after value =
    (control : Control) (done : Syntax) (around : List Open) → FinallyAt control
    → ran stop (live control (frame done [] [] nil) around) before ≡ ran stop (live try_ended (frame (snoc done value) [] [] nil) around) after
Taken stop (clauses_form seen) before after value =
    (around : List Open) → T (ends_clause after)
    → ran stop (live (clause_due false) empty around) before ≡ ran stop (live (clause_due seen) (frame value [] [] nil) around) after
Taken stop (statements_form scope) before after value =
    (setting : Setting) (around : List Open) → StatementsAt scope setting
    → ran stop (live (statement_due false setting) empty around) before ≡ ran stop (live (statement_due false setting) (frame value [] [] nil) around) after
Taken stop (variables_form within) before after value =
    (place : Variables) (done : Syntax) (mark : ℕ) (starts : List Pending) (around : List Open) → within ≡ allows_in (by_variable place)
    → (first : Bool) × (ran stop (live (variable_due (between_variables place true)) (frame done (pending var_word mark nil ∷ starts) [] nil) around) before
    ≡ ran stop (live (variable_due (between_variables place first)) (frame done (pending var_word mark value ∷ starts) [] nil) around) after)
Taken stop (variable_form within) before after value =
    (place : Variables) (done : Syntax) (mark : ℕ) (variables : Syntax) (starts : List Pending) (around : List Open) → within ≡ allows_in (by_variable place)
    → VariablePassed stop place done var_word mark variables starts around before after value
Taken stop (optional_form within) before after value =
    (due : Control) (ending : Ending) (target : Target) (class : ℕ) (done : Syntax) (around : List Open) → HeadPart due ending target class
    → within ≡ allows_in ending → T (no_colon after) → PartPassed stop due ending class done around before after value
Taken stop (items_form items) before after value =
    (around : List Open) → (first : Bool) × (ran stop (live (item_due items) empty around) before
    ≡ ran stop (live (between_items items first) (frame value [] [] nil) around) after)
Taken stop (list_form items) before after value =
    (behind : Control) (closing : Closing) (mark : ℕ) (f : Frame) (around : List Open) → T (no_colon after)
    → ListPassed stop items behind closing mark f around before after value

taken : (stop : Spot) {form : Form} {before after : List Token} {value : Syntax} → Derives form before after value → Taken stop form before after value
taken stop (chain_leaf {spot = spot} {after = after} leaf) =
    λ ending target done starts waiting operand around may. leaf_taken stop spot after ending target done starts waiting operand around leaf
taken stop (chain_array values) = λ ending target done starts waiting operand around may. list_passed (taken stop values _ _ _ _ _ tt)
taken stop (chain_object values) = λ ending target done starts waiting operand around may. list_passed (taken stop values _ _ _ _ _ tt)
taken stop (chain_parens value) = λ ending target done starts waiting operand around may. group_passed by-paren (taken stop value by_paren some_target nil [] nil _ refl tt tt)
taken stop (chain_function {word = word} function) =
    λ ending target done starts waiting operand around may. taken stop function (operand_in ending target) done starts waiting (held_word word.mark) around
taken stop (chain_unnamed {word = word} function) =
    λ ending target done starts waiting operand around may.
    unnamed_taken stop ending target (frame done starts waiting (held_word word.mark)) around function
    ∙ taken stop function (operand_in ending target) done starts waiting (held_word word.mark) around
taken stop (chain_index object value) =
    λ ending target done starts waiting operand around may.
    taken stop object ending target done starts waiting operand around may ∙ group_passed by-bracket (taken stop value by_bracket some_target nil [] nil _ refl tt tt)
taken stop (chain_member identifier object) = taken stop object
taken stop (chain_member reserved_word object) = taken stop object
taken stop (chain_call {opener = opener} {after = after} {callee = first} {values = second} callee values) =
    λ ending target done starts waiting operand around may.
    taken stop callee ending target done starts waiting operand around may
    ∙ list_passed (taken stop values _ _ _ _ _ tt)
    ∙ ap (λ (z : Frame). ran stop (live (operand_done ending target) z around) after) (call_made opener.mark second done starts waiting first may)
taken stop (chain_new {word = word} callee values) =
    λ ending target done starts waiting operand around may.
    let new = pending new_word word.mark nil ∷ waiting in
    target_is_taken (ran_sees stop) ending target (frame done starts new nil) around (target_begins (target_chain callee))
    ∙ taken stop callee ending target done starts new nil around tt
    ∙ list_passed (taken stop values _ _ _ _ _ tt)
taken stop (target_chain chain) =
    λ ending target done starts waiting operand around may. operand_reached (taken stop chain ending target done starts waiting operand around may)
taken stop (target_new {word = word} callee) =
    λ ending target done starts waiting operand around may.
    let new = pending new_word word.mark nil ∷ waiting in
    awaited_reached (omega arith) (omega arith)
    (target_is_taken (ran_sees stop) ending target (frame done starts new nil) around (target_begins callee))
    (taken stop callee ending target done starts new nil around tt)
taken stop (unary_target target) =
    λ ending assignable done starts waiting operand around loose.
    passed_down (omega arith)
    record { control = operand_done ending assignable; ends = past_operand; reached = taken stop target ending assignable done starts waiting operand around loose }
taken stop (unary_prefix {class = class} {sign = sign} {middle = middle} op value) =
    λ ending target done starts waiting operand around loose.
    let kind = prefix_kind class in
    awaited_passed (as_tight prefix_precedence (tightness kind) prefix_precedence (prefix_tightness class op) (omega arith)) (omega arith)
    (prefix_taken stop class sign middle ending target done starts waiting operand around op)
    (taken stop value ending no_target done starts (pending kind sign.mark nil ∷ waiting) nil around
    (as_loose new_precedence (tightness kind) prefix_precedence (prefix_tightness class op) (omega arith)))
taken stop (unary_postfix op same value) =
    λ ending target done starts waiting operand around loose.
    postfix_passed op same loose (taken stop value ending target done starts waiting operand around loose)
taken stop (binary_unary {least = least} unary) =
    λ ending target done starts waiting operand around allowed under loose.
    passed_down under (taken stop unary ending target done starts waiting operand around (looser_up least new_precedence waiting loose (omega arith)))
taken stop (binary_operator {within = within} {least = least} {class = class} {sign = sign} {left = first} op tight left right) =
    λ ending target done starts waiting operand around allowed under loose.
    let wide = looser_up least (precedence class) waiting loose tight in
    let among = binary_by within class op in
    awaited_passed (as_tight least (tightness class) (precedence class) (binary_tightness class among) tight) (omega arith)
    (binary_taken (subst (λ (b : Bool). T (is_among (binary_operators_by b) class)) allowed op) wide
    (taken stop left ending target done starts waiting operand around allowed (omega (arith, binary_under_prefix class among)) wide))
    (taken stop right ending no_target done starts (pending class sign.mark first ∷ waiting) nil around allowed
    (omega (arith, binary_under_prefix class among))
    (as_loose (precedence class + 1) (tightness class) (precedence class) (binary_tightness class among) (omega arith)))
taken stop (assign_binary binary) =
    λ ending target done starts waiting operand around allowed may loose.
    passed_down (omega arith) (taken stop binary ending target done starts waiting operand around allowed (omega arith) loose)
taken stop (assign_to {class = class} {sign = sign} {target = first} op target value) =
    λ ending assignable done starts waiting operand around allowed may loose.
    awaited_passed (as_tight assignment_precedence (tightness class) assignment_precedence (assignment_tightness class op) (omega arith)) (omega arith)
    (assignment_taken may op loose
    (taken stop target ending assignable done starts waiting operand around (looser_up least_binary new_precedence waiting loose (omega arith))))
    (taken stop value ending some_target done starts (pending class sign.mark first ∷ waiting) nil around allowed tt
    (as_loose least_binary (tightness class) assignment_precedence (assignment_tightness class op) (omega arith)))
taken stop (assign_conditional {sign = sign} {condition = asked} {first = chosen} condition first second) =
    λ ending target done starts waiting operand around allowed may loose.
    awaited_passed (omega arith) (omega arith)
    (question_taken loose (taken stop condition ending target done starts waiting operand around allowed (omega arith) loose)
    ∙ answer_taken (taken stop first by_colon some_target nil [] [] nil (asking ending sign.mark (frame done starts waiting asked) ∷ around) refl tt tt))
    (taken stop second ending some_target done starts (pending question sign.mark (snoc asked chosen) ∷ waiting) nil around allowed tt (omega arith))
taken stop (expression_assign value) =
    λ ending target done starts operand around allowed may takes.
    passed_down (omega arith) (taken stop value ending target done starts [] operand around allowed may tt)
taken stop (expression_comma {sign = sign} {left = first} left right) =
    λ ending target done starts operand around allowed may takes.
    awaited_passed (omega arith) (omega arith) (comma_taken takes (taken stop left ending target done starts operand around allowed may takes))
    (taken stop right ending some_target done starts (pending comma sign.mark first ∷ []) nil around allowed tt (omega arith))
taken stop (function_all {opener = opener} {openBody = openBody} {inside = inside} {after = after} {statements = body_statements} parameters statements) =
    λ role done starts waiting word around.
    parameters_taken stop (parameter_past role) opener.mark (frame done starts waiting word) around parameters
    ∙ elim role as (λ (z : Role). ran stop (live (parameter_past z) (frame done starts waiting word) around) (token open_brace openBody ∷ inside)
    ≡ ran stop (live (behind_function z) (with_function z body_statements done starts waiting word) around) after)
    [ declared ↦ taken stop statements _ _ on_level | operand_in ending _ ↦ taken stop statements _ _ on_level ]
taken stop (block_all {opener = opener} {inside = inside} statements) =
    λ control behind done starts around at. block_opened stop opener (frame done starts [] nil) around inside at ∙ taken stop statements _ _ on_level
taken stop (statement_block inner) = λ must setting done starts around. taken stop inner _ _ done starts around in-statement
taken stop (statement_expression allowed value) =
    λ must setting done starts around.
    expression_is_taken (ran_sees stop) must setting (frame done starts [] nil) around (expression_begins value tt) allowed
    ∙ expression_passed (taken stop value (by_statement setting) some_target done starts nil around refl tt tt)
taken stop (statement_var {word = word} {variables = first} variables last) =
    λ must setting done starts around.
    (taken stop variables (in_statement setting) done word.mark starts around refl).1
    ∙ variables_passed (taken stop last (in_statement setting) done word.mark first starts around refl)
taken stop no_variables = λ place done mark starts around allowed. (true, refl)
taken stop (add_variable {after = after} {variables = first} {last = second} variables last) =
    λ place done mark starts around allowed.
    let v = taken stop variables place done mark starts around allowed in (
      false,
      v.1
          ∙ variable_passed (taken stop last (between_variables place v.0) done mark first starts around (allowed ∙ sym (between_allows place v.0)))
          ∙ ap (λ (z : Variables). ran stop (live (variable_due z) (frame done (pending var_word mark (snoc first second) ∷ starts) [] nil) around) after)
          (later_between place v.0),
    )
taken stop variable_bare = λ place done mark variables starts around allowed. bare_passed
taken stop (variable_initialised {called = called} value) =
    λ place done mark variables starts around allowed.
    initialised_passed
    (taken stop value (by_variable place) some_target done (pending variable_syntax called.mark nil ∷ pending var_word mark variables ∷ starts) [] nil around
    allowed tt tt)
taken stop statement_empty = λ must setting done starts around. refl
taken stop (statement_if {word = word} {after = after} {condition = first} {inner = value} none condition inner) =
    λ must setting done starts around.
    group_passed by-paren (taken stop condition by_paren some_target nil [] nil _ refl tt tt)
    ∙ taken stop inner true (in_nest if_nest) nil (pending if_syntax word.mark first ∷ [])
    (nested (behind_statement setting) to_statement word.mark (frame done starts [] nil) ∷ around)
    ∙ nest_left if_nest stop setting (node if_syntax word.mark first value) word.mark done starts around after none
taken stop (statement_else {word = word} {other = other} {after = after} {condition = first} {first = chosen} {second = value} condition inner second) =
    λ must setting done starts around.
    let outside = nested (behind_statement setting) to_statement word.mark (frame done starts [] nil) ∷ around in
    let before = node if_syntax word.mark first chosen in
    group_passed by-paren (taken stop condition by_paren some_target nil [] nil _ refl tt tt)
    ∙ taken stop inner true (in_nest if_nest) nil (pending if_syntax word.mark first ∷ []) outside
    ∙ taken stop second true (in_nest else_nest) nil (pending else_word other.mark before ∷ []) outside
    ∙ nest_left else_nest stop setting (node else_word other.mark before value) word.mark done starts around after tt
taken stop (statement_do {word = word} inner condition) =
    λ must setting done starts around.
    taken stop inner true (in_nest do_nest) nil [] (nested (body_done setting) to_body word.mark (frame done starts [] nil) ∷ around)
    ∙ group_passed by-paren (taken stop condition by_paren some_target nil [] nil _ refl tt tt)
taken stop (statement_head {word = word} {head = first} while-word head inner) =
    λ must setting done starts around.
    group_passed by-paren (taken stop head by_paren some_target nil [] nil _ refl tt tt)
    ∙ taken stop inner true setting done (pending while_word word.mark first ∷ starts) around
taken stop (statement_head {word = word} {head = first} with-word head inner) =
    λ must setting done starts around.
    group_passed by-paren (taken stop head by_paren some_target nil [] nil _ refl tt tt)
    ∙ taken stop inner true setting done (pending with_word word.mark first ∷ starts) around
taken stop (statement_for {word = word} {start = first} {condition = second} {step = third} start condition step inner) =
    λ must setting done starts around.
    start_passed (taken stop start _ _ _ _ nil _ start_part refl tt)
    ∙ test_passed (taken stop condition _ _ _ _ _ _ test_part refl tt)
    ∙ step_passed (taken stop step _ _ _ _ _ _ step_part refl tt)
    ∙ taken stop inner true setting done (pending for_word word.mark (snoc (snoc (snoc nil first) second) third) ∷ starts) around
taken stop (statement_for_var {word = word} {declared = var} {variables = first} {last = last} {condition = second} {step = third}
    variables named condition step inner) =
    λ must setting done starts around.
    let v = taken stop variables (in_head true) nil var.mark [] _ refl in
    v.1
    ∙ variables_passed (taken stop named (in_head v.0) nil var.mark first [] _ refl)
    ∙ test_passed (taken stop condition _ _ _ _ _ _ test_part refl tt)
    ∙ step_passed (taken stop step _ _ _ _ _ _ step_part refl tt)
    ∙ taken stop inner true setting done
    (pending for_word word.mark (snoc (snoc (snoc nil (node var_word var.mark first last)) second) third) ∷ starts) around
taken stop left_out = λ due ending target class done around part allowed next. none_passed part
taken stop (not_left_out {before = before} value) =
    λ due ending target class done around part allowed next.
    part_passed part (part_is_taken (ran_sees stop) part (frame done [] [] nil) around before (expression_begins value next))
    (taken stop value ending target done [] nil around allowed (part_target part) (part_comma part))
taken stop (statement_for_in {word = word} {inside = inside} {target = first} {object = second} target object inner) =
    λ must setting done starts around.
    part_is_taken (ran_sees stop) start_part empty _ inside (widened (target_begins target))
    ∙ target_passed (taken stop target by_start lone_target nil [] [] nil _ tt)
    ∙ object_passed (taken stop object by_object some_target (snoc nil first) [] nil _ refl tt tt)
    ∙ taken stop inner true setting done (pending for_in_syntax word.mark (snoc (snoc nil first) second) ∷ starts) around
taken stop (statement_for_var_in {word = word} {declared = var} {variable = first} {object = second} variable object inner) =
    λ must setting done starts around.
    let declaration = node var_word var.mark nil first in
    only_passed tt (taken stop variable (in_head true) nil var.mark nil [] _ refl)
    ∙ object_passed (taken stop object by_object some_target (snoc nil declaration) [] nil _ refl tt tt)
    ∙ taken stop inner true setting done (pending for_in_syntax word.mark (snoc (snoc nil declaration) second) ∷ starts) around
taken stop (statement_bare_jump continue-word) = λ must setting done starts around. refl
taken stop (statement_bare_jump break-word) = λ must setting done starts around. refl
taken stop (statement_jump {word = word} {label = label} {end = end} {after = after} continue-word same) =
    λ must setting done starts around.
    label_is_taken (ran_sees stop) setting (frame done (pending continue_word word.mark nil ∷ starts) [] nil) around label (token semicolon end ∷ after) same
taken stop (statement_jump {word = word} {label = label} {end = end} {after = after} break-word same) =
    λ must setting done starts around.
    label_is_taken (ran_sees stop) setting (frame done (pending break_word word.mark nil ∷ starts) [] nil) around label (token semicolon end ∷ after) same
taken stop statement_bare_return = λ must setting done starts around. refl
taken stop (statement_full_return {word = word} {before = before} same value) =
    λ must setting done starts around.
    value_is_returned (ran_sees stop) setting (frame done (pending full_return_syntax word.mark nil ∷ starts) [] nil) around before (expression_begins value tt) same
    ∙ return_passed (taken stop value (by_return setting) some_target done (pending full_return_syntax word.mark nil ∷ starts) nil around refl tt tt)
taken stop (statement_switch {word = word} {subject = first} subject clauses) =
    λ must setting done starts around.
    group_passed by-paren (taken stop subject by_paren some_target nil [] nil _ refl tt tt) ∙ taken stop clauses _ tt
taken stop no_clauses = λ around ends. refl
taken stop (add_case {seen = seen} {word = word} {sign = sign} {after = after} {cases = first} {test = head} {statements = value} cases test statements) =
    λ around ends.
    taken stop cases around tt
    ∙ case_passed (taken stop test (by_case seen) some_target first (pending case_word word.mark nil ∷ []) nil around refl tt tt)
    ∙ taken stop statements _ _ in-clause
    ∙ clause_left stop seen case_word word.mark sign.mark head value first around after ends
taken stop (add_default {word = word} {sign = sign} {after = after} {cases = first} {statements = value} cases statements) =
    λ around ends.
    taken stop cases around tt
    ∙ taken stop statements _ _ in-clause
    ∙ clause_left stop true default_word word.mark sign.mark nil value first around after ends
taken stop (statement_throw {word = word} {before = before} same value) =
    λ must setting done starts around.
    value_is_thrown (ran_sees stop) setting (frame done (pending throw_word word.mark nil ∷ starts) [] nil) around before (expression_begins value tt) same
    ∙ return_passed (taken stop value (by_return setting) some_target done (pending throw_word word.mark nil ∷ starts) nil around refl tt tt)
taken stop (statement_try {word = word} {after = after} {inner = first} {handler = second} none inner handler) =
    λ must setting done starts around.
    taken stop inner _ _ nil [] _ in_try
    ∙ taken stop handler (snoc nil first) _
    ∙ try_left stop setting (snoc (snoc nil first) second) word.mark done starts around after (past_catch none)
taken stop (statement_try_finally {word = word} {after = after} {inner = first} {last = third} inner last) =
    λ must setting done starts around.
    taken stop inner _ _ nil [] _ in_try
    ∙ taken stop last _ (snoc nil first) _ behind_try
    ∙ try_left stop setting (snoc (snoc nil first) third) word.mark done starts around after past_finally
taken stop (statement_try_all {word = word} {after = after} {inner = first} {handler = second} {last = third} inner handler last) =
    λ must setting done starts around.
    taken stop inner _ _ nil [] _ in_try
    ∙ taken stop handler (snoc nil first) _
    ∙ taken stop last _ (snoc (snoc nil first) second) _ behind_catch
    ∙ try_left stop setting (snoc (snoc (snoc nil first) second) third) word.mark done starts around after past_finally
taken stop (catch_all {word = word} inner) = λ done around. taken stop inner _ _ done (pending catch_word word.mark nil ∷ []) around in_catch
taken stop (finally_all {word = word} {inside = inside} inner) =
    λ control done around at.
    finally_opened stop word done around inside at ∙ taken stop inner _ _ done (pending finally_word word.mark nil ∷ []) around in_finally
taken stop statement_debugger = λ must setting done starts around. refl
taken stop (statement_label {label = label} inner) =
    λ must setting done starts around. taken stop inner true setting done (pending label_syntax label.mark nil ∷ starts) around
taken stop no_statements = λ setting around at. refl
taken stop (add_statement {after = after} {statements = first} {last = value} statements last) =
    λ setting around at.
    taken stop statements setting around at
    ∙ taken stop last false setting first [] around
    ∙ ap (λ (z : Control). ran stop (live z (frame (snoc first value) [] [] nil) around) after) (another_due at)
taken stop (add_declaration {word = word} {statements = first} statements function) =
    λ setting around at.
    rw (in_body at)
    (taken stop statements (among body) around on_level ∙ taken stop function declared first [] [] (held_word word.mark) around)
taken stop no_items = λ around. (true, refl)
taken stop (add_item {items = items} {values = first} values starts last) =
    λ around.
    let v = taken stop values around in (
      false,
      v.1
          ∙ item_is_taken (ran_sees stop) items v.0 (frame first [] [] nil) around starts (assign_begins last tt)
          ∙ item_passed (taken stop last (by_item items) some_target first [] [] nil around refl tt tt),
    )
taken stop (add_hole {sign = sign} {after = after} {values = first} values) =
    λ around. let v = taken stop values around in (true, v.1 ∙ hole_taken v.0 stop sign (frame first [] [] nil) around after)
taken stop list_empty = λ behind closing mark f around past. record { control = item_due call_arguments; last = empty; runs = refl; closes = λ closer. refl }
taken stop (list_items {items = items} {values = first} allowed values) =
    λ behind closing mark f around past.
    let v = taken stop values (grouped behind closing mark f ∷ around) in
    record {
      control = between_items items v.0;
      last = frame first [] [] nil;
      runs = v.1;
      closes = λ closer. between_closes items v.0 behind closing mark f around first closer allowed;
    }
taken stop (list_last {items = items} {values = first} values starts last) =
    λ behind closing mark f around past.
    let v = taken stop values (grouped behind closing mark f ∷ around) in
    last_passed
    (v.1 ∙ item_is_taken (ran_sees stop) items v.0 (frame first [] [] nil) (grouped behind closing mark f ∷ around) starts (assign_begins last past))
    (taken stop last (by_item items) some_target first [] [] nil (grouped behind closing mark f ∷ around) refl tt tt)

-- a program's tokens and the text's end behind them are taken, with the program's syntax
pub complete : {all : List Token} {parts : Syntax} (stop : Spot) → Program all parts → ran stop start all ≡ live finished (frame parts [] [] nil) []
complete stop program = taken stop program (among body) [] on_level

pub complete_to_end : {all : List Token} {parts : Syntax} (spot : Spot) → Program all parts
    → run start (all ++ (token end_of_text spot ∷ [])) ≡ live finished (frame parts [] [] nil) []
complete_to_end {all} spot program = ran_is_run spot start all ∙ complete spot program

-- so a program has one syntax tree
pub one_tree : {all : List Token} {first second : Syntax} → Program all first → Program all second → first ≡ second
one_tree p q = ap tree_of (sym (complete anywhere p) ∙ complete anywhere q)
  where
    tree_of : State → Syntax
    tree_of (dead place) = nil
    tree_of (live control (frame done starts waiting operand) around) = done

pub run_append : (first second : List Token) (state : State) → run state (first ++ second) ≡ run (run state first) second
run_append [] second state = refl
run_append (t ∷ first) second state = run_append first second _
