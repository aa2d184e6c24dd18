-- A run that lives can be completed to a program, and one that is dead cannot.
use mathlib.Core.Path.{◌≡◌, refl, sym, ◌∙◌, ap, subst}
use mathlib.Core.Bool.{Bool, true, false}
use mathlib.Core.List.{List, [], ◌∷◌, ◌++◌}
use Prim.Native.Nat.{ℕ}
use native.Mathlib.Omega.{arith}
use lib.Dec.{T}
use Rattle.machine.specs.Tokens.{Token, token, Spot, name, catch_word, colon, semicolon, open_paren, close_paren, open_brace, close_brace}
use Rattle.machine.specs.Syntax.{Syntax, nil, node}
use Rattle.grammar.specs.Grammar.{is_among, Items, call_arguments, array_elements, object_properties, Program}
use Rattle.machine.specs.Machinery.Machine.{
  end_of_text,
  Pending,
  Frame,
  frame,
  Closing,
  to_statement,
  to_try,
  done_of,
  if_nest,
  else_nest,
  do_nest,
  Setting,
  in_clause,
  in_nest,
  Variables,
  in_statement,
  in_head,
  some_target,
  Ending,
  by_statement,
  by_return,
  by_variable,
  by_paren,
  by_item,
  Role,
  Control,
  statement_due,
  behind_statement,
  body_done,
  test_first,
  semicolon_due,
  test_due,
  step_due,
  switch_past,
  clause_due,
  try_done,
  catch_past,
  behind_variables,
  operand_due,
  item_due,
  parameter_past,
  finished,
  Action,
  push,
  look,
  row,
  after_unary,
  Open,
  grouped,
  nested,
  State,
  dead,
  live,
  head_in,
  pop_to,
  act,
  consume,
  run,
  start,
}
use Rattle.machine.proofs.Ran.{ran, ran_is_run, ran_append, stays_dead, anywhere}
use Rattle.grammar.proofs.Following.{UnaryDone, past_operand, past_postfix, behind_unary, look_behind_unary}
use Rattle.grammar.proofs.Complete.{complete}
use Rattle.grammar.proofs.Places.{
  Place,
  statement_at,
  block_at,
  clause_at,
  head_at,
  variable_at,
  expression_at,
  list_at,
  Reached,
  in_program,
  in_block,
  in_declaration,
  in_function,
  after_if,
  after_else,
  after_do,
  after_head,
  after_for,
  after_label,
  after_case,
  after_default,
  block_statement,
  block_of_try,
  block_of_catch,
  block_of_finally,
  in_switch,
  in-for,
  in_var,
  in_for_var,
  in_for_vars,
  in_expression,
  in_return,
  in_throw,
  in_variable,
  in_start,
  in_for_test,
  in_for_step,
  in_for_object,
  in_case,
  in_parens,
  in_index,
  in_condition,
  in-head,
  in_subject,
  in_test,
  in_call,
  in_array,
  in_object,
  in_conditional,
  in_item,
}
use Rattle.grammar.proofs.Partial.{
  FunctionAt,
  declaration_at,
  operand_at,
  Partial,
  at_statement,
  at_clause_statement,
  at_inner_statement,
  behind_name,
  behind_return,
  behind_throw,
  behind_jump,
  behind_head,
  behind_for,
  at_start,
  at_for_test,
  at_for_step,
  behind_switch,
  behind_subject,
  at_clause,
  behind_default,
  behind_try,
  behind_tried,
  behind_catch,
  at_catch_name,
  behind_catch_name,
  behind_catch_head,
  behind_caught,
  behind_finally,
  behind_try_all,
  at_variable,
  behind_variable,
  behind_body,
  at_test,
  at_semicolon,
  behind_if,
  behind_then,
  behind_else,
  behind_do,
  at_operand,
  at_member,
  behind_operand,
  behind_postfix,
  behind_dot,
  behind-function,
  behind_function_name,
  at_parameters,
  behind_parameter,
  at_parameter,
  at_function_body,
  at_item,
  behind_property,
  behind_end,
}
use Rattle.grammar.proofs.Sound.{run_partial, sound}
use Rattle.grammar.proofs.Completion.{
  Spelled,
  spelled_name,
  spelled_colon,
  spelled_semicolon,
  spelled_open_paren,
  spelled_close_paren,
  spelled_close_bracket,
  spelled_open_brace,
  spelled_close_brace,
  spelled_while,
  spelled_catch,
  AllSpelled,
  none_spelled,
  more_spelled,
  OfClasses,
  inline,
  Ends,
  ends_run,
  Completion,
  through,
  statement-done,
  catch-done,
  try-done,
  out_of_nest,
}

-- a statement that must come: `;`
inner_statement : {setting : Setting} {around : List Open} → Completion (behind_statement setting) around
    → Completion (statement_due true setting) around
inner_statement c = through spelled_semicolon c λ f end. c.ends _

-- what may follow a Unary ends it, wherever the machine stands behind it
ended : {ending : Ending} {control : Control} (class : ℕ) (classes : List ℕ) → UnaryDone ending control → T (is_among (behind_unary ending) class)
    → (f : Frame) (spot : Spot) (around : List Open) → Ends classes (act (look class (after_unary ending)) class spot f around)
    → Ends classes (consume (live control f around) (token class spot))
ended class classes done h f spot around ends =
    subst (λ (z : Action). Ends classes (act z class spot f around)) (sym (look_behind_unary done spot.newline class h)) ends

by_end : {ending : Ending} {control : Control} {class : ℕ} {around : List Open} → UnaryDone ending control → Spelled class → T (is_among (behind_unary ending) class)
    → (classes : List ℕ) → AllSpelled classes → ((f : Frame) (spot : Spot) → Ends classes (act (look class (after_unary ending)) class spot f around))
    → Completion control around
by_end {class = class} {around = around} done spelled h classes all ends = record {
  classes = class ∷ classes;
  spelled = more_spelled spelled all;
  ends = λ f spot. ended class classes done h f (inline spot) around (ends f (inline spot));
}

-- an expression in `( )` that must come: `( a )`
in_parens_due : {control next : Control} {closing : Closing} {around : List Open}
    → ((newline : Bool) → look open_paren (row control newline) ≡ push (operand_due by_paren some_target) next closing) → Completion next around
    → Completion control around
in_parens_due {control} {next} {closing} {around} opens c = record {
  classes = open_paren ∷ name ∷ close_paren ∷ c.classes;
  spelled = more_spelled spelled_open_paren (more_spelled spelled_name (more_spelled spelled_close_paren c.spelled));
  ends = λ f opener.
      subst (λ (z : Action). Ends (name ∷ close_paren ∷ c.classes) (act z open_paren (inline opener) f around)) (sym (opens false)) λ called closer.
      ended close_paren c.classes (past_operand {ending = by_paren} {target = some_target}) tt (frame nil [] [] (node name called.mark nil nil)) (inline closer)
      (grouped next closing opener.mark f ∷ around) (c.ends _);
}

-- the rest of a `do` behind its statement: `while ( a ) ;`
semicolon-due : {setting : Setting} {around : List Open} → Completion (behind_statement setting) around → Completion (semicolon_due setting) around
semicolon-due c = through spelled_semicolon c λ f end. c.ends _

test-due : {setting : Setting} {around : List Open} → Completion (behind_statement setting) around → Completion (test_first setting) around
test-due {setting} c = in_parens_due {next = semicolon_due setting} (λ newline. refl) (semicolon-due {setting = setting} c)

body-done : {setting : Setting} {around : List Open} → Completion (behind_statement setting) around → Completion (body_done setting) around
body-done {setting} c = let test = test-due {setting = setting} c in through spelled_while test λ f word. test.ends f

-- statements in `{ }`, possibly none, that must come
in_braces : {control next : Control} {around beyond : List Open} → (c : Completion next beyond)
    → ((f : Frame) (opener closer : Spot)
    → Ends c.classes (consume (consume (live control f around) (token open_brace (inline opener))) (token close_brace (inline closer))))
    → Completion control around
in_braces c ends = record {
  classes = open_brace ∷ close_brace ∷ c.classes;
  spelled = more_spelled spelled_open_brace (more_spelled spelled_close_brace c.spelled);
  ends = ends;
}

-- the clauses of a `switch`
switch-past : {setting : Setting} {around : List Open} → Completion (behind_statement setting) around → Completion (switch_past setting) around
switch-past c = in_braces c λ f opener closer. c.ends _

-- the rest of a `try` behind the head of its `catch`: `{ }`, and behind its block: `catch ( a ) { }`
catch-past : {behind : Control} {mark : ℕ} {g : Frame} {around : List Open} → Completion behind around
    → Completion catch_past (nested behind to_try mark g ∷ around)
catch-past c = let caught = out_of_nest catch-done c in in_braces caught λ f opener closer. caught.ends _

catch-due : {behind : Control} {mark : ℕ} {g : Frame} {around : List Open} → Completion behind around
    → Completion try_done (nested behind to_try mark g ∷ around)
catch-due c =
    let past = catch-past c in
    record {
      classes = catch_word ∷ open_paren ∷ name ∷ close_paren ∷ past.classes;
      spelled = more_spelled spelled_catch (more_spelled spelled_open_paren (more_spelled spelled_name (more_spelled spelled_close_paren past.spelled)));
      ends = λ f word opener called closer. past.ends _;
    }

-- the group around a list, around the head of a `for` or around clauses has been closed, with whatever value
record Closed (around : List Open) : Type 0 where
  classes : List ℕ
  spelled : AllSpelled classes
  ends : (place : ℕ) (value : Syntax) → Ends classes (pop_to place value around)
  in_ends : (place : ℕ) (value : Syntax) → Ends classes (pop_to place value (head_in around))

closed : {behind : Control} {closing : Closing} {mark : ℕ} {f : Frame} {around : List Open} → Completion behind around → Closed (grouped behind closing mark f ∷ around)
closed c = record { classes = c.classes; spelled = c.spelled; ends = λ place value. c.ends _; in_ends = λ place value. c.ends _ }

by_closer : {class : ℕ} {control : Control} {around beyond : List Open} → Spelled class → (c : Closed beyond)
    → ((f : Frame) (closer : Spot) → Ends c.classes (consume (live control f around) (token class (inline closer)))) → Completion control around
by_closer {class} spelled c ends = record { classes = class ∷ c.classes; spelled = more_spelled spelled c.spelled; ends = ends }

-- a list is closed behind an item, and where an item may come
behind_item : (items : Items) {control : Control} {around : List Open} → UnaryDone (by_item items) control → Closed around → Completion control around
behind_item call_arguments done c = by_end done spelled_close_paren tt c.classes c.spelled λ f closer. c.ends closer.first _
behind_item array_elements done c = by_end done spelled_close_bracket tt c.classes c.spelled λ f closer. c.ends closer.first _
behind_item object_properties done c = by_end done spelled_close_brace tt c.classes c.spelled λ f closer. c.ends closer.first _

before_item : (items : Items) {around : List Open} → Closed around → Completion (item_due items) around
before_item call_arguments c = by_closer spelled_close_paren c λ f closer. c.ends closer.first _
before_item array_elements c = by_closer spelled_close_bracket c λ f closer. c.ends closer.first _
before_item object_properties c = by_closer spelled_close_brace c λ f closer. c.ends closer.first _

-- the rest of the head of a `for` behind its second `;`: `)`, and behind its first: `; )`
step-due : {around : List Open} → Closed around → Completion step_due around
step-due c = by_closer spelled_close_paren c λ f closer. c.ends closer.first _

condition_due : {around : List Open} → Closed around → Completion test_due around
condition_due c = let step = step-due c in through spelled_semicolon step λ f end. step.ends _

-- a variable is the last
behind_initialiser : (place : Variables) {control : Control} {around : List Open} → UnaryDone (by_variable place) control
    → Completion (behind_variables place) around → Completion control around
behind_initialiser (in_statement setting) done c = by_end done spelled_semicolon tt c.classes c.spelled λ f end. c.ends _
behind_initialiser (in_head first) done c = by_end done spelled_semicolon tt c.classes c.spelled λ f end. c.ends _

-- the statements of a clause: the `}` of its `switch` ends them too
clause_done : {seen : Bool} {mark : ℕ} {g : Frame} {around : List Open} → Closed around
    → Completion (statement_due false in_clause) (nested (clause_due seen) to_statement mark g ∷ around)
clause_done c = by_closer spelled_close_brace c λ f closer. c.ends closer.first _

-- How a place is left: where a statement may start, by the closer of what is around; a block or variables, by what ends them; an expression, by its
-- ending; a list, clauses or the head of a `for`, once they are closed
abbrev Left : Place → List Open → Type 0
Left (statement_at setting) around = Completion (behind_statement setting) around
Left (block_at behind) around = Completion behind around
Left (clause_at seen) around = Closed around
Left head_at around = Closed around
Left (variable_at place) around = Completion (behind_variables place) around
Left (expression_at ending) around = (control : Control) → UnaryDone ending control → Completion control around
Left (list_at items) around = Closed around

left : {all : List Token} {place : Place} {done : Syntax} {starts : List Pending} {around : List Open} {here : List Token}
    → Reached all place done starts around here → Left place around
left (in_program _) = record { classes = []; spelled = none_spelled; ends = λ f stop. (f, refl) }
left (in_block outer _) = let c = left outer in through spelled_close_brace c λ f closer. c.ends _
left (in_declaration outer _ _) = let c = left outer in through spelled_close_brace c λ f closer. c.ends _
left (in_function {target = behind} outer waits head _ _) = let c = left outer _ (past_operand {target = behind}) in through spelled_close_brace c λ f closer. c.ends _
left (after_if outer condition) = out_of_nest (statement-done if_nest) (left outer)
left (after_else outer condition first) = out_of_nest (statement-done else_nest) (left outer)
left (after_do {setting = setting} outer) = out_of_nest (statement-done do_nest) (body-done {setting = setting} (left outer))
left (after_head head outer value) = left outer
left (after_for outer head) = left outer
left (after_label outer) = left outer
left (after_case outer test _) = clause_done (left outer)
left (after_default outer _) = clause_done (left outer)
left (block_statement outer) = left outer
left (block_of_try outer) = catch-due (left outer)
left (block_of_catch outer tried) = out_of_nest catch-done (left outer)
left (block_of_finally outer tried) = out_of_nest try-done (left outer)
left (in_switch outer subject _) = closed (left outer)
left (in-for {setting = setting} outer) = closed (inner_statement {setting = setting} (left outer))
left (in_var outer _) = left outer
left (in_for_var outer) = condition_due (left outer)
left (in_for_vars outer _) = condition_due (left outer)
left (in_expression allowed outer) = λ control done. let c = left outer in by_end done spelled_semicolon tt c.classes c.spelled λ f end. c.ends _
left (in_return same outer) = λ control done. let c = left outer in by_end done spelled_semicolon tt c.classes c.spelled λ f end. c.ends _
left (in_throw same outer) = λ control done. let c = left outer in by_end done spelled_semicolon tt c.classes c.spelled λ f end. c.ends _
left (in_variable {place = place} outer) = λ control done. behind_initialiser place done (left outer)
left (in_start outer) = λ control done.
    let c = condition_due (left outer) in
    by_end done spelled_semicolon tt c.classes c.spelled λ f end. c.ends _
left (in_for_test outer first) = λ control done.
    let c = step-due (left outer) in
    by_end done spelled_semicolon tt c.classes c.spelled λ f end. c.ends _
left (in_for_step outer first condition) = λ control done.
    let c = left outer in
    by_end done spelled_close_paren tt c.classes c.spelled λ f closer. c.ends closer.first _
left (in_for_object outer target) = λ control done.
    let c = left outer in
    by_end done spelled_close_paren tt c.classes c.spelled λ f closer. c.in_ends closer.first _
left (in_case outer) = λ control done.
    let c = left outer in
    by_end done spelled_colon tt (close_brace ∷ c.classes) (more_spelled spelled_close_brace c.spelled) λ f sign closer. c.ends closer.first _
left (in_parens {target = behind} outer waits) = λ control done.
    let c = left outer _ (past_operand {target = behind}) in
    by_end done spelled_close_paren tt c.classes c.spelled λ f closer. c.ends _
left (in_index {target = behind} outer waits object) = λ control done.
    let c = left outer _ (past_operand {target = behind}) in
    by_end done spelled_close_bracket tt c.classes c.spelled λ f closer. c.ends _
left (in_condition outer) = λ control done.
    let c = inner_statement {setting = in_nest if_nest} (out_of_nest (statement-done if_nest) (left outer)) in
    by_end done spelled_close_paren tt c.classes c.spelled λ f closer. c.ends _
left (in-head {setting = setting} head outer) = λ control done.
    let c = inner_statement {setting = setting} (left outer) in
    by_end done spelled_close_paren tt c.classes c.spelled λ f closer. c.ends _
left (in_subject {setting = setting} outer) = λ control done.
    let c = switch-past {setting = setting} (left outer) in
    by_end done spelled_close_paren tt c.classes c.spelled λ f closer. c.ends _
left (in_test {setting = setting} outer inner) = λ control done.
    let c = semicolon-due {setting = setting} (left outer) in
    by_end done spelled_close_paren tt c.classes c.spelled λ f closer. c.ends _
left (in_call {target = behind} outer waits callee) = closed (left outer _ (past_operand {target = behind}))
left (in_array {target = behind} outer waits) = closed (left outer _ (past_operand {target = behind}))
left (in_object {target = behind} outer waits) = closed (left outer _ (past_operand {target = behind}))
left (in_conditional outer waits fits condition) = λ control done.
    let c = left outer _ (past_operand {target = some_target}) in
    by_end done spelled_colon tt (name ∷ c.classes) (more_spelled spelled_name c.spelled) λ f answer called. c.ends _
left (in_item {items = items} outer values starts) = λ control done. behind_item items done (left outer)

-- the body of a function: `{ }`
function_body : {all : List Token} {role : Role} {done : Syntax} {starts waiting : List Pending} {around : List Open} {here : List Token}
    → FunctionAt all role done starts waiting around here → Completion (parameter_past role) around
function_body (declaration_at outer) = let c = left outer in in_braces c λ f opener closer. c.ends _
function_body (operand_at {target = target} outer waits) =
    let c = left outer _ (past_operand {target = target}) in
    in_braces c λ f opener closer. c.ends _

-- each partial derivation can be completed, if the text has not ended
completion : {all : List Token} {control : Control} {f : Frame} {around : List Open} {here : List Token} → Partial all control f around here
    → (control ≡ finished → ⊥) → Completion control around
completion (at_statement place) more = left place
completion (at_clause_statement place) more = left place
completion (at_inner_statement {setting = setting} place) more = inner_statement {setting = setting} (left place)
completion {around = around} (behind_name {setting = setting} place) more =
    let c = left place in
    through spelled_semicolon c λ f end. ended semicolon c.classes (past_operand {ending = by_statement setting} {target = some_target}) tt f (inline end) around (c.ends _)
completion (behind_return place) more = let c = left place in through spelled_semicolon c λ f end. c.ends _
completion (behind_throw {setting = setting} place) more =
    let c = left place in
    let value = by_end (past_operand {ending = by_return setting} {target = some_target}) spelled_semicolon tt c.classes c.spelled λ f end. c.ends _ in
    through spelled_name value λ f called. value.ends _
completion (behind_jump jump place) more = let c = left place in through spelled_semicolon c λ f end. c.ends _
completion (behind_head {setting = setting} head place) more =
    in_parens_due {next = statement_due true setting} (λ newline. refl) (inner_statement {setting = setting} (left place))
completion (behind_for {setting = setting} place) more =
    let c = inner_statement {setting = setting} (left place) in
    record {
      classes = open_paren ∷ semicolon ∷ semicolon ∷ close_paren ∷ c.classes;
      spelled = more_spelled spelled_open_paren (more_spelled spelled_semicolon (more_spelled spelled_semicolon (more_spelled spelled_close_paren c.spelled)));
      ends = λ f opener first second closer. c.ends _;
    }
completion (at_start place) more = let c = condition_due (left place) in through spelled_semicolon c λ f end. c.ends _
completion (at_for_test place first) more = condition_due (left place)
completion (at_for_step place first condition) more = step-due (left place)
completion (behind_switch {setting = setting} place) more =
    in_parens_due {next = switch_past setting} (λ newline. refl) (switch-past {setting = setting} (left place))
completion (behind_subject {setting = setting} place subject) more = switch-past {setting = setting} (left place)
completion (at_clause place) more = let c = left place in by_closer spelled_close_brace c λ f closer. c.ends closer.first _
completion (behind_default place) more =
    let c = left place in
    record {
      classes = colon ∷ close_brace ∷ c.classes;
      spelled = more_spelled spelled_colon (more_spelled spelled_close_brace c.spelled);
      ends = λ f sign closer. c.ends closer.first _;
    }
completion (behind_try place) more = let c = left place in in_braces c λ f opener closer. c.ends _
completion (behind_tried place inner) more = catch-due (left place)
completion (behind_catch place inner) more =
    let past = catch-past (left place) in
    record {
      classes = open_paren ∷ name ∷ close_paren ∷ past.classes;
      spelled = more_spelled spelled_open_paren (more_spelled spelled_name (more_spelled spelled_close_paren past.spelled));
      ends = λ f opener called closer. past.ends _;
    }
completion (at_catch_name place inner) more =
    let past = catch-past (left place) in
    record {
      classes = name ∷ close_paren ∷ past.classes;
      spelled = more_spelled spelled_name (more_spelled spelled_close_paren past.spelled);
      ends = λ f called closer. past.ends _;
    }
completion (behind_catch_name place inner) more = let past = catch-past (left place) in through spelled_close_paren past λ f closer. past.ends _
completion (behind_catch_head place) more = let c = left place in in_braces c λ f opener closer. c.ends _
completion (behind_caught place inner handler) more = out_of_nest catch-done (left place)
completion (behind_finally place) more = let c = left place in in_braces c λ f opener closer. c.ends _
completion (behind_try_all place whole) more = out_of_nest try-done (left place)
completion (at_variable place) more =
    let c = left place in
    record {
      classes = name ∷ semicolon ∷ c.classes;
      spelled = more_spelled spelled_name (more_spelled spelled_semicolon c.spelled);
      ends = λ f called end. c.ends _;
    }
completion (behind_variable place) more = let c = left place in through spelled_semicolon c λ f end. c.ends _
completion (behind_body {setting = setting} place inner) more = body-done {setting = setting} (left place)
completion (at_test {setting = setting} place inner) more = test-due {setting = setting} (left place)
completion (at_semicolon {setting = setting} place unended) more = semicolon-due {setting = setting} (left place)
completion (behind_if place) more =
    in_parens_due {next = statement_due true (in_nest if_nest)} (λ newline. refl) (inner_statement {setting = in_nest if_nest} (out_of_nest (statement-done if_nest) (left place)))
completion (behind_then outer condition inner) more = out_of_nest (statement-done if_nest) (left outer)
completion (behind_else outer whole) more = out_of_nest (statement-done else_nest) (left outer)
completion (behind_do {setting = setting} outer inner) more = out_of_nest (statement-done do_nest) (body-done {setting = setting} (left outer))
completion (at_operand {target = target} outer waits fits) more = let c = left outer _ (past_operand {target = target}) in through spelled_name c λ f called. c.ends _
completion (at_member {target = target} outer waits) more = let c = left outer _ (past_operand {target = target}) in through spelled_name c λ f called. c.ends _
completion (behind_operand {target = target} outer waits chain) more = left outer _ (past_operand {target = target})
completion (behind_postfix outer waits fits unary) more = left outer _ past_postfix
completion (behind_dot {target = target} outer waits chain) more = let c = left outer _ (past_operand {target = target}) in through spelled_name c λ f called. c.ends _
completion (behind-function place) more =
    let c = function_body place in
    record {
      classes = name ∷ open_paren ∷ close_paren ∷ c.classes;
      spelled = more_spelled spelled_name (more_spelled spelled_open_paren (more_spelled spelled_close_paren c.spelled));
      ends = λ f called opener closer. c.ends _;
    }
completion (behind_function_name place head) more =
    let c = function_body place in
    record {
      classes = open_paren ∷ close_paren ∷ c.classes;
      spelled = more_spelled spelled_open_paren (more_spelled spelled_close_paren c.spelled);
      ends = λ f opener closer. c.ends _;
    }
completion (at_parameters place head) more = let c = function_body place in through spelled_close_paren c λ f closer. c.ends _
completion (behind_parameter place head names) more = let c = function_body place in through spelled_close_paren c λ f closer. c.ends _
completion (at_parameter place head names) more =
    let c = function_body place in
    record {
      classes = name ∷ close_paren ∷ c.classes;
      spelled = more_spelled spelled_name (more_spelled spelled_close_paren c.spelled);
      ends = λ f parameter closer. c.ends _;
    }
completion (at_function_body place head _) more = function_body place
completion (at_item {items = items} outer values list) more = before_item items (left outer)
completion (behind_property outer values _) more =
    let c = behind_item object_properties (past_operand {target = some_target}) (left outer) in
    record {
      classes = colon ∷ name ∷ c.classes;
      spelled = more_spelled spelled_colon (more_spelled spelled_name c.spelled);
      ends = λ f sign called. c.ends _;
    }
completion (behind_end _) more = absurd (more refl)

-- tokens begin a program: those of some classes complete it, wherever they stand with no line end before them
pub record Viable (all : List Token) : Type 0 where
  pub classes : List ℕ
  pub spelled : AllSpelled classes
  pub completes : (more : List Token) → OfClasses classes more → (parts : Syntax) × Program (all ++ more) parts

pub viable : (all : List Token) (control : Control) (f : Frame) (around : List Open) → run start all ≡ live control f around
    → (control ≡ finished → ⊥) → Viable all
viable all control f around e going =
    let c = completion (run_partial all control f around e) going in
    record {
      classes = c.classes;
      spelled = c.spelled;
      completes = λ more tokens.
          let r = ends_run (live control f around) tokens (c.ends f) anywhere in (
            done_of r.0,
            sound (all ++ more) anywhere r.0
                (ran_is_run anywhere start (all ++ more) ∙ ran_append anywhere all more start ∙ ap (λ (state : State). ran anywhere state more) e ∙ r.1),
          );
    }

pub refused : (all : List Token) {place : ℕ} → run start all ≡ dead place → (more : List Token) (parts : Syntax) → Program (all ++ more) parts → ⊥
refused all {place} e more parts program =
    let dies : ran anywhere start (all ++ more) ≡ dead place =
    ran_append anywhere all more start
    ∙ ap (λ (state : State). ran anywhere state more) e
    ∙ sym (ran_is_run anywhere (dead place) more)
    ∙ stays_dead place (more ++ (token end_of_text anywhere ∷ [])) in
    let lives = complete anywhere program in
    let z : ◌≡◌ {A = ℕ} 0 1 = cc in
    omega arith
