-- What the machine takes to where a program may end has a derivation, with the syntax that the machine has built.
use mathlib.Core.Path.{◌≡◌, refl, sym, ◌∙◌, ap, subst}
use mathlib.Core.Bool.{Bool, true, false}
use mathlib.Core.List.{List, [], ◌∷◌, ◌++◌}
use Prim.Native.Nat.{ℕ}
use native.Mathlib.Omega.{arith}
use Rattle.machine.specs.Tokens.{Token, token, Spot}
use Rattle.machine.specs.Syntax.{Syntax, nil}
use Rattle.grammar.specs.Grammar.{body, block, call_arguments, array_elements, object_properties, statement_if, statement_try, no_statements, Program}
use Rattle.machine.specs.Machinery.Machine.{end_of_text, Frame, frame, done_of, Target, no_target, some_target, lone_target, Ending, by_statement, by_return, by_variable, by_start, by_test, by_step, by_object, by_case, by_paren, by_bracket, by_colon, by_item, among, in_statement, in_head, declared, operand_in, Control, return_first, throw_first, jump_first, finished, Action, fail, Entry, look, in_entry, after_unary, assignment_row, takes_in, postfix_row, after_operand, row, Open, State, dead, live, finish_in, act, consume, run, start}
use Rattle.grammar.proofs.Complete.{run_append}
use Rattle.grammar.proofs.Places.{statement_at, Reached, in_program, in_declaration, in_function}
use Rattle.grammar.proofs.Partial.{
  declaration_at,
  operand_at,
  Partial,
  at_statement,
  at_clause_statement,
  at_inner_statement,
  behind_name,
  behind_return,
  behind_throw,
  behind_jump,
  behind_head,
  behind_for,
  at_start,
  at_for_test,
  at_for_step,
  behind_switch,
  behind_subject,
  at_clause,
  behind_default,
  behind_try,
  behind_tried,
  behind_catch,
  at_catch_name,
  behind_catch_name,
  behind_catch_head,
  behind_caught,
  behind_finally,
  behind_try_all,
  at_variable,
  behind_variable,
  behind_body,
  at_test,
  at_semicolon,
  behind_if,
  behind_then,
  behind_else,
  behind_do,
  at_operand,
  at_member,
  behind_operand,
  behind_postfix,
  behind_dot,
  behind-function,
  behind_function_name,
  at_parameters,
  behind_parameter,
  at_parameter,
  at_function_body,
  at_item,
  behind_property,
  behind_end,
  PartialOf,
  with_statement,
}
use Rattle.grammar.proofs.Steps.{run_keeps}

-- the state behind tokens has their partial derivation
pub run_partial : (all : List Token) (control : Control) (f : Frame) (around : List Open) → run start all ≡ live control f around
    → Partial all control f around []
run_partial all control f around e =
    subst (λ (state : State). PartialOf all state []) e (run_keeps all all start (at_statement (in_program no_statements)))

-- no expression ends with the text
unary_at_end : (ending : Ending) → look end_of_text (after_unary ending) ≡ fail
unary_at_end (by_statement setting) = refl
unary_at_end (by_return setting) = refl
unary_at_end (by_variable (in_statement setting)) = refl
unary_at_end (by_variable (in_head true)) = refl
unary_at_end (by_variable (in_head false)) = refl
unary_at_end by_start = refl
unary_at_end by_test = refl
unary_at_end by_step = refl
unary_at_end by_object = refl
unary_at_end (by_case seen) = refl
unary_at_end by_paren = refl
unary_at_end by_bracket = refl
unary_at_end by_colon = refl
unary_at_end (by_item call_arguments) = refl
unary_at_end (by_item array_elements) = refl
unary_at_end (by_item object_properties) = refl

-- the entries before those of what follows a Unary do not take it
operand_at_end : (ending : Ending) (target : Target) (newline : Bool) → look end_of_text (after_operand ending target newline) ≡ fail
operand_at_end ending no_target true = unary_at_end ending
operand_at_end ending no_target false = unary_at_end ending
operand_at_end ending some_target true = unary_at_end ending
operand_at_end ending some_target false = unary_at_end ending
operand_at_end ending lone_target newline = past (takes_in ending lone_target) newline
  where
    past : (for newline : Bool) → look end_of_text (in_entry for (assignment_row ending lone_target (postfix_row ending newline (after_unary ending)))) ≡ fail
    past true true = unary_at_end ending
    past true false = unary_at_end ending
    past false true = unary_at_end ending
    past false false = unary_at_end ending

-- nor does a row take the end that takes it neither with a line end before it nor without one
row_at_end : (entries : Bool → List Entry) → look end_of_text (entries true) ≡ fail → look end_of_text (entries false) ≡ fail → (newline : Bool)
    → look end_of_text (entries newline) ≡ fail
row_at_end entries with without true = with
row_at_end entries with without false = without

-- behind the end of the text the machine lives only if the text was a program
pub record Ended (all : List Token) (control : Control) (f : Frame) (around : List Open) : Type 0 where
  pub at_end : control ≡ finished
  pub closed : around ≡ []
  pub program : Program all (done_of f)

module _ (all : List Token) (spot : Spot) (after : Control) (g : Frame) (outside : List Open) where
  never : {A : Type 0} {place : ℕ} → dead place ≡ live after g outside → A
  never e = absurd (let z : ◌≡◌ {A = ℕ} 0 1 = cc in omega arith)

  untaken : {A : Type 0} (f : Frame) (around : List Open) {action : Action} → action ≡ fail → act action end_of_text spot f around ≡ live after g outside → A
  untaken f around fails e = never (sym (ap (λ (z : Action). act z end_of_text spot f around) fails) ∙ e)

  finish_taken : {done : Syntax} {around : List Open} → Reached all (statement_at (among body)) done [] around []
      → finish_in spot.first (frame done [] [] nil) around ≡ live after g outside → Ended all after g outside
  finish_taken {done} (in_program statements) e =
      let same : frame done [] [] nil ≡ g = cc in
      record { at_end = cc; closed = cc; program = subst (λ (f : Frame). Program all (done_of f)) same statements }
  finish_taken (in_declaration outer _ _) e = never e
  finish_taken (in_function outer waits head _ _) e = never e

  abbrev Takes : Control → Frame → List Open → Type 0
  Takes control f around = consume (live control f around) (token end_of_text spot) ≡ live after g outside

  -- the text's end, once the nest is left
  abbrev Later : List Open → Type 0
  Later [] = Unit {0}
  Later (h ∷ around) = (control : Control) (f : Frame) → Partial all control f around [] → Takes control f around → Ended all after g outside

  end_taken : {control : Control} {f : Frame} {around : List Open} → Later around → Partial all control f around [] → Takes control f around
      → Ended all after g outside
  end_taken later (at_statement {scope = body} place) e = finish_taken place e
  end_taken later (at_statement {scope = block} place) e = never e
  end_taken later (at_clause_statement place) e = never e
  end_taken later (at_inner_statement place) e = never e
  end_taken {f = f} {around = around} later (behind_name {setting = setting} place) e =
      untaken f around (operand_at_end (by_statement setting) some_target spot.newline) e
  end_taken {f = f} {around = around} later (behind_return {setting = setting} place) e =
      untaken f around (row_at_end (row (return_first setting)) refl refl spot.newline) e
  end_taken {f = f} {around = around} later (behind_throw {setting = setting} place) e =
      untaken f around (row_at_end (row (throw_first setting)) refl refl spot.newline) e
  end_taken {f = f} {around = around} later (behind_jump {setting = setting} jump place) e =
      untaken f around (row_at_end (row (jump_first setting)) refl refl spot.newline) e
  end_taken later (behind_head head place) e = never e
  end_taken later (behind_for place) e = never e
  end_taken later (at_start place) e = never e
  end_taken later (at_for_test place _) e = never e
  end_taken later (at_for_step place _ condition) e = never e
  end_taken later (behind_switch place) e = never e
  end_taken later (behind_subject place subject) e = never e
  end_taken later (at_clause {seen = true} place) e = never e
  end_taken later (at_clause {seen = false} place) e = never e
  end_taken later (behind_default place) e = never e
  end_taken later (behind_try place) e = never e
  end_taken later (behind_tried place inner) e = never e
  end_taken later (behind_catch place inner) e = never e
  end_taken later (at_catch_name place inner) e = never e
  end_taken later (behind_catch_name place inner) e = never e
  end_taken later (behind_catch_head place) e = never e
  end_taken later (behind_caught outer inner handler) e = later _ _ (with_statement outer (statement_try tt inner handler)) e
  end_taken later (behind_finally place) e = never e
  end_taken later (behind_try_all outer whole) e = later _ _ (with_statement outer whole) e
  end_taken later (at_variable place) e = never e
  end_taken later (behind_variable {place = in_statement setting} place) e = never e
  end_taken later (behind_variable {place = in_head true} place) e = never e
  end_taken later (behind_variable {place = in_head false} place) e = never e
  end_taken later (behind_body place inner) e = never e
  end_taken later (at_test place inner) e = never e
  end_taken later (at_semicolon place unended) e = never e
  end_taken later (behind_if place) e = never e
  end_taken later (behind_then outer condition inner) e = later _ _ (with_statement outer (statement_if tt condition inner)) e
  end_taken later (behind_else outer whole) e = later _ _ (with_statement outer whole) e
  end_taken later (behind_do outer inner) e = later _ _ (behind_body outer inner) e
  end_taken later (at_operand outer waits fits) e = never e
  end_taken later (at_member outer waits) e = never e
  end_taken {f = f} {around = around} later (behind_operand {ending = ending} {target = target} outer waits chain) e =
      untaken f around (operand_at_end ending target spot.newline) e
  end_taken {f = f} {around = around} later (behind_postfix {ending = ending} outer waits fits unary) e = untaken f around (unary_at_end ending) e
  end_taken later (behind_dot outer waits chain) e = never e
  end_taken later (behind-function {role = declared} place) e = never e
  end_taken later (behind-function {role = operand_in ending _} place) e = never e
  end_taken later (behind_function_name place head) e = never e
  end_taken later (at_parameters place head) e = never e
  end_taken later (behind_parameter place head names) e = never e
  end_taken later (at_parameter place head names) e = never e
  end_taken later (at_function_body (declaration_at place) head _) e = never e
  end_taken later (at_function_body (operand_at outer waits) head _) e = never e
  end_taken later (at_item {items = call_arguments} outer values list) e = never e
  end_taken later (at_item {items = array_elements} outer values list) e = never e
  end_taken later (at_item {items = object_properties} outer values list) e = never e
  end_taken later (behind_property outer values _) e = never e
  end_taken later (behind_end _) e = never e

  each_end_taken : (around : List Open) (control : Control) (f : Frame) → Partial all control f around [] → Takes control f around
      → Ended all after g outside
  each_end_taken [] control f p e = end_taken tt p e
  each_end_taken (h ∷ around) control f p e = end_taken (each_end_taken around) p e

pub sound_to_end : (all : List Token) (spot : Spot) (control : Control) (f : Frame) (around : List Open)
    → run start (all ++ (token end_of_text spot ∷ [])) ≡ live control f around → Ended all control f around
sound_to_end all spot control f around e = go (run start all) refl (sym (run_append all (token end_of_text spot ∷ []) start) ∙ e)
  where
    go : (state : State) → run start all ≡ state → consume state (token end_of_text spot) ≡ live control f around → Ended all control f around
    go (dead place) runs taken = never all spot control f around taken
    go (live before g outside) runs taken = each_end_taken all spot control f around outside before g (run_partial all before g outside runs) taken

-- what the machine takes with the text's end behind it is a program
pub sound : (all : List Token) (spot : Spot) (f : Frame) → run start (all ++ (token end_of_text spot ∷ [])) ≡ live finished f [] → Program all (done_of f)
sound all spot f e = (sound_to_end all spot finished f [] e).program
