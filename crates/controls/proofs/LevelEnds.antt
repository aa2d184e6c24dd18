-- Where a level ends at one closer, and where at none.
use mathlib.Core.Path.{◌≡◌, refl, ◌∙◌}
use mathlib.Core.Bool.{Bool, true, false}
use mathlib.Core.List.{List, ◌∷◌}
use mathlib.Core.Logic.{◌⊎◌, inl, inr}
use Prim.Native.Nat.{ℕ}
use borrow.Author.Tests.{both_ways}
use lib.Dec.{T, eqb}
use Rattle.machine.specs.Tokens.{question, dot, open_paren, close_paren, close_brace, open_bracket, close_bracket}
use Rattle.machine.specs.Operators.{binary_operators_by}
use Rattle.machine.specs.Scopes.{Items, call_arguments, array_elements, object_properties}
use Rattle.machine.specs.Machinery.Machine.{end_of_text, in_clause, Variables, in_statement, in_head, Target, no_target, some_target, lone_target, keep, take_operator, to_call, to_index, Ending, by_statement, by_return, by_variable, by_start, by_test, by_step, by_object, by_case, by_paren, by_bracket, by_colon, by_item, Control, statement_due, variable_named, step_due, clause_due, catch_named, operand_due, operand_done, dot_last, parameter_named, item_due, Action, fail, goto, push, ask, Entry, on, for_each, list_closer, in_entry, takes_in, allows_in, assignment_row, postfix_row, after_unary, ending_row, look, row}
use Rattle.controls.specs.declared.Place as places
use Rattle.controls.specs.declared.Place.TheVariants as stand
use Rattle.controls.specs.declared.Setting as settings
use Rattle.controls.specs.declared.Ending as endings
use Rattle.controls.specs.declared.Ending.TheVariants as by
use Rattle.controls.specs.Machinery.Numbers.{variables_by, ending_by, control_by}
use Rattle.machine.specs.Machinery.Classes.{is_end}
use Rattle.controls.specs.Machinery.Steps.{Ended, ended_operand, ended_postfix, SettledAt, Ends, ends_expression, ends_item, ends_items, ends_parameter, ends_head, ends_object, ends_no_step, ends_clauses, ends_caught, goes_on}
use Rattle.controls.proofs.EndLaws.{at_closers}

-- the places where a level may end
abbrev pub may_end : places.Place → Bool
may_end stand.StatementDue = true
may_end stand.OperandDone = true
may_end stand.PostfixDone = true
may_end stand.StepDue = true
may_end stand.ItemDue = true
may_end stand.ClauseDue = true
may_end stand.CatchNamed = true
may_end stand.ParameterDue = true
may_end stand.ParameterNamed = true
may_end _ = false

abbrev pub EndsAt : Control → ℕ → ℕ → Type 0
EndsAt control one closer = Ends closer control (eqb closer one) (look closer (row control false))

abbrev pub GoesOn : ℕ → Control → Type 0
GoesOn closer control = Ends closer control false (look closer (row control false))

-- an expression whose end is no closer
abbrev pub spares : Ending → Bool
spares (by_statement setting) = true
spares (by_return setting) = true
spares (by_variable place) = true
spares by_start = true
spares by_test = true
spares by_step = false
spares by_object = false
spares (by_case seen) = true
spares by_paren = false
spares by_bracket = false
spares by_colon = true
spares (by_item items) = false

module _ (closer : ℕ) (end : T (is_end closer)) where
  pub no_closer_at : (control : Control) → look close_paren (row control false) ≡ fail → look close_brace (row control false) ≡ fail
      → look close_bracket (row control false) ≡ fail → look end_of_text (row control false) ≡ fail → GoesOn closer control
  no_closer_at control paren brace bracket text =
      rw (at_closers (λ (k : ℕ). look k (row control false) ≡ fail) paren brace bracket text closer end) goes_on

  -- a list ends at its closer, where an item is due and behind one
  pub items_end : (items : Items) → EndsAt (item_due items) (list_closer items) closer
  items_end call_arguments = at_closers (EndsAt (item_due call_arguments) close_paren) ends_items goes_on goes_on goes_on closer end
  items_end array_elements = at_closers (EndsAt (item_due array_elements) close_bracket) goes_on goes_on ends_items goes_on closer end
  items_end object_properties = at_closers (EndsAt (item_due object_properties) close_brace) goes_on ends_items goes_on goes_on closer end

  -- the clauses of a `switch` end at `}`
  pub clauses_end : (seen : Bool) → EndsAt (clause_due seen) close_brace closer
  clauses_end true = at_closers (EndsAt (clause_due true) close_brace) goes_on ends_clauses goes_on goes_on closer end
  clauses_end false = at_closers (EndsAt (clause_due false) close_brace) goes_on ends_clauses goes_on goes_on closer end

  -- behind a parameter, and where the last part of a `for`'s head is due, a group ends at `)`
  pub past_last : (place : places.Place) (ending : endings.Ending) (setting : settings.Setting) (flag : Bool)
      → (place ≡ stand.StepDue) ⊎ ((place ≡ stand.CatchNamed) ⊎ (place ≡ stand.ParameterNamed)) → EndsAt (control_by place ending setting flag) close_paren closer
  past_last place ending setting flag (inl e) = rw e (at_closers (EndsAt step_due close_paren) ends_no_step goes_on goes_on goes_on closer end)
  past_last place ending setting flag (inr (inl e)) = rw e (at_closers (EndsAt catch_named close_paren) ends_caught goes_on goes_on goes_on closer end)
  past_last place ending setting flag (inr (inr e)) = rw e (at_closers (EndsAt parameter_named close_paren) ends_parameter goes_on goes_on goes_on closer end)

  -- entries for no closer are passed over
  passed : (f : List Entry → List Entry) → ((rest : List Entry) → look close_paren (f rest) ≡ look close_paren rest)
      → ((rest : List Entry) → look close_brace (f rest) ≡ look close_brace rest) → ((rest : List Entry) → look close_bracket (f rest) ≡ look close_bracket rest)
      → ((rest : List Entry) → look end_of_text (f rest) ≡ look end_of_text rest) → (rest : List Entry) → look closer (f rest) ≡ look closer rest
  passed f paren brace bracket text = at_closers (λ (k : ℕ). (rest : List Entry) → look k (f rest) ≡ look k rest) paren brace bracket text closer end

  operators_passed : (within : Bool) (action : ℕ → Action) (rest : List Entry)
      → look closer (for_each action (binary_operators_by within) rest) ≡ look closer rest
  operators_passed true action = passed (for_each action (binary_operators_by true)) (λ rest. refl) (λ rest. refl) (λ rest. refl) (λ rest. refl)
  operators_passed false action = passed (for_each action (binary_operators_by false)) (λ rest. refl) (λ rest. refl) (λ rest. refl) (λ rest. refl)

  in_passed : (b : Bool) (rest : List Entry) → look closer (in_entry b rest) ≡ look closer rest
  in_passed true rest = passed (in_entry true) (λ rest. refl) (λ rest. refl) (λ rest. refl) (λ rest. refl) rest
  in_passed false rest = refl

  assignments_passed : (ending : Ending) (target : Target) (rest : List Entry) → look closer (assignment_row ending target rest) ≡ look closer rest
  assignments_passed ending no_target rest = refl
  assignments_passed ending some_target rest = passed (assignment_row ending some_target) (λ rest. refl) (λ rest. refl) (λ rest. refl) (λ rest. refl) rest
  assignments_passed ending lone_target rest = passed (assignment_row ending lone_target) (λ rest. refl) (λ rest. refl) (λ rest. refl) (λ rest. refl) rest

  -- behind a Unary a closer is for what ends the expression
  unary_ended : (ending : Ending) → look closer (after_unary ending) ≡ look closer (ending_row ending)
  unary_ended ending =
      operators_passed (allows_in ending) (λ class. goto (operand_due ending no_target) (take_operator class)) (on question (ask ending) ∷ ending_row ending)
      ∙ passed (λ (rest : List Entry). on question (ask ending) ∷ rest) (λ rest. refl) (λ rest. refl) (λ rest. refl) (λ rest. refl) (ending_row ending)

  ended : {from : Control} {ending : Ending} → Ended from ending → look closer (row from false) ≡ look closer (ending_row ending)
  ended (ended_operand {ending} {target}) =
      passed (λ (rest : List Entry). on dot (goto (dot_last ending target) keep) ∷ on open_paren (push (item_due call_arguments) (operand_done ending target) to_call) ∷ on open_bracket (push (operand_due by_bracket some_target) (operand_done ending target) to_index) ∷ rest) (λ rest. refl) (λ rest. refl) (λ rest. refl) (λ rest. refl) (in_entry (takes_in ending target) (assignment_row ending target (postfix_row ending false (after_unary ending))))
      ∙ in_passed (takes_in ending target) (assignment_row ending target (postfix_row ending false (after_unary ending)))
      ∙ assignments_passed ending target (postfix_row ending false (after_unary ending))
      ∙ passed (postfix_row ending false) (λ rest. refl) (λ rest. refl) (λ rest. refl) (λ rest. refl) (after_unary ending)
      ∙ unary_ended ending
  ended (ended_postfix {ending}) = unary_ended ending

  -- an expression that ends at `)`: behind the parts of a `for`'s head, or all of a group
  step_ends : {from : Control} → Ended from by_step → EndsAt from close_paren closer
  step_ends {from} e = rw (ended e) (at_closers (λ (k : ℕ). Ends k from (eqb k close_paren) (look k (ending_row by_step))) (ends_head e) goes_on goes_on goes_on closer end)

  object_ends : {from : Control} → Ended from by_object → EndsAt from close_paren closer
  object_ends {from} e =
      rw (ended e) (at_closers (λ (k : ℕ). Ends k from (eqb k close_paren) (look k (ending_row by_object))) (ends_object e) goes_on goes_on goes_on closer end)

  paren_ends : {from : Control} → Ended from by_paren → EndsAt from close_paren closer
  paren_ends {from} e =
      rw (ended e) (at_closers (λ (k : ℕ). Ends k from (eqb k close_paren) (look k (ending_row by_paren))) (ends_expression tt e) goes_on goes_on goes_on closer end)

  pub parens_end : {from : Control} (ending : endings.Ending) (setting : settings.Setting)
      → (ending ≡ by.Step) ⊎ ((ending ≡ by.Object) ⊎ (ending ≡ by.Paren)) → Ended from (ending_by ending setting) → EndsAt from close_paren closer
  parens_end ending setting (inl e) m = step_ends (rw e at m)
  parens_end ending setting (inr (inl e)) m = object_ends (rw e at m)
  parens_end ending setting (inr (inr e)) m = paren_ends (rw e at m)

  pub bracket_ends : {from : Control} → Ended from by_bracket → EndsAt from close_bracket closer
  bracket_ends {from} e =
      rw (ended e)
      (at_closers (λ (k : ℕ). Ends k from (eqb k close_bracket) (look k (ending_row by_bracket))) goes_on goes_on (ends_expression tt e) goes_on closer end)

  pub item_ends : {from : Control} (items : Items) → Ended from (by_item items) → EndsAt from (list_closer items) closer
  item_ends {from} items e = rw (ended e) (go items e)
    where
      go : (items : Items) → Ended from (by_item items) → Ends closer from (eqb closer (list_closer items)) (look closer (ending_row (by_item items)))
      go call_arguments e =
          at_closers (λ (k : ℕ). Ends k from (eqb k close_paren) (look k (ending_row (by_item call_arguments)))) (ends_item e) goes_on goes_on goes_on closer end
      go array_elements e =
          at_closers (λ (k : ℕ). Ends k from (eqb k close_bracket) (look k (ending_row (by_item array_elements)))) goes_on goes_on (ends_item e) goes_on closer end
      go object_properties e =
          at_closers (λ (k : ℕ). Ends k from (eqb k close_brace) (look k (ending_row (by_item object_properties)))) goes_on (ends_item e) goes_on goes_on closer end

  -- an expression in a statement, in the head of a `for` or of a clause, or behind a `?`
  spared : (ending : Ending) → T (spares ending) → look closer (ending_row ending) ≡ fail
  spared (by_statement setting) t = at_closers (λ (k : ℕ). look k (ending_row (by_statement setting)) ≡ fail) refl refl refl refl closer end
  spared (by_return setting) t = at_closers (λ (k : ℕ). look k (ending_row (by_return setting)) ≡ fail) refl refl refl refl closer end
  spared (by_variable (in_statement setting)) t =
      at_closers (λ (k : ℕ). look k (ending_row (by_variable (in_statement setting))) ≡ fail) refl refl refl refl closer end
  spared (by_variable (in_head true)) t = at_closers (λ (k : ℕ). look k (ending_row (by_variable (in_head true))) ≡ fail) refl refl refl refl closer end
  spared (by_variable (in_head false)) t = at_closers (λ (k : ℕ). look k (ending_row (by_variable (in_head false))) ≡ fail) refl refl refl refl closer end
  spared by_start t = at_closers (λ (k : ℕ). look k (ending_row by_start) ≡ fail) refl refl refl refl closer end
  spared by_test t = at_closers (λ (k : ℕ). look k (ending_row by_test) ≡ fail) refl refl refl refl closer end
  spared by_step t = absurd t
  spared by_object t = absurd t
  spared (by_case seen) t = at_closers (λ (k : ℕ). look k (ending_row (by_case seen)) ≡ fail) refl refl refl refl closer end
  spared by_paren t = absurd t
  spared by_bracket t = absurd t
  spared by_colon t = at_closers (λ (k : ℕ). look k (ending_row by_colon) ≡ fail) refl refl refl refl closer end
  spared (by_item items) t = absurd t

  pub none_ends : {from : Control} {ending : Ending} → Ended from ending → T (spares ending) → GoesOn closer from
  none_ends {ending} e t = rw (ended e, spared ending t) goes_on

  named_goes_on : (variables : Variables) → GoesOn closer (variable_named variables)
  named_goes_on (in_statement s) = no_closer_at (variable_named (in_statement s)) refl refl refl refl
  named_goes_on (in_head true) = no_closer_at (variable_named (in_head true)) refl refl refl refl
  named_goes_on (in_head false) = no_closer_at (variable_named (in_head false)) refl refl refl refl

  -- each settled place but the nine where a level may end
  pub elsewhere : (place : places.Place) (ending : endings.Ending) (setting : settings.Setting) (flag : Bool) → SettledAt place setting closer → may_end place ≡ false
      → GoesOn closer (control_by place ending setting flag)
  elsewhere stand.StatementDue ending setting flag settled none = absurd (both_ways true none refl)
  elsewhere stand.OperandDone ending setting flag settled none = absurd (both_ways true none refl)
  elsewhere stand.PostfixDone ending setting flag settled none = absurd (both_ways true none refl)
  elsewhere stand.VariableNamed ending setting flag settled none = named_goes_on (variables_by ending setting)
  elsewhere stand.StepDue ending setting flag settled none = absurd (both_ways true none refl)
  elsewhere stand.ItemDue ending setting flag settled none = absurd (both_ways true none refl)
  elsewhere stand.ClauseDue ending setting flag settled none = absurd (both_ways true none refl)
  elsewhere stand.CatchNamed ending setting flag settled none = absurd (both_ways true none refl)
  elsewhere stand.ParameterDue ending setting flag settled none = absurd (both_ways true none refl)
  elsewhere stand.ParameterNamed ending setting flag settled none = absurd (both_ways true none refl)
  elsewhere stand.StatementDone ending setting flag settled none = absurd (rw (settled.no_nest refl).1 at end)
  elsewhere stand.NameFirst ending setting flag settled none = absurd (rw (settled.no_name refl) at end)
  elsewhere stand.CatchDone ending setting flag settled none = absurd (rw (settled.no_catch refl) at end)
  elsewhere stand.TryEnded ending setting flag settled none = absurd (settled.no_try refl)
  elsewhere stand.ClauseStatement ending setting flag settled none =
      at_closers (λ (k : ℕ). (k ≡ close_brace → ⊥) → GoesOn k (statement_due false in_clause)) (λ other. goes_on) (λ other. absurd (other refl)) (λ other. goes_on) (λ other. goes_on) closer end (settled.no_clause refl).2
  elsewhere place ending setting flag settled none = no_closer_at (control_by place ending setting flag) refl refl refl refl
