-- Each step of the machine keeps a partial derivation.
use mathlib.Core.Path.{subst}
use mathlib.Core.Bool.{Bool, true, false, not, cond}
use mathlib.Core.List.{List, [], ◌∷◌}
use Prim.Native.Nat.{ℕ}
use native.Mathlib.Omega.{arith}
use lib.Dec.{T, eqb, eqb→eq}
use Rattle.machine.specs.Tokens.{Token, token, Spot, name, comma, else_word, while_word, for_word, switch_word, default_word, throw_word, catch_word, finally_word, semicolon, dot, open_paren, close_paren, return_word, function_word, if_word}
use Rattle.machine.specs.Syntax.{Syntax, nil, node, snoc, full_return_syntax}
use Rattle.grammar.specs.Grammar.{leaf_name, identifier, reserved_word, object_properties, at_property, Names, one_name, more_names, Parameters, no_parameters, some_parameters, items_form, list_form, Derives, Chain, chain_leaf, chain_member, block_form, catch_form, optional_form, Expression, Statement, variable_bare, statement_if, left_out, statement_bare_jump, statement_bare_return, no_clauses, add_case, add_default, statement_try, no_statements}
use Rattle.machine.specs.Machinery.Machine.{
  pending,
  Frame,
  frame,
  keep,
  take_else,
  start_statement,
  to_statement,
  done_value,
  statement_value,
  else_nest,
  among,
  in_clause,
  in_nest,
  some_target,
  lone_target,
  by_statement,
  by_return,
  by_start,
  by_test,
  by_step,
  declared,
  operand_in,
  Control,
  statement_due,
  behind_statement,
  name_first,
  return_first,
  throw_first,
  jump_first,
  head_first,
  for_first,
  start_due,
  test_due,
  step_due,
  switch_first,
  switch_past,
  clause_due,
  default_first,
  try_first,
  try_done,
  catch_first,
  catch_due,
  catch_named,
  catch_past,
  catch_done,
  finally_first,
  try_ended,
  variable_due,
  variable_named,
  body_done,
  test_first,
  semicolon_due,
  if_first,
  dot_last,
  function_first,
  function_named,
  parameter_past,
  item_due,
  property_named,
  parameter_due,
  parameter_named,
  goto,
  leave,
  Entry,
  on,
  look,
  is_first,
  operand,
  member,
  after_unary,
  after_operand,
  row,
  Open,
  nested,
  State,
  dead,
  live,
  act,
  run,
}
use Rattle.grammar.proofs.TableLaws.{EachEntry, looked_up, map_entries, unless_entries}
use Rattle.grammar.proofs.Waiting.{none_waits, may_call, no_news}
use Rattle.grammar.proofs.Places.{
  statement_at,
  block_at,
  clause_at,
  head_at,
  variable_at,
  ForStart,
  start_expression,
  three_parts,
  tried_block,
  tried_catch,
  Head,
  with_name,
  without_name,
  Reached,
  in_block,
  in_declaration,
  in_function,
  after_else,
  after_label,
  after_case,
  after_default,
  block_of_catch,
  block_of_finally,
  in_switch,
  in-for,
  in_for_var,
  in_expression,
  in_return,
  in_throw,
  in_variable,
  in_start,
  in_for_test,
  in_for_step,
  in_case,
  in_condition,
  in-head,
  in_subject,
  in_test,
  in_item,
}
use Rattle.grammar.proofs.Partial.{
  FunctionAt,
  declaration_at,
  operand_at,
  variable-at,
  Unended,
  jump_unended,
  semicolon_ends,
  Partial,
  at_statement,
  at_clause_statement,
  at_inner_statement,
  behind_name,
  behind_return,
  behind_throw,
  behind_jump,
  behind_head,
  behind_for,
  at_start,
  at_for_test,
  at_for_step,
  behind_switch,
  behind_subject,
  at_clause,
  behind_default,
  behind_try,
  behind_tried,
  behind_catch,
  at_catch_name,
  behind_catch_name,
  behind_catch_head,
  behind_caught,
  behind_finally,
  behind_try_all,
  at_variable,
  behind_variable,
  behind_body,
  at_test,
  at_semicolon,
  behind_if,
  behind_then,
  behind_else,
  behind_do,
  at_operand,
  at_member,
  behind_operand,
  behind_postfix,
  behind_dot,
  behind-function,
  behind_function_name,
  at_parameters,
  behind_parameter,
  at_parameter,
  at_function_body,
  at_item,
  behind_property,
  behind_end,
  PartialOf,
  at_expression,
  with_statement,
  variable_ends,
  last_variable_ends,
  only_variable_ends,
  head_closes,
  clauses_close,
}
use Rattle.grammar.proofs.Rows.{in_row, Keeps, KeepsMember, KeepsOperand, member_row, operand_row, KeepsUnary, unary_row, KeepsChain, chain_row, item-row, no_statement_row, no_clause_statement_row, statement_row}

module _ (all : List Token) (spot : Spot) (rest : List Token) where
  -- what stands around a nest takes the token, once the nest is left
  abbrev Later : List Open → Type 0
  Later [] = Unit {0}
  Later (h ∷ around) = (class : ℕ) (control : Control) (f : Frame) → Partial all control f around (token class spot ∷ rest)
      → PartialOf all (act (look class (row control spot.newline)) class spot f around) rest

  -- the statements of a clause are a nest
  clause_leaves : {done : Syntax} {around : List Open} → Later around → (class : ℕ)
      → Reached all (statement_at in_clause) done [] around (token class spot ∷ rest)
      → PartialOf all (act (leave done_value) class spot (frame done [] [] nil) around) rest
  clause_leaves later class (after_case (in_switch outer subject clauses) test statements) =
      later class _ _ (at_clause (in_switch outer subject (add_case clauses test statements)))
  clause_leaves later class (after_default (in_switch outer subject clauses) statements) =
      later class _ _ (at_clause (in_switch outer subject (add_default clauses statements)))

  module _ (class : ℕ) where
    -- by the row of a control, of which each entry keeps what stands there
    by_row : (entries : List Entry) (f : Frame) (around : List Open) (Stands : List Token → Type 0)
        → EachEntry (Keeps all spot rest around f Stands) entries → Stands (token class spot ∷ rest)
        → PartialOf all (act (look class entries) class spot f around) rest
    by_row entries f around Stands each stands = looked_up (Keeps all spot rest around f Stands) entries each (λ k s. tt) class stands

    step_keeps : {control : Control} {f : Frame} {around : List Open} → Later around → Partial all control f around (token class spot ∷ rest)
        → PartialOf all (act (look class (row control spot.newline)) class spot f around) rest
    step_keeps {around = around} later (at_statement {scope = scope} {done = done} place) =
        by_row (row (statement_due false (among scope)) spot.newline) (frame done [] [] nil) around (Reached all (statement_at (among scope)) done [] around)
        (statement_row all spot rest around false (among scope) done [] (no_statement_row all spot rest around scope done)) place
    step_keeps {around = around} later (at_clause_statement {done = done} place) =
        by_row (row (statement_due false in_clause) spot.newline) (frame done [] [] nil) around (Reached all (statement_at in_clause) done [] around)
        (statement_row all spot rest around false in_clause done [] (no_clause_statement_row all spot rest around done (clause_leaves later))) place
    step_keeps {around = around} later (at_inner_statement {setting = setting} {done = done} {starts = starts} place) =
        by_row (row (statement_due true setting) spot.newline) (frame done starts [] nil) around (Reached all (statement_at setting) done starts around)
        (statement_row all spot rest around true setting done starts tt) place
    step_keeps {f = f} {around = around} later (behind_name {setting = setting} {done = done} {starts = starts} {spot = before} place) =
        let Stands : List Token → Type 0 = λ here. Reached all (statement_at setting) done starts around (token name before ∷ here) in
        by_row (row (name_first setting) spot.newline) f around Stands (
          (λ s. at_inner_statement (after_label s)),
          map_entries (KeepsChain all spot rest around (by_statement setting) some_target done starts [] (node name before.mark nil nil))
              (Keeps all spot rest around f Stands) (after_operand (by_statement setting) some_target spot.newline)
              (λ k action keeps s. keeps _ _ _ (in_expression tt s) (none_waits tt) (chain_leaf leaf_name))
              (chain_row all spot rest around (by_statement setting) done starts [] (node name before.mark nil nil) some_target),
        )
        place
    step_keeps {f = f} {around = around} later (behind_return {setting = setting} {done = done} {starts = starts} {word = word} place) =
        let Stands : List Token → Type 0 = λ here. Reached all (statement_at setting) done starts around (token return_word word ∷ here) in
        by_row (row (return_first setting) spot.newline) f around Stands (
          (λ s. with_statement s statement_bare_return),
          unless_entries (Keeps all spot rest around f Stands) spot.newline (operand (by_return setting) some_target)
              (λ same.
              map_entries (KeepsOperand all spot rest around (by_return setting) some_target done (pending full_return_syntax word.mark nil ∷ starts) [] nil)
              (Keeps all spot rest around f Stands) (operand (by_return setting) some_target)
              (λ k action keeps s. keeps _ _ (in_return same s) (none_waits tt) (omega arith))
              (operand_row all spot rest around (by_return setting) some_target done (pending full_return_syntax word.mark nil ∷ starts) [] nil)),
        )
        place
    step_keeps {f = f} {around = around} later (behind_throw {setting = setting} {done = done} {starts = starts} {word = word} place) =
        let Stands : List Token → Type 0 = λ here. Reached all (statement_at setting) done starts around (token throw_word word ∷ here) in
        by_row (row (throw_first setting) spot.newline) f around Stands
        (unless_entries (Keeps all spot rest around f Stands) spot.newline (operand (by_return setting) some_target)
        (λ same.
        map_entries (KeepsOperand all spot rest around (by_return setting) some_target done (pending throw_word word.mark nil ∷ starts) [] nil)
        (Keeps all spot rest around f Stands) (operand (by_return setting) some_target)
        (λ k action keeps s. keeps _ _ (in_throw same s) (none_waits tt) (omega arith))
        (operand_row all spot rest around (by_return setting) some_target done (pending throw_word word.mark nil ∷ starts) [] nil)))
        place
    step_keeps {f = f} {around = around} later (behind_jump {setting = setting} {class = jump} {done = done} {starts = starts} {word = word} jumps place) =
        let Stands : List Token → Type 0 = λ here. Reached all (statement_at setting) done starts around (token jump word ∷ here) in
        by_row (row (jump_first setting) spot.newline) f around Stands (
          (λ s. with_statement s (statement_bare_jump jumps)),
          unless_entries (Keeps all spot rest around f Stands) spot.newline (on name (goto (semicolon_due setting) keep) ∷ [])
              (λ same. ((λ s. at_semicolon s (jump_unended jumps same)), tt)),
        )
        place
    step_keeps {f = f} {around = around} later (behind_head {setting = setting} {class = head} {done = done} {starts = starts} {word = word} heads place) =
        by_row (row (head_first setting) spot.newline) f around (λ here. Reached all (statement_at setting) done starts around (token head word ∷ here))
        ((λ s. at_expression (in-head heads s)), tt) place
    step_keeps {f = f} {around = around} later (behind_for {setting = setting} {done = done} {starts = starts} {word = word} place) =
        by_row (row (for_first setting) spot.newline) f around (λ here. Reached all (statement_at setting) done starts around (token for_word word ∷ here))
        ((λ s. at_start (in-for s)), tt) place
    step_keeps {f = f} {around = around} later (at_start place) =
        let Stands : List Token → Type 0 = Reached all head_at nil [] around in
        by_row (row start_due spot.newline) f around Stands (
          (λ s. at_for_test s (start_expression left_out)),
          (
            (λ s. at_variable (in_for_var s)),
            map_entries (KeepsOperand all spot rest around by_start lone_target nil [] [] nil) (Keeps all spot rest around f Stands)
                (operand by_start lone_target) (λ k action keeps s. keeps _ _ (in_start s) (none_waits tt) (omega arith))
                (operand_row all spot rest around by_start lone_target nil [] [] nil),
          ),
        )
        place
    step_keeps {f = f} {around = around} later (at_for_test {start = part} {sign = sign} {first = first} place start) =
        let Stands : List Token → Type 0 = λ here. ForStart first (token semicolon sign ∷ here) part in
        by_row (row test_due spot.newline) f around Stands (
          (λ s. at_for_step place s left_out),
          map_entries (KeepsOperand all spot rest around by_test some_target (snoc nil part) [] [] nil) (Keeps all spot rest around f Stands)
              (operand by_test some_target) (λ k action keeps s. keeps _ _ (in_for_test place s) (none_waits tt) (omega arith))
              (operand_row all spot rest around by_test some_target (snoc nil part) [] [] nil),
        )
        start
    step_keeps {f = f} {around = around} later (at_for_step {start = part} {condition = test} {second = second} {test = tested} place start condition) =
        let Stands : List Token → Type 0 = λ here. Derives (optional_form true) tested (token semicolon second ∷ here) test in
        by_row (row step_due spot.newline) f around Stands (
          (λ s. head_closes place (three_parts start s left_out) spot.first),
          map_entries (KeepsOperand all spot rest around by_step some_target (snoc (snoc nil part) test) [] [] nil) (Keeps all spot rest around f Stands)
              (operand by_step some_target) (λ k action keeps s. keeps _ _ (in_for_step place start s) (none_waits tt) (omega arith))
              (operand_row all spot rest around by_step some_target (snoc (snoc nil part) test) [] [] nil),
        )
        condition
    step_keeps {f = f} {around = around} later (behind_switch {setting = setting} {done = done} {starts = starts} {word = word} place) =
        by_row (row (switch_first setting) spot.newline) f around (λ here. Reached all (statement_at setting) done starts around (token switch_word word ∷ here))
        ((λ s. at_expression (in_subject s)), tt) place
    step_keeps {f = f} {around = around} later (behind_subject {setting = setting} {subject = value} {closer = closer} {inside = inside} place subject) =
        by_row (row (switch_past setting) spot.newline) f around (λ here. Expression inside (token close_paren closer ∷ here) value)
        ((λ s. at_clause (in_switch place s no_clauses)), tt) subject
    step_keeps {f = f} {around = around} later (at_clause {seen = true} {cases = cases} place) =
        by_row (row (clause_due true) spot.newline) f around (Reached all (clause_at true) cases [] around)
        ((λ s. at_expression (in_case s)), ((λ s. clauses_close s spot.first), tt)) place
    step_keeps {f = f} {around = around} later (at_clause {seen = false} {cases = cases} place) =
        by_row (row (clause_due false) spot.newline) f around (Reached all (clause_at false) cases [] around)
        ((λ s. at_expression (in_case s)), ((λ s. clauses_close s spot.first), ((λ s. behind_default s), tt))) place
    step_keeps {f = f} {around = around} later (behind_default {cases = cases} {word = word} place) =
        by_row (row default_first spot.newline) f around (λ here. Reached all (clause_at false) cases [] around (token default_word word ∷ here))
        ((λ s. at_clause_statement (after_default s no_statements)), tt) place
    step_keeps {f = f} {around = around} later (behind_try {done = done} {starts = starts} place) =
        by_row (row try_first spot.newline) f around (Reached all (block_at try_done) done starts around) ((λ s. at_statement (in_block s no_statements)), tt) place
    step_keeps {f = f} {around = around} later (behind_tried {inner = part} {before = before} place inner) =
        by_row (row try_done spot.newline) f around (λ here. Derives block_form before here part)
        ((λ s. behind_catch place s), ((λ s. behind_finally (block_of_finally place (tried_block s))), tt)) inner
    step_keeps {f = f} {around = around} later (behind_catch {inner = part} {other = other} {before = before} place inner) =
        by_row (row catch_first spot.newline) f around (λ here. Derives block_form before (token catch_word other ∷ here) part)
        ((λ s. at_catch_name place s), tt) inner
    step_keeps {f = f} {around = around} later (at_catch_name {inner = part} {other = other} {opener = opener} {before = before} place inner) =
        by_row (row catch_due spot.newline) f around (λ here. Derives block_form before (token catch_word other ∷ token open_paren opener ∷ here) part)
        ((λ s. behind_catch_name place s), tt) inner
    step_keeps {f = f} {around = around} later (behind_catch_name {inner = part} {other = other} {opener = opener} {called = called} {before = before} place inner) =
        by_row (row catch_named spot.newline) f around
        (λ here. Derives block_form before (token catch_word other ∷ token open_paren opener ∷ token name called ∷ here) part)
        ((λ s. behind_catch_head (block_of_catch place s)), tt) inner
    step_keeps {f = f} {around = around} later (behind_catch_head {done = done} {starts = starts} place) =
        by_row (row catch_past spot.newline) f around (Reached all (block_at catch_done) done starts around) ((λ s. at_statement (in_block s no_statements)), tt) place
    step_keeps {f = f} {around = around} later (behind_caught {handler = part} {middle = middle} outer inner handler) =
        go (eqb class finally_word) (λ h. h) (λ other. later class _ _ (with_statement outer (statement_try other inner handler)))
      where
        go : (b : Bool) → (T b → T (eqb class finally_word)) → (T (not b) → PartialOf all (act (leave done_value) class spot f around) rest)
            → PartialOf all (act (cond b (goto finally_first (start_statement finally_word)) (leave done_value)) class spot f around) rest
        go true same left =
            behind_finally (block_of_finally outer (tried_catch inner
            (subst (λ (k : ℕ). Derives catch_form middle (token k spot ∷ rest) part) (eqb→eq class finally_word (same tt)) handler)))
        go false same left = left tt
    step_keeps {f = f} {around = around} later (behind_finally {done = done} {starts = starts} place) =
        by_row (row finally_first spot.newline) f around (Reached all (block_at try_ended) done starts around) ((λ s. at_statement (in_block s no_statements)), tt) place
    step_keeps later (behind_try_all outer whole) = later class _ _ (with_statement outer whole)
    step_keeps {f = f} {around = around} later (at_variable {place = variables} {done = done} {starts = starts} place) =
        by_row (row (variable_due variables) spot.newline) f around (Reached all (variable_at variables) done starts around) ((λ s. behind_variable s), tt) place
    step_keeps {f = f} {around = around} later (behind_variable {place = variables} {done = done} {starts = starts} {called = called} place) =
        let Stands : List Token → Type 0 = λ here. Reached all (variable_at variables) done starts around (token name called ∷ here) in
        by_row (row (variable_named variables) spot.newline) f around Stands (
          (λ s. at_expression (in_variable s)),
          (
            (λ s. last_variable_ends (variable-at s variable_bare)),
            (
              (λ s. variable_ends (variable-at s variable_bare)),
              in_row (Keeps all spot rest around f Stands) (is_first variables) [] (λ only s. only_variable_ends only (variable-at s variable_bare)) tt,
            ),
          ),
        )
        place
    step_keeps {f = f} {around = around} later (behind_body {setting = setting} {inner = inside} {first = first} place inner) =
        by_row (row (body_done setting) spot.newline) f around (λ here. Statement first here inside) ((λ s. at_test place s), tt) inner
    step_keeps {f = f} {around = around} later (at_test {setting = setting} {inner = inside} {other = other} {first = first} place inner) =
        by_row (row (test_first setting) spot.newline) f around (λ here. Statement first (token while_word other ∷ here) inside)
        ((λ s. at_expression (in_test place s)), tt) inner
    step_keeps {f = f} {around = around} later (at_semicolon {setting = setting} {kind = kind} {mark = mark} {left = left} {right = right} {before = before}
        place unended) =
        by_row (row (semicolon_due setting) spot.newline) f around (λ here. Unended before here kind mark left right)
        ((λ s. with_statement place (semicolon_ends s)), tt) unended
    step_keeps {f = f} later (behind_if {setting = setting} {done = done} {starts = starts} {around = around} {word = word} place) =
        by_row (row if_first spot.newline) f (nested (behind_statement setting) to_statement word.mark (frame done starts [] nil) ∷ around) (λ here. Reached all (statement_at setting) done starts around (token if_word word ∷ here))
        ((λ s. at_expression (in_condition s)), tt) place
    step_keeps {around = around} later (at_operand {ending = ending} {target = target} {level = level} {done = done} {operand = last} {starts = starts}
        {waiting = waiting} {first = first} outer waits fits) =
        looked_up (KeepsOperand all spot rest around ending target done starts waiting last) (operand ending target)
        (operand_row all spot rest around ending target done starts waiting last) (λ k first level outer waits fits. tt) class first level outer waits fits
    step_keeps {around = around} later (at_member {ending = ending} {target = target} {level = level} {done = done} {operand = last} {starts = starts}
        {waiting = waiting} {first = first} outer waits) =
        looked_up (KeepsMember all spot rest around ending target done starts waiting last) (member ending target)
        (member_row all spot rest around ending target done starts waiting last) (λ k first level outer waits. tt) class first level outer waits
    step_keeps {around = around} later (behind_operand {ending = ending} {target = target} {level = level} {done = done} {operand = last} {starts = starts}
        {waiting = waiting} {first = first} {before = before} outer waits chain) =
        looked_up (KeepsChain all spot rest around ending target done starts waiting last) (after_operand ending target spot.newline)
        (chain_row all spot rest around ending done starts waiting last target) (λ k first before level outer waits chain. tt) class first before level outer waits chain
    step_keeps {around = around} later (behind_postfix {ending = ending} {target = target} {done = done} {operand = last} {starts = starts}
        {waiting = waiting} {first = first} outer waits fits unary) =
        looked_up (KeepsUnary all spot rest around ending done starts waiting last) (after_unary ending)
        (unary_row all spot rest around done starts waiting last ending) (λ k first target outer unary. tt) class first target outer
        (no_news ending done starts waits fits unary)
    step_keeps {f = f} {around = around} later (behind_dot {ending = ending} {target = target} {operand = last} {waiting = waiting} {sign = sign}
        {before = before} outer waits chain) =
        by_row (row (dot_last ending target) spot.newline) f around (λ here. Chain (may_call waiting) before (token dot sign ∷ here) last)
        ((λ s. behind_operand outer waits (chain_member identifier s)), ((λ s. behind_operand outer waits (chain_member reserved_word s)), tt)) chain
    step_keeps {f = f} {around = around} later (behind-function {role = declared} {done = done} {starts = starts} {waiting = waiting} {word = word} place) =
        by_row (row (function_first declared) spot.newline) f around
        (λ here. FunctionAt all declared done starts waiting around (token function_word word ∷ here))
        ((λ s. behind_function_name s with_name), tt) place
    step_keeps {f = f} {around = around} later (behind-function {role = operand_in ending target} {done = done} {starts = starts} {waiting = waiting}
        {word = word} place) =
        by_row (row (function_first (operand_in ending target)) spot.newline) f around
        (λ here. FunctionAt all (operand_in ending target) done starts waiting around (token function_word word ∷ here))
        ((λ s. behind_function_name s with_name), ((λ s. at_parameters s without_name), tt)) place
    step_keeps {f = f} {around = around} later (behind_function_name {role = role} {word = word} {before = before} place head) =
        by_row (row (function_named role) spot.newline) f around (Head role word before) ((λ s. at_parameters place s), tt) head
    step_keeps {f = f} {around = around} later (at_parameters {role = role} {word = word} {opener = opener} {before = before} place head) =
        by_row (row (parameter_due false) spot.newline) f around (λ here. Head role word before (token open_paren opener ∷ here))
        ((λ s. behind_parameter place s one_name), ((λ s. at_function_body place s no_parameters), tt)) head
    step_keeps {f = f} {around = around} later (behind_parameter {named = named} place head names) =
        by_row (row parameter_named spot.newline) f around (Names named)
        ((λ s. at_parameter place head s), ((λ s. at_function_body place head (some_parameters s)), tt)) names
    step_keeps {f = f} {around = around} later (at_parameter {sign = sign} {named = named} place head names) =
        by_row (row (parameter_due true) spot.newline) f around (λ here. Names named (token comma sign ∷ here))
        ((λ s. behind_parameter place head (more_names s)), tt) names
    step_keeps {f = f} {around = around} later (at_function_body {closer = closer} {named = named} (declaration_at place) with_name parameters) =
        by_row (row (parameter_past declared) spot.newline) f around (λ here. Parameters named (token close_paren closer ∷ here))
        ((λ s. at_statement (in_declaration place s no_statements)), tt) parameters
    step_keeps {f = f} {around = around} later (at_function_body {closer = closer} {named = named} (operand_at {ending = ending} {target = target} outer waits)
        head parameters) =
        by_row (row (parameter_past (operand_in ending target)) spot.newline) f around (λ here. Parameters named (token close_paren closer ∷ here))
        ((λ s. at_statement (in_function outer waits head s no_statements)), tt) parameters
    step_keeps {around = around} later (at_item {items = items} {done = done} {first = first} outer values list) =
        by_row (row (item_due items) spot.newline) (frame done [] [] nil) around
        (λ here. Derives (items_form items) first here done × Derives (list_form items) first here done)
        (item-row all spot rest around items first done outer) (values, list)
    step_keeps {f = f} {around = around} later (behind_property {class = property} {called = called} {done = done} {first = first} outer values identified) =
        by_row (row property_named spot.newline) f around (λ here. Derives (items_form object_properties) first (token property called ∷ here) done)
        ((λ s. at_expression (in_item outer s (at_property identified))), tt) values
    step_keeps {f = f} {around = around} later (behind_then {inner = part} {middle = middle} outer condition inner) =
        go (eqb class else_word) (λ h. h) (λ other. later class _ _ (with_statement outer (statement_if other condition inner)))
      where
        go : (b : Bool) → (T b → T (eqb class else_word)) → (T (not b) → PartialOf all (act (leave statement_value) class spot f around) rest)
            → PartialOf all (act (cond b (goto (statement_due true (in_nest else_nest)) take_else) (leave statement_value)) class spot f around) rest
        go true same left =
            at_inner_statement (after_else outer condition (subst (λ (k : ℕ). Statement middle (token k spot ∷ rest) part) (eqb→eq class else_word (same tt)) inner))
        go false same left = left tt
    step_keeps later (behind_else outer whole) = later class _ _ (with_statement outer whole)
    step_keeps later (behind_do outer inner) = later class _ _ (behind_body outer inner)
    step_keeps later (behind_end _) = tt

  pub each_step_keeps : (around : List Open) (class : ℕ) (control : Control) (f : Frame) → Partial all control f around (token class spot ∷ rest)
      → PartialOf all (act (look class (row control spot.newline)) class spot f around) rest
  each_step_keeps [] class control f p = step_keeps class tt p
  each_step_keeps (h ∷ around) class control f p = step_keeps class (each_step_keeps around) p

pub run_keeps : (all rest : List Token) (state : State) → PartialOf all state rest → PartialOf all (run state rest) []
run_keeps all [] state p = p
run_keeps all (token class spot ∷ rest) (dead place) p = run_keeps all rest (dead place) tt
run_keeps all (token class spot ∷ rest) (live control f around) p = run_keeps all rest _ (each_step_keeps all spot rest around class control f p)
