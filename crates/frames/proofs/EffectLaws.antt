-- What a token does to the frame, as the level has it: a law for each way between two controls.
use mathlib.Core.Path.{◌≡◌, refl}
use mathlib.Core.Bool.{Bool, true, false}
use mathlib.Core.List.{List, [], ◌∷◌}
use Prim.Native.Nat.{ℕ, ◌+◌, ◌-◌, ◌≤◌, ◌<◌}
use native.Mathlib.Omega.{arith}
use lib.ListN.{length, get_or}
use Rattle.tables.specs.Records.{most_trees}
use Rattle.machine.specs.Tokens.{name, new_word, var_word, else_word, case_word, default_word, catch_word, finally_word}
use Rattle.machine.specs.Syntax.{Syntax, nil, node, snoc, member_syntax, expression_syntax, label_syntax, variable_syntax, empty_syntax}
use Rattle.machine.specs.Scopes.{call_arguments, array_elements, object_properties, body}
use Rattle.machine.specs.Machinery.Machine as machine
use Rattle.machine.specs.Machinery.Machine.{
  Pending,
  pending,
  Frame,
  frame,
  held_word,
  tightness,
  new_precedence,
  threshold,
  if_nest,
  else_nest,
  Setting,
  among,
  in_clause,
  in_nest,
  Variables,
  in_statement,
  in_head,
  later_variables,
  Target,
  no_target,
  some_target,
  behind_statement,
  keep,
  take_member,
  end_expression,
  end_value,
  end_bare,
  end_empty,
  end_variable,
  take_label,
  take_else,
  hold_word,
  start_statement,
  take_leaf,
  take_name,
  take_operator,
  take_prefix,
  take_postfix,
  Ending,
  by_statement,
  declared,
  operand_in,
  Control,
  statement_due,
  statement_done,
  name_first,
  clause_due,
  default_first,
  variable_due,
  variable_named,
  operand_due,
  member_due,
  operand_done,
  postfix_done,
  dot_last,
  function_first,
}
use Rattle.controls.specs.Machinery.Steps.{Due, Ended, VariableEnded, Started, started_return, started_throw, started_jump, started_head, started_debugger, started_var, started_for, started_switch, Leads, to_start, to_variable, to_head_variable, to_case, to_default, to_catch, to_finally, to_finally_behind, to_initialiser, to_caught, to-test, to_jump_label, to_dot, to_hole, to_function_name, to_property, to_value, to-parameter, to_next_parameter}
use Rattle.controls.specs.Machinery.Written.{put_record}
use Rattle.waiting.specs.Machinery.Waiting.{nothing_waits, popped, binding, Closes, Completes, stack_with, waiting_one, made_one, with_held, restarted}
use Rattle.waiting.specs.declared.Level.{Level}
use Rattle.waiting.specs.declared.Waiting.{Waiting}
use Rattle.waiting.proofs.HoldLaws.{uppermost}
use Rattle.frames.specs.Machinery.Stands.{InSetting, InVariables, Stands}
use Rattle.frames.proofs.CloseLaws.{below_stops, close_reduces, reduce_wraps}
use Rattle.frames.proofs.CarryLaws.{
  back_one,
  undone_one,
  Carries,
  carried,
  stands,
  closes_lightens,
  carries_word,
  carries_made,
  carries_operator,
  carries_beginning,
  carries_back,
  carries_joined,
  carries_undone,
  carries_closed,
  carries_expression,
  carries_statement,
  completes_lightens,
}
use Rattle.frames.proofs.AtLaws.{AtWord, Behind, behind-statement, behind_item, behind_start, behind_test, behind_clause, behind_tried, behind_handled, behind_finally, behind-target, AtValue, at_part, at_statement, at_none, at_operand, at_ended, at_variable, nest_done}

-- a statement is complete, an item of a list, a clause, a block of a `try`, or a part of the head of a `for`
pub behind : {nests : List machine.Open} {table : List ℕ} {stack₀ : List Waiting} {first floor passed : ℕ} {done value : Syntax} {to : Control} {l : Level} {stack : List Waiting} {cells : List ℕ} → Behind done nests to
    → Carries nests table stack₀ first floor (snoc done value) [] [] nil l stack cells → l.count + l.top ≤ first + floor + passed → first + floor + passed ≤ most_trees
    → Stands to (frame (snoc done value) [] [] nil) nests table stack₀ first floor passed l stack cells
behind (behind-statement (among scope) none) h passes few = stands nil h (refl, refl, refl, none) tt (omega arith) few
behind (behind-statement in_clause inside) h passes few = stands nil h (refl, refl, refl, inside) tt (omega arith) few
behind {value = value} (behind-statement (in_nest nest) (e, inside)) h passes few = stands nil h (refl, refl, refl, record { last = value; is = rw e }, inside) tt (omega arith) few
behind (behind_item call_arguments none) h passes few = stands nil h (refl, (refl, none)) tt (omega arith) few
behind (behind_item array_elements none) h passes few = stands nil h (refl, refl, refl, none) tt (omega arith) few
behind (behind_item object_properties none) h passes few = stands nil h (refl, refl, refl, none) tt (omega arith) few
behind (behind_start none) h passes few = stands nil h (refl, refl, refl, none) tt (omega arith) few
behind (behind_test none) h passes few = stands nil h (refl, refl, refl, none) tt (omega arith) few
behind (behind_clause none) h passes few = stands nil h (refl, refl, refl, none) tt (omega arith) few
behind (behind_tried inside) h passes few = stands nil h (refl, refl, inside) tt (omega arith) few
behind (behind_handled inside) h passes few = stands nil h (refl, refl, refl, inside) tt (omega arith) few
behind (behind_finally inside) h passes few = stands nil h (refl, refl, refl, inside) tt (omega arith) few
behind (behind-target none) h passes few = stands nil h (refl, (refl, none)) tt (omega arith) few

-- a statement has begun
begins : {nests : List machine.Open} {table : List ℕ} {stack₀ : List Waiting} {first floor passed : ℕ} {done : Syntax} {starts : List Pending} {kind mark : ℕ} {setting : Setting} {to : Control} {l : Level} {stack : List Waiting} {cells : List ℕ}
    → Started kind setting to → 1 ≤ kind → InSetting setting done nests → Carries nests table stack₀ first floor done (pending kind mark nil ∷ starts) [] nil l stack cells
    → l.count + l.top ≤ first + floor + passed → first + floor + passed ≤ most_trees
    → Stands to (frame done (pending kind mark nil ∷ starts) [] nil) nests table stack₀ first floor passed l stack cells
begins started_return some within h passes few =
    stands nil h (record { kind = _; mark = _; before = _; is = refl; some = some }, refl, refl, within) tt (omega arith) few
begins started_throw some within h passes few =
    stands nil h (record { kind = _; mark = _; before = _; is = refl; some = some }, refl, refl, within) tt (omega arith) few
begins (started_jump listed) some within h passes few =
    stands nil h (record { kind = _; mark = _; before = _; is = refl; some = some }, refl, refl, within) tt (omega arith) few
begins (started_head listed) some within h passes few =
    stands nil h (record { kind = _; mark = _; before = _; is = refl; some = some }, refl, refl, within) tt (omega arith) few
begins started_for some within h passes few =
    stands nil h (record { kind = _; mark = _; before = _; is = refl; some = some }, refl, refl, within) tt (omega arith) few
begins started_switch some within h passes few =
    stands nil h (record { kind = _; mark = _; before = _; is = refl; some = some }, refl, refl, within) tt (omega arith) few
begins started_debugger some within h passes few = stands nil h (refl, within) tt (omega arith) few
begins started_var some within h passes few =
    stands nil h (record { word = _; variables = nil; before = _; is = refl }, refl, refl, within) tt (omega arith) few

-- a later variable stands where the one before it does
later-variables : (place : Variables) (nests : List machine.Open) (done : Syntax) → InVariables place done nests → InVariables (later_variables place) done nests
later-variables (in_statement setting) nests done within = within
later-variables (in_head first) nests done within = within

module _ {g : Frame} {nests : List machine.Open} {table : List ℕ} {stack₀ : List Waiting} {first floor passed : ℕ} {l : Level} {stack : List Waiting} {cells : List ℕ} (more : first + floor + passed < most_trees) where
  -- nothing changes
  pub keeps : {from to : Control} (mark : ℕ) → Leads keep from to → Stands from g nests table stack₀ first floor passed l stack cells
      → Stands to (machine.affect keep mark g) nests table stack₀ first floor (passed + 1) l stack cells
  keeps mark to_initialiser s =
      rw s.is (stands s.operand (carried s) (s.shaped.2, (s.shaped.0, s.shaped.3)) tt (omega (arith, s.passes)) (omega arith))
  keeps mark to_caught s = rw s.is (stands s.operand (carried s) s.shaped tt (omega (arith, s.passes)) (omega arith))
  keeps mark to-test s = rw s.is (stands s.operand (carried s) s.shaped tt (omega (arith, s.passes)) (omega arith))
  keeps mark to_jump_label s = rw s.is (stands s.operand (carried s) (s.shaped.1, s.shaped.3) tt (omega (arith, s.passes)) (omega arith))
  keeps mark to_dot s = rw s.is (stands s.operand (carried s) s.shaped tt (omega (arith, s.passes)) (omega arith))
  keeps mark to_hole s = rw s.is (stands s.operand (carried s) s.shaped tt (omega (arith, s.passes)) (omega arith))
  keeps mark to_function_name s = rw s.is (stands s.operand (carried s) s.shaped s.held (omega (arith, s.passes)) (omega arith))
  keeps mark to_property s = rw s.is (stands s.operand (carried s) s.shaped tt (omega (arith, s.passes)) (omega arith))
  keeps mark to_value s =
      rw s.is (stands s.operand (carried s) (s.shaped.2, (s.shaped.0, s.shaped.3)) tt (omega (arith, s.passes)) (omega arith))
  keeps mark to-parameter s = rw s.is (stands s.operand (carried s) s.shaped tt (omega (arith, s.passes)) (omega arith))
  keeps mark to_next_parameter s = rw s.is (stands s.operand (carried s) s.shaped tt (omega (arith, s.passes)) (omega arith))

  -- a record is the operand
  pub takes_leaf : {from : Control} {ending : Ending} {target : Target} (class mark : ℕ) → Due from ending target
      → Stands from g nests table stack₀ first floor passed l stack cells
      → Stands (operand_done ending target) (machine.affect (take_leaf class) mark g) nests table stack₀ first floor (passed + 1) (made_one l) stack
      (put_record cells l.count class mark (l.count - l.start + 1))
  takes_leaf class mark due s =
      let h = at_operand due s in
      rw h.is (stands (node class mark nil nil) (carries_made h.carries class mark (omega arith)) h.within tt (omega arith) (omega arith))

  pub takes_member : {ending : Ending} {target : Target} (mark : ℕ) → Stands (dot_last ending target) g nests table stack₀ first floor passed l stack cells
      → Stands (operand_done ending target) (machine.affect take_member mark g) nests table stack₀ first floor (passed + 1) (made_one l) stack
      (put_record cells l.count member_syntax mark (l.count - l.start + 1))
  takes_member mark s =
      rw s.is
      (stands (node member_syntax mark s.operand nil) (carries_made (carried s) member_syntax mark (omega (arith, s.passes))) s.shaped tt
      (omega (arith, s.passes)) (omega arith))

  -- a name or word is held
  pub holds_name : {must : Bool} {setting : Setting} (mark : ℕ) → mark ≤ most_trees → Stands (statement_due must setting) g nests table stack₀ first floor passed l stack cells
      → Stands (name_first setting) (machine.affect take_name mark g) nests table stack₀ first floor (passed + 1) (with_held mark l) stack cells
  holds_name mark small s =
      let h = at_statement s in
      rw h.is (stands (node name mark nil nil) (carries_word h.carries mark small) (refl, h.within) refl (omega arith) (omega arith))

  pub holds_word : {from : Control} {ending : Ending} {target : Target} (mark : ℕ) → mark ≤ most_trees → Due from ending target
      → Stands from g nests table stack₀ first floor passed l stack cells
      → Stands (function_first (operand_in ending target)) (machine.affect hold_word mark g) nests table stack₀ first floor (passed + 1) (with_held mark l) stack cells
  holds_word mark small due s =
      let h = at_operand due s in
      rw h.is (stands (held_word mark) (carries_word h.carries mark small) h.within refl (omega arith) (omega arith))

  pub holds_declared : (mark : ℕ) → mark ≤ most_trees → Stands (statement_due false (among body)) g nests table stack₀ first floor passed l stack cells
      → Stands (function_first declared) (machine.affect hold_word mark g) nests table stack₀ first floor (passed + 1) (with_held mark l) stack cells
  holds_declared mark small s =
      rw s.is
      (stands (held_word mark) (carries_word (rw s.shaped.2 at (carried s)) mark small) (s.shaped.0, s.shaped.1, s.shaped.3) refl
      (omega (arith, s.passes)) (omega arith))

  -- a beginning of a statement waits, or of a variable, a clause, or what follows the block of a `try`
  starts_variable : {place : Variables} (mark : ℕ) → mark ≤ most_trees → l.top < length stack
      → Stands (variable_due place) g nests table stack₀ first floor passed l stack cells
      → Stands (variable_named place) (machine.affect (start_statement variable_syntax) mark g) nests table stack₀ first floor (passed + 1) (waiting_one l)
      (stack_with stack l.top variable_syntax mark l.start) cells
  unfolding binding
  starts_variable mark small fits s =
      rw (s.is, s.shaped.1)
      (stands nil
      (carries_beginning variable_syntax mark (rw (s.shaped.1, s.shaped.2) at (carried s)) (omega (arith, s.passes)) small fits refl)
      (record { mark = mark; others = s.starts; is = refl; var = s.shaped.0 }, refl, refl, s.shaped.3) tt (omega (arith, s.passes)) (omega arith))

  pub starts_statement : {kind : ℕ} {from to : Control} (mark : ℕ) → mark ≤ most_trees → l.top < length stack
      → Leads (start_statement kind) from to → 1 ≤ kind → binding kind ≡ 1 → Stands from g nests table stack₀ first floor passed l stack cells
      → Stands to (machine.affect (start_statement kind) mark g) nests table stack₀ first floor (passed + 1) (waiting_one l) (stack_with stack l.top kind mark l.start) cells
  starts_statement {kind = kind} mark small fits (to_start started) some binds s =
      let h = at_statement s in
      rw h.is (begins started some h.within (carries_beginning kind mark h.carries (omega arith) small fits binds) (omega arith) (omega arith))
  starts_statement mark small fits to_variable some binds s = starts_variable mark small fits s
  starts_statement mark small fits to_head_variable some binds s =
      let h = at_none s s.shaped refl in
      rw h.is
      (stands nil (carries_beginning var_word mark h.carries (omega arith) small fits binds)
      (record { word = mark; variables = nil; before = []; is = refl }, refl, refl, h.none) tt (omega arith) (omega arith))
  starts_statement mark small fits to_case some binds s =
      let h = at_none s s.shaped refl in
      rw h.is
      (stands nil (carries_beginning case_word mark h.carries (omega arith) small fits binds)
      (refl, (record { kind = case_word; mark = mark; before = []; is = refl; some = some }, h.none)) tt (omega arith) (omega arith))
  starts_statement mark small fits to_default some binds s =
      let h = at_none s s.shaped refl in
      rw h.is
      (stands nil (carries_beginning default_word mark h.carries (omega arith) small fits binds)
      (record { kind = default_word; mark = mark; before = []; is = refl; some = some }, refl, refl, h.none) tt (omega arith) (omega arith))
  starts_statement mark small fits to_catch some binds s =
      let h = at_part {setting = in_clause} s s.shaped refl in
      rw h.is (stands nil (carries_beginning catch_word mark h.carries (omega arith) small fits binds) (refl, refl, h.within) tt (omega arith) (omega arith))
  starts_statement mark small fits to_finally some binds s =
      let h = at_part {setting = in_clause} s s.shaped refl in
      rw h.is (stands nil (carries_beginning finally_word mark h.carries (omega arith) small fits binds) (refl, refl, h.within) tt (omega arith) (omega arith))
  starts_statement mark small fits to_finally_behind some binds s =
      let h = at_part {setting = in_clause} s (s.shaped.1, s.shaped.2, s.shaped.3) refl in
      rw h.is (stands nil (carries_beginning finally_word mark h.carries (omega arith) small fits binds) (refl, refl, h.within) tt (omega arith) (omega arith))

  pub takes_else : (mark : ℕ) → mark ≤ most_trees → l.top < length stack → Stands (statement_done if_nest) g nests table stack₀ first floor passed l stack cells
      → Stands (statement_due true (in_nest else_nest)) (machine.affect take_else mark g) nests table stack₀ first floor (passed + 1) (waiting_one (undone_one l stack))
      (stack_with stack l.top else_word mark (get_or stack (l.top - 1) nothing_waits).start) cells
  unfolding binding
  takes_else mark small fits s =
      rw (s.is, s.shaped.1, s.shaped.3.is)
      (stands nil (carries_beginning else_word mark (carries_undone s.shaped.4 (nest_done s)) (omega (arith, s.passes)) small fits refl)
      (refl, refl, (refl, s.shaped.4)) tt (omega (arith, s.passes)) (omega arith))

  pub takes_label : {setting : Setting} (mark : ℕ) → l.top < length stack → Stands (name_first setting) g nests table stack₀ first floor passed l stack cells
      → Stands (statement_due true setting) (machine.affect take_label mark g) nests table stack₀ first floor (passed + 1) (waiting_one l)
      (stack_with stack l.top label_syntax l.held l.start) cells
  unfolding binding
  takes_label mark fits s =
      rw (s.is, s.shaped.0, s.held)
      (stands nil (carries_beginning label_syntax l.held (rw s.shaped.0 at (carried s)) (omega (arith, s.passes)) s.worded fits refl)
      (refl, refl, s.shaped.1) tt (omega (arith, s.passes)) (omega arith))

  -- an operator before its operand waits, with no left side
  pub takes-prefix : {from : Control} {ending : Ending} {target : Target} (kind mark : ℕ) → mark ≤ most_trees → l.top < length stack → 1 ≤ tightness kind
      → Due from ending target → Stands from g nests table stack₀ first floor passed l stack cells
      → Stands (operand_due ending no_target) (machine.affect (take_prefix kind) mark g) nests table stack₀ first floor (passed + 1) (waiting_one l)
      (stack_with stack l.top kind mark l.start) cells
  takes-prefix kind mark small fits tight due s =
      let h = at_operand due s in
      rw h.is
      (stands nil (carries_operator h.carries kind mark (omega (arith, h.passes)) small fits tight (λ e. refl)) (refl, h.within) tt (omega (arith, h.passes)) (omega arith))

  pub takes_new : {from : Control} {ending : Ending} {target : Target} (mark : ℕ) → mark ≤ most_trees → l.top < length stack
      → Due from ending target → Stands from g nests table stack₀ first floor passed l stack cells
      → Stands (member_due ending target) (machine.affect (take_prefix new_word) mark g) nests table stack₀ first floor (passed + 1) (waiting_one l)
      (stack_with stack l.top new_word mark l.start) cells
  takes_new mark small fits due s =
      let h = at_operand due s in
      rw h.is
      (stands nil (carries_operator h.carries new_word mark (omega (arith, h.passes)) small fits (omega arith) (λ e. refl)) (refl, h.within) tt (omega (arith, h.passes))
      (omega arith))

  -- one behind it makes a part, once the `new`s that wait are closed
  pub takes_postfix : {ending : Ending} {target : Target} (kind mark : ℕ) {r : Level} {after : List ℕ} → r.floor ≡ l.floor → r.held ≡ l.held
      → Closes (new_precedence + 1) l stack cells r after → Stands (operand_done ending target) g nests table stack₀ first floor passed l stack cells
      → Stands (postfix_done ending) (machine.affect (take_postfix kind) mark g) nests table stack₀ first floor (passed + 1) (made_one r) stack
      (put_record after r.count kind mark (r.count - r.start + 1))
  takes_postfix kind mark f w closes s =
      let h = carried s in
      let k = close_reduces new_precedence s.done s.operand (omega arith) h.operators h.beginnings (below_stops h.below) in
      let light = closes_lightens _ s.holds f closes in
      rw (s.is, k.is)
      (stands (node kind mark k.last nil)
      (carries_made (carries_closed h new_precedence f w closes k) kind mark (omega (arith, light, s.passes)))
      s.shaped tt (omega (arith, light, s.passes)) (omega arith))

  -- an operator waits, once those are closed that bind as tight
  pub takes_operator : {from : Control} {ending : Ending} (next : Target) (class mark : ℕ) {r : Level} {after : List ℕ} → mark ≤ most_trees
      → l.top < length stack → 1 ≤ tightness class → 1 ≤ threshold class → (class ≡ new_word → ⊥) → r.floor ≡ l.floor → r.held ≡ l.held
      → Closes (threshold class + 1) l stack cells r after → Ended from ending → Stands from g nests table stack₀ first floor passed l stack cells
      → Stands (operand_due ending next) (machine.affect (take_operator class) mark g) nests table stack₀ first floor (passed + 1) (waiting_one r)
      (stack_with stack r.top class mark r.start) after
  takes_operator next class mark small fits tight some other f w closes ended s =
      let e = at_ended ended s in
      let h = e.carries in
      let k = close_reduces (threshold class) e.done e.operand some h.operators h.beginnings (below_stops h.below) in
      let light = closes_lightens _ h.holds f closes in
      rw (e.is, k.is)
      (stands nil
      (carries_operator (carries_closed h (threshold class) f w closes k) class mark (omega (arith, light, e.passes)) small (omega (arith, light)) tight (λ q. absurd (other q)))
      (refl, e.within) tt (omega (arith, light, e.passes)) (omega arith))

  -- a statement is complete, or an item
  pub ends_expression : {from : Control} {setting : Setting} (mark : ℕ) {r all : Level} {after cells' : List ℕ} → r.floor ≡ l.floor → r.held ≡ l.held
      → Closes 2 l stack cells r after → Completes (made_one r) stack (put_record after r.count expression_syntax mark (r.count - r.start + 1)) all cells'
      → Ended from (by_statement setting) → Stands from g nests table stack₀ first floor passed l stack cells
      → Stands (behind_statement setting) (machine.affect end_expression mark g) nests table stack₀ first floor (passed + 1) all stack cells'
  ends_expression {setting = setting} mark f w closes completes ended s =
      let e = at_ended ended s in
      let light = closes_lightens _ e.carries.holds f closes in
      let one = carries_made (carries_expression e.carries f w closes) expression_syntax mark (omega (arith, light, e.passes)) in
      let lighter = completes_lightens one completes in
      rw (e.is, reduce_wraps e.done e.starts e.waiting e.operand)
      (behind (behind-statement setting e.within) (carries_statement one completes) (omega (arith, light, lighter, e.passes)) (omega arith))

  pub ends_value : {to : Control} (mark : ℕ) {all : Level} {cells' : List ℕ} → Completes l stack cells all cells' → AtValue to g nests table stack₀ first floor passed l stack cells
      → Stands to (machine.affect end_value mark g) nests table stack₀ first floor (passed + 1) all stack cells'
  ends_value mark completes e =
      let lighter = completes_lightens e.carries completes in
      rw (e.is, reduce_wraps e.done e.starts e.waiting e.operand)
      (behind e.within (carries_statement e.carries completes) (omega (arith, lighter, e.passes)) (omega arith))

  pub ends-bare : {setting : Setting} (mark : ℕ) {k m : ℕ} {all : Level} {cells' : List ℕ} → AtWord setting g nests table stack₀ first floor passed l stack cells
      → (get_or stack (l.top - 1) nothing_waits).kind ≡ k → (get_or stack (l.top - 1) nothing_waits).mark ≡ m
      → Completes (made_one (back_one l)) stack (put_record cells l.count (k - 1) m (l.count - l.count + 1)) all cells'
      → Stands (behind_statement setting) (machine.affect end_bare mark g) nests table stack₀ first floor (passed + 1) all stack cells'
  ends-bare {setting = setting} mark {k = k} {m = m} h kind_at mark-at completes =
      let u = uppermost h.carries.holds in
      let same_kind : k ≡ h.kind = omega (arith, u.kind_is) in
      let same-mark : m ≡ h.mark = omega (arith, u.mark_is) in
      let one = carries_made (carries_back h.carries) (k - 1) m (omega (arith, h.passes)) in
      let lighter = completes_lightens one completes in
      rw (h.is, ← same_kind, ← same-mark) (behind (behind-statement setting h.within) (carries_statement one completes) (omega (arith, lighter, h.passes, u.some)) (omega arith))

  pub ends_empty : {must : Bool} {setting : Setting} (mark : ℕ) {all : Level} {cells' : List ℕ}
      → Completes (made_one l) stack (put_record cells l.count empty_syntax mark (l.count - l.start + 1)) all cells'
      → Stands (statement_due must setting) g nests table stack₀ first floor passed l stack cells
      → Stands (behind_statement setting) (machine.affect end_empty mark g) nests table stack₀ first floor (passed + 1) all stack cells'
  ends_empty {setting = setting} mark completes s =
      let h = at_statement s in
      let one = carries_made h.carries empty_syntax mark (omega (arith, h.passes)) in
      let lighter = completes_lightens one completes in
      rw h.is (behind (behind-statement setting h.within) (carries_statement one completes) (omega (arith, lighter, h.passes)) (omega arith))

  -- a variable joins those before it
  pub ends_variable : {from : Control} {place : Variables} (mark : ℕ) {m : ℕ} {r : Level} {after : List ℕ} → r.floor ≡ l.floor → r.held ≡ l.held
      → Closes 2 l stack cells r after → (get_or stack (r.top - 1) nothing_waits).mark ≡ m → VariableEnded from place
      → Stands from g nests table stack₀ first floor passed l stack cells
      → Stands (variable_due (later_variables place)) (machine.affect end_variable mark g) nests table stack₀ first floor (passed + 1) (restarted (made_one (popped r stack))) stack
      (put_record after r.count variable_syntax m (r.count - (get_or stack (r.top - 1) nothing_waits).start + 1))
  ends_variable {place = place} mark {m = m} f w closes mark-at ended s =
      let e = at_variable ended s in
      let h = carries_expression e.carries f w closes in
      let u = uppermost h.holds in
      let same : m ≡ e.mark = omega (arith, u.mark_is) in
      let light = closes_lightens _ e.carries.holds f closes in
      rw (e.is, reduce_wraps e.done (pending variable_syntax e.mark nil ∷ pending var_word e.word e.variables ∷ e.before) e.waiting e.operand, same)
      (stands nil (carries_joined h) (record { word = e.word; variables = _; before = e.before; is = refl }, refl, refl, later-variables place nests e.done e.within) tt
      (omega (arith, light, e.passes, u.some)) (omega arith))
