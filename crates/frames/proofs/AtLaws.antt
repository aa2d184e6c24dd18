-- What the frame and the level have where a token is taken, by kinds of places.
use mathlib.Core.Path.{◌≡◌, refl, ◌∙◌}
use mathlib.Core.Bool.{Bool, true, false}
use lib.Dec.{T}
use mathlib.Core.List.{List, [], ◌∷◌}
use Prim.Native.Nat.{ℕ, ◌+◌, ◌≤◌}
use native.Mathlib.Omega.{arith}
use Rattle.machine.specs.Tokens.{var_word}
use Rattle.machine.specs.Syntax.{Syntax, nil, snoc, variable_syntax}
use Rattle.machine.specs.Scopes.{Items}
use Rattle.machine.specs.Machinery.Machine as machine
use Rattle.machine.specs.Machinery.Machine.{
  Pending,
  pending,
  Frame,
  frame,
  Nest,
  Setting,
  Variables,
  in_statement,
  in_head,
  Target,
  no_target,
  some_target,
  lone_target,
  takes_in,
  end_value,
  behind_statement,
  behind_comma,
  behind_variables,
  Ending,
  by_statement,
  by_return,
  by_variable,
  by_start,
  by_test,
  by_step,
  by_object,
  by_case,
  by_paren,
  by_bracket,
  by_colon,
  by_item,
  Control,
  statement_due,
  statement_done,
  clause_due,
  try_done,
  catch_done,
  try_ended,
  test_due,
  step_due,
  operand_due,
}
use Rattle.controls.specs.Machinery.Steps.{Due, due_operand, due_value, due_thrown, due_item, due_statement, due_start, due_test, due_step, due_member, Ended, ended_operand, ended_postfix, VariableEnded, ended_bare, ended_value, before_target, before_variable, PartEnded, no_start, ended_start, no_test, ended_test, Leads, to_return_end, to_variables_end, to_semicolon, to_item_end, to_next_part, to-object}
use Rattle.waiting.specs.declared.Level.{Level}
use Rattle.waiting.specs.declared.Waiting.{Waiting}
use Rattle.frames.specs.Machinery.Stands.{InNest, InSetting, InVariables, Within, ItemsAlone, WordAlone, PartDue, written, Stands}
use Rattle.frames.proofs.CarryLaws.{
  Carries,
  carried,
}

-- where an operand is due, and where a statement is
pub record AtOperand (ending : Ending) (g : Frame) (nests : List machine.Open) (table : List ℕ) (stack₀ : List Waiting) (first floor passed : ℕ) (l : Level) (stack : List Waiting) (cells : List ℕ) : Type 0 where
  pub done : Syntax
  pub starts : List Pending
  pub waiting : List Pending
  pub is : g ≡ frame done starts waiting nil
  pub within : Within ending done starts nests
  pub carries : Carries nests table stack₀ first floor done starts waiting nil l stack cells
  pub passes : l.count + l.top ≤ first + floor + passed

-- where one has ended
pub record AtEnded (ending : Ending) (g : Frame) (nests : List machine.Open) (table : List ℕ) (stack₀ : List Waiting) (first floor passed : ℕ) (l : Level) (stack : List Waiting) (cells : List ℕ) : Type 0 where
  pub done : Syntax
  pub starts : List Pending
  pub waiting : List Pending
  pub operand : Syntax
  pub is : g ≡ frame done starts waiting operand
  pub within : Within ending done starts nests
  pub carries : Carries nests table stack₀ first floor done starts waiting operand l stack cells
  pub passes : l.count + l.top ≤ first + floor + passed

pub record AtStatement (setting : Setting) (g : Frame) (nests : List machine.Open) (table : List ℕ) (stack₀ : List Waiting) (first floor passed : ℕ) (l : Level) (stack : List Waiting) (cells : List ℕ) : Type 0 where
  pub done : Syntax
  pub starts : List Pending
  pub is : g ≡ frame done starts [] nil
  pub within : InSetting setting done nests
  pub carries : Carries nests table stack₀ first floor done starts [] nil l stack cells
  pub passes : l.count + l.top ≤ first + floor + passed

-- where a statement has but its word
pub record AtWord (setting : Setting) (g : Frame) (nests : List machine.Open) (table : List ℕ) (stack₀ : List Waiting) (first floor passed : ℕ) (l : Level) (stack : List Waiting) (cells : List ℕ) : Type 0 where
  pub done : Syntax
  pub kind : ℕ
  pub mark : ℕ
  pub before : List Pending
  pub some : 1 ≤ kind
  pub is : g ≡ frame done (pending kind mark nil ∷ before) [] nil
  pub within : InSetting setting done nests
  pub carries : Carries nests table stack₀ first floor done (pending kind mark nil ∷ before) [] nil l stack cells
  pub passes : l.count + l.top ≤ first + floor + passed

-- where items, parts or clauses alone stand
pub record AtNone (g : Frame) (nests : List machine.Open) (table : List ℕ) (stack₀ : List Waiting) (first floor passed : ℕ) (l : Level) (stack : List Waiting) (cells : List ℕ) : Type 0 where
  pub done : Syntax
  pub is : g ≡ frame done [] [] nil
  pub none : nests ≡ []
  pub carries : Carries nests table stack₀ first floor done [] [] nil l stack cells
  pub passes : l.count + l.top ≤ first + floor + passed

-- what may stand behind a statement that is complete, an item, a clause, a block of a `try`, or a part of the head of a `for`
pub data Behind (done : Syntax) (nests : List machine.Open) : Control → Type 0 where
  behind-statement : (setting : Setting) → InSetting setting done nests → Behind done nests (behind_statement setting)
  behind_item : (items : Items) → nests ≡ [] → Behind done nests (behind_comma items)
  behind_start : nests ≡ [] → Behind done nests test_due
  behind_test : nests ≡ [] → Behind done nests step_due
  behind_clause : {seen : Bool} → nests ≡ [] → Behind done nests (clause_due seen)
  behind_tried : InNest nests → Behind done nests try_done
  behind_handled : InNest nests → Behind done nests catch_done
  behind_finally : InNest nests → Behind done nests try_ended
  behind-target : nests ≡ [] → Behind done nests (operand_due by_object some_target)

-- where a value ends one of these
pub record AtValue (to : Control) (g : Frame) (nests : List machine.Open) (table : List ℕ) (stack₀ : List Waiting) (first floor passed : ℕ) (l : Level) (stack : List Waiting) (cells : List ℕ) : Type 0 where
  pub done : Syntax
  pub starts : List Pending
  pub waiting : List Pending
  pub operand : Syntax
  pub is : g ≡ frame done starts waiting operand
  pub within : Behind done nests to
  pub carries : Carries nests table stack₀ first floor done starts waiting operand l stack cells
  pub passes : l.count + l.top ≤ first + floor + passed

-- where a variable has ended
pub record AtVariable (place : Variables) (g : Frame) (nests : List machine.Open) (table : List ℕ) (stack₀ : List Waiting) (first floor passed : ℕ) (l : Level) (stack : List Waiting) (cells : List ℕ) : Type 0 where
  pub done : Syntax
  pub mark : ℕ
  pub word : ℕ
  pub variables : Syntax
  pub before : List Pending
  pub waiting : List Pending
  pub operand : Syntax
  pub is : g ≡ frame done (pending variable_syntax mark nil ∷ pending var_word word variables ∷ before) waiting operand
  pub within : InVariables place done nests
  pub carries : Carries nests table stack₀ first floor done (pending variable_syntax mark nil ∷ pending var_word word variables ∷ before) waiting operand l stack cells
  pub passes : l.count + l.top ≤ first + floor + passed

module _ {nests : List machine.Open} where
  variables_behind : (place : Variables) (done : Syntax) → InVariables place done nests → Behind done nests (behind_variables place)
  variables_behind (in_statement setting) done within = behind-statement setting within
  variables_behind (in_head first) done within = behind_start within

  in_target : (ending : Ending) (target : Target) → T (takes_in ending target) → (done : Syntax) (starts : List Pending) → Within ending done starts nests → nests ≡ []
  in_target ending no_target t done starts w = absurd t
  in_target ending some_target t done starts w = absurd t
  in_target (by_statement setting) lone_target t done starts w = absurd t
  in_target (by_return setting) lone_target t done starts w = absurd t
  in_target (by_variable place) lone_target t done starts w = absurd t
  in_target by_start lone_target t done starts w = w.1
  in_target by_test lone_target t done starts w = absurd t
  in_target by_step lone_target t done starts w = absurd t
  in_target by_object lone_target t done starts w = absurd t
  in_target (by_case seen) lone_target t done starts w = absurd t
  in_target by_paren lone_target t done starts w = absurd t
  in_target by_bracket lone_target t done starts w = absurd t
  in_target by_colon lone_target t done starts w = absurd t
  in_target (by_item items) lone_target t done starts w = absurd t

module _ {g : Frame} {nests : List machine.Open} {table : List ℕ} {stack₀ : List Waiting} {first floor passed : ℕ} {l : Level} {stack : List Waiting} {cells : List ℕ} where
  pub at_part : {c : Control} {setting : Setting} (s : Stands c g nests table stack₀ first floor passed l stack cells)
      → PartDue setting s.done s.waiting s.operand nests → written c nil ≡ nil → AtStatement setting g nests table stack₀ first floor passed l stack cells
  at_part s shaped w =
      record {
        done = s.done;
        starts = s.starts;
        is = rw (s.is, shaped.0, shaped.1);
        within = shaped.2;
        carries = rw (shaped.0, shaped.1, w) at (carried s);
        passes = omega (arith, s.passes);
      }

  pub at_statement : {must : Bool} {setting : Setting} → Stands (statement_due must setting) g nests table stack₀ first floor passed l stack cells
      → AtStatement setting g nests table stack₀ first floor passed l stack cells
  at_statement {must = true} {setting = setting} s = at_part {setting = setting} s s.shaped refl
  at_statement {must = false} {setting = setting} s = at_part {setting = setting} s (s.shaped.1, s.shaped.2, s.shaped.3) refl

  pub at_none : {c : Control} (s : Stands c g nests table stack₀ first floor passed l stack cells)
      → ItemsAlone s.starts s.waiting s.operand nests → written c nil ≡ nil → AtNone g nests table stack₀ first floor passed l stack cells
  at_none s shaped w =
      record {
        done = s.done;
        is = rw (s.is, shaped.0, shaped.1, shaped.2);
        none = shaped.3;
        carries = rw (shaped.0, shaped.1, shaped.2, w) at (carried s);
        passes = omega (arith, s.passes);
      }

  -- behind the word of a statement nothing stands yet
  pub at_word : {c : Control} {setting : Setting} (s : Stands c g nests table stack₀ first floor passed l stack cells)
      → WordAlone setting s.done s.starts s.waiting s.operand nests → written c nil ≡ nil
      → AtWord setting g nests table stack₀ first floor passed l stack cells
  at_word s shaped w =
      let b = shaped.0 in
      record {
        done = s.done;
        kind = b.kind;
        mark = b.mark;
        before = b.before;
        some = b.some;
        is = rw (s.is, b.is, shaped.1, shaped.2);
        within = shaped.3;
        carries = rw (b.is, shaped.1, shaped.2, w) at (carried s);
        passes = omega (arith, s.passes);
      }

  pub at_operand : {from : Control} {ending : Ending} {target : Target} → Due from ending target → Stands from g nests table stack₀ first floor passed l stack cells
      → AtOperand ending g nests table stack₀ first floor passed l stack cells
  at_operand due_operand s =
      record {
        done = s.done;
        starts = s.starts;
        waiting = s.waiting;
        is = rw (s.is, s.shaped.0);
        within = s.shaped.1;
        carries = rw s.shaped.0 at (carried s);
        passes = omega (arith, s.passes);
      }
  at_operand (due_value {setting = setting}) s =
      let h = at_word {setting = setting} s s.shaped refl in
      record { done = h.done; starts = pending h.kind h.mark nil ∷ h.before; waiting = []; is = h.is; within = h.within; carries = h.carries; passes = h.passes }
  at_operand (due_thrown {setting = setting}) s =
      let h = at_word {setting = setting} s s.shaped refl in
      record { done = h.done; starts = pending h.kind h.mark nil ∷ h.before; waiting = []; is = h.is; within = h.within; carries = h.carries; passes = h.passes }
  at_operand due_statement s =
      let h = at_statement s in
      record { done = h.done; starts = h.starts; waiting = []; is = h.is; within = h.within; carries = h.carries; passes = h.passes }
  at_operand due_item s =
      let h = at_none s s.shaped refl in
      record { done = h.done; starts = []; waiting = []; is = h.is; within = (refl, h.none); carries = h.carries; passes = h.passes }
  at_operand due_start s =
      let h = at_none s s.shaped refl in
      record { done = h.done; starts = []; waiting = []; is = h.is; within = (refl, h.none); carries = h.carries; passes = h.passes }
  at_operand due_test s =
      let h = at_none s s.shaped refl in
      record { done = h.done; starts = []; waiting = []; is = h.is; within = (refl, h.none); carries = h.carries; passes = h.passes }
  at_operand due_step s =
      let h = at_none s s.shaped refl in
      record { done = h.done; starts = []; waiting = []; is = h.is; within = (refl, h.none); carries = h.carries; passes = h.passes }
  at_operand due_member s =
      record {
        done = s.done;
        starts = s.starts;
        waiting = s.waiting;
        is = rw (s.is, s.shaped.0);
        within = s.shaped.1;
        carries = rw s.shaped.0 at (carried s);
        passes = omega (arith, s.passes);
      }

  pub at_ended : {from : Control} {ending : Ending} → Ended from ending → Stands from g nests table stack₀ first floor passed l stack cells
      → AtEnded ending g nests table stack₀ first floor passed l stack cells
  at_ended ended_operand s =
      record {
        done = s.done;
        starts = s.starts;
        waiting = s.waiting;
        operand = s.operand;
        is = s.is;
        within = s.shaped;
        carries = carried s;
        passes = omega (arith, s.passes);
      }
  at_ended ended_postfix s =
      record {
        done = s.done;
        starts = s.starts;
        waiting = s.waiting;
        operand = s.operand;
        is = s.is;
        within = s.shaped;
        carries = carried s;
        passes = omega (arith, s.passes);
      }

  pub at_variable : {from : Control} {place : Variables} → VariableEnded from place → Stands from g nests table stack₀ first floor passed l stack cells
      → AtVariable place g nests table stack₀ first floor passed l stack cells
  at_variable ended_bare s =
      let b = s.shaped.0 in
      record {
        done = s.done;
        mark = b.mark;
        word = b.var.word;
        variables = b.var.variables;
        before = b.var.before;
        waiting = [];
        operand = nil;
        is = rw (s.is, b.is, b.var.is, s.shaped.1, s.shaped.2);
        within = s.shaped.3;
        carries = rw (b.is, b.var.is, s.shaped.1, s.shaped.2) at (carried s);
        passes = omega (arith, s.passes);
      }
  at_variable (ended_value ended) s =
      let e = at_ended ended s in
      let b = e.within.0 in
      record {
        done = e.done;
        mark = b.mark;
        word = b.var.word;
        variables = b.var.variables;
        before = b.var.before;
        waiting = e.waiting;
        operand = e.operand;
        is = e.is ∙ rw (b.is, b.var.is);
        within = e.within.1;
        carries = rw (b.is, b.var.is) at e.carries;
        passes = e.passes;
      }

  -- what ends a return, variables, an item, or a part of the head of a `for`
  behind_ended : {from to : Control} {ending : Ending} → ((done : Syntax) (starts : List Pending) → Within ending done starts nests → Behind done nests to) → Ended from ending
      → Stands from g nests table stack₀ first floor passed l stack cells → AtValue to g nests table stack₀ first floor passed l stack cells
  behind_ended behind ended s =
      let e = at_ended ended s in
      record { done = e.done; starts = e.starts; waiting = e.waiting; operand = e.operand; is = e.is; within = behind e.done e.starts e.within; carries = e.carries; passes = e.passes }

  behind_variable : {from to : Control} {place : Variables} → ((done : Syntax) → InVariables place done nests → Behind done nests to) → VariableEnded from place
      → Stands from g nests table stack₀ first floor passed l stack cells → AtValue to g nests table stack₀ first floor passed l stack cells
  behind_variable behind ended s =
      let e = at_variable ended s in
      record { done = e.done; starts = pending variable_syntax e.mark nil ∷ pending var_word e.word e.variables ∷ e.before; waiting = e.waiting; operand = e.operand; is = e.is; within = behind e.done e.within; carries = e.carries; passes = e.passes }

  behind_none : {to : Control} → ((done : Syntax) → nests ≡ [] → Behind done nests to) → AtNone g nests table stack₀ first floor passed l stack cells
      → AtValue to g nests table stack₀ first floor passed l stack cells
  behind_none behind h =
      record { done = h.done; starts = []; waiting = []; operand = nil; is = h.is; within = behind h.done h.none; carries = h.carries; passes = h.passes }

  part_value : {from to : Control} → PartEnded from to → Stands from g nests table stack₀ first floor passed l stack cells
      → AtValue to g nests table stack₀ first floor passed l stack cells
  part_value no_start s = behind_none (λ done none. behind_start none) (at_none s s.shaped refl)
  part_value (ended_start ended) s = behind_ended (λ done starts w. behind_start w.1) ended s
  part_value no_test s = behind_none (λ done none. behind_test none) (at_none s s.shaped refl)
  part_value (ended_test ended) s = behind_ended (λ done starts w. behind_test w.1) ended s

  pub at_value : {from to : Control} → Leads end_value from to → Stands from g nests table stack₀ first floor passed l stack cells
      → AtValue to g nests table stack₀ first floor passed l stack cells
  at_value (to_return_end {setting = setting} ended) s = behind_ended (λ done starts w. behind-statement setting w) ended s
  at_value (to_variables_end {place = place} ended) s = behind_variable (variables_behind place) ended s
  at_value (to_semicolon {setting = setting}) s =
      record {
        done = s.done;
        starts = s.starts;
        waiting = s.waiting;
        operand = s.operand;
        is = s.is;
        within = behind-statement setting s.shaped.1;
        carries = carried s;
        passes = omega (arith, s.passes);
      }
  at_value (to_item_end {items = items} ended) s = behind_ended (λ done starts w. behind_item items w.1) ended s
  at_value (to_next_part ended) s = part_value ended s
  at_value (to-object (before_target {ending = ending} {target = target} t)) s =
      behind_ended (λ done starts w. behind-target (in_target ending target t done starts w)) ended_operand s
  at_value (to-object (before_variable ended)) s = behind_variable (λ done w. behind-target w) ended s

  -- all that a nest has is its statement
  pub nest_done : {nest : Nest} (s : Stands (statement_done nest) g nests table stack₀ first floor passed l stack cells)
      → Carries nests table stack₀ first floor (snoc nil s.shaped.3.last) [] [] nil l stack cells
  nest_done s = rw (s.shaped.0, s.shaped.1, s.shaped.2, s.shaped.3.is) at (carried s)
