-- The effects, by number: what the level calls for, and what it has then.
use mathlib.Core.Path.{◌≡◌, refl}
use mathlib.Core.Bool.{Bool, true, false, not, ◌&&◌}
use mathlib.Core.List.{List}
use mathlib.Core.Logic.{◌⊎◌, inl, inr}
use Prim.Native.Nat.{ℕ, ◌+◌, ◌-◌, ◌≤◌, ◌<◌}
use native.Mathlib.Omega.{arith}
use borrow.Author.Tests.{eq-eqb}
use lib.Dec.{T, eqb, eqb→eq, leb, leb→le}
use lib.ListN.{length, get_or}
use Rattle.text.proofs.Range.{and_left, and_right}
use Rattle.text.proofs.Members.{at, found}
use Rattle.tables.specs.Records.{most_trees, most_syntax}
use Rattle.machine.specs.Tokens.{new_word, comma, else_word}
use Rattle.machine.specs.Syntax.{member_syntax, expression_syntax, label_syntax, variable_syntax, empty_syntax}
use Rattle.machine.specs.Operators.{assignment_operators, binary_operators_by, is_among, prefix_operators, prefix_kind}
use Rattle.machine.specs.Machinery.Machine as machine
use Rattle.machine.specs.Machinery.Machine.{
  Frame,
  frame,
  new_precedence,
  tightness,
  threshold,
  head_words,
  jump_words,
  keep,
  take_name,
  take_member,
  end_expression,
  end_value,
  end_bare,
  end_empty,
  end_variable,
  take_label,
  take_else,
  hold_word,
  take_leaf,
  take_operator,
  take_prefix,
  take_postfix,
  start_statement,
  no_target,
  some_target,
  allows_in,
  Setting,
  Control,
}
use Rattle.controls.specs.Machinery.Steps.{
  ended_operand,
  Started,
  started_return,
  started_throw,
  started_jump,
  started_head,
  started_debugger,
  started_var,
  started_for,
  started_switch,
  Leads,
  to_name,
  to_leaf,
  to-function,
  to-declaration,
  to_start,
  to_empty,
  to_else,
  to_variable,
  to_head_variable,
  to_case,
  to_default,
  to_catch,
  to_finally,
  to_finally_behind,
  to_next_variable,
  to_bare_jump,
  to_label,
  to_bare_end,
  to_member,
  to_prefix,
  to_new,
  to_postfix,
  to_assign,
  to_operator,
  to_comma,
  to_end,
}
use Rattle.controls.specs.Machinery.Written.{put_record}
use Rattle.waiting.specs.Machinery.Waiting.{nothing_waits, popped, binding, Backed, Closes, Completes, stack_with, waiting_one, made_one, with_held, restarted}
use Rattle.waiting.specs.declared.Level.{Level}
use Rattle.waiting.specs.declared.Waiting.{Waiting}
use Rattle.waiting.proofs.HoldLaws.{backed, uppermost, start_le, unstacked_held}
use Rattle.waiting.proofs.OperatorLaws.{operator_small}
use Rattle.frames.specs.Machinery.Stands.{Stands}
use Rattle.frames.specs.Machinery.Effects.{MayAffect, Affects}
use Rattle.frames.proofs.CarryLaws.{back_one, undone_one, carried, closes_lightens, carries_made, carries_back, carries_expression, left-one, carries_around}
use Rattle.frames.proofs.AtLaws.{AtWord, at_word, at_variable, at_value, nest_done}
use Rattle.frames.proofs.EffectLaws.{
  keeps,
  takes_leaf,
  takes_member,
  holds_name,
  holds_word,
  holds_declared,
  starts_statement,
  takes_else,
  takes_label,
  takes-prefix,
  takes_postfix,
  takes_new,
  takes_operator,
  ends_expression,
  ends_value,
  ends-bare,
  ends_empty,
  ends_variable,
}

-- an operator binds as operators do, closes some, and has a left side; and one before its operand
abbrev is_fine : ℕ → Bool
is_fine class = (leb 1 (tightness class) && leb 1 (threshold class)) && (leb (threshold class) new_precedence && not (eqb class new_word))

record Fine (class : ℕ) : Type 0 where
  tight : 1 ≤ tightness class
  some : 1 ≤ threshold class
  small : threshold class ≤ new_precedence
  other : class ≡ new_word → ⊥

fine : (class : ℕ) → T (is_fine class) → Fine class
fine class t =
    let a = and_left (leb 1 (tightness class) && leb 1 (threshold class)) (leb (threshold class) new_precedence && not (eqb class new_word)) t in
    let b = and_right (leb 1 (tightness class) && leb 1 (threshold class)) (leb (threshold class) new_precedence && not (eqb class new_word)) t in
    record {
      tight = leb→le 1 (tightness class) (and_left (leb 1 (tightness class)) (leb 1 (threshold class)) a);
      some = leb→le 1 (threshold class) (and_right (leb 1 (tightness class)) (leb 1 (threshold class)) a);
      small = leb→le (threshold class) new_precedence (and_left (leb (threshold class) new_precedence) (not (eqb class new_word)) b);
      other = λ e. differ (rw (eq-eqb class new_word e) at (and_right (leb (threshold class) new_precedence) (not (eqb class new_word)) b));
    }
  where
    differ : T (not true) → ⊥
    differ t = absurd t

binary_fine : (within : Bool) (class : ℕ) → T (is_among (binary_operators_by within) class) → Fine class
binary_fine true class listed = fine class (at is_fine (found (binary_operators_by true) class listed) tt)
binary_fine false class listed = fine class (at is_fine (found (binary_operators_by false) class listed) tt)

operator_fine : {class : ℕ} {from to : Control} → Leads (take_operator class) from to → Fine class
operator_fine {class = class} (to_assign may listed) = fine class (at is_fine (found assignment_operators class listed) tt)
operator_fine {class = class} (to_operator {ending = ending} listed ended) = binary_fine (allows_in ending) class listed
operator_fine (to_comma takes ended) = fine comma tt

prefix_tight : {kind : ℕ} {from to : Control} → Leads (take_prefix kind) from to → 1 ≤ tightness kind
prefix_tight (to_prefix class listed due takes) =
    leb→le 1 (tightness (prefix_kind class)) (at (λ (k : ℕ). leb 1 (tightness (prefix_kind k))) (found prefix_operators class listed) tt)
prefix_tight (to_new due) = omega arith

-- what a statement begins with, or a variable
abbrev is_beginning : ℕ → Bool
is_beginning kind = (leb 1 kind && leb kind most_trees) && eqb (binding kind) 1

record Begins (kind : ℕ) : Type 0 where
  some : 1 ≤ kind
  small : kind ≤ most_trees
  binds : binding kind ≡ 1

begins : (kind : ℕ) → T (is_beginning kind) → Begins kind
begins kind t =
    let a = and_left (leb 1 kind && leb kind most_trees) (eqb (binding kind) 1) t in
    record {
      some = leb→le 1 kind (and_left (leb 1 kind) (leb kind most_trees) a);
      small = leb→le kind most_trees (and_right (leb 1 kind) (leb kind most_trees) a);
      binds = eqb→eq (binding kind) 1 (and_right (leb 1 kind && leb kind most_trees) (eqb (binding kind) 1) t);
    }

started_begins : {kind : ℕ} {setting : Setting} {to : Control} → Started kind setting to → T (is_beginning kind)
unfolding binding
started_begins started_return = tt
started_begins started_throw = tt
started_begins {kind = kind} (started_jump listed) = at is_beginning (found jump_words kind listed) tt
started_begins {kind = kind} (started_head listed) = at is_beginning (found head_words kind listed) tt
started_begins started_debugger = tt
started_begins started_var = tt
started_begins started_for = tt
started_begins started_switch = tt

start_begins : {kind : ℕ} {from to : Control} → Leads (start_statement kind) from to → T (is_beginning kind)
unfolding binding
start_begins (to_start started) = started_begins started
start_begins to_variable = tt
start_begins to_head_variable = tt
start_begins to_case = tt
start_begins to_default = tt
start_begins to_catch = tt
start_begins to_finally = tt
start_begins to_finally_behind = tt

-- of either of two
pub by_either : {A B C : Type 0} → (A → C) → (B → C) → A ⊎ B → C
by_either f g (inl a) = f a
by_either f g (inr b) = g b

module _ {l : Level} {stack : List Waiting} {cells : List ℕ} where
  pub leaf_affects : (class mark : ℕ) {r : Level} {cells' : List ℕ} → (r ≡ made_one l) × (cells' ≡ put_record cells l.count class mark (l.count - l.start + 1))
      → Affects (take_leaf class) mark l stack cells r stack cells'
  leaf_affects class mark e from to g nests table stack₀ first floor passed s (to_leaf due) more = rw (e.0, e.1) (takes_leaf more class mark due s)

  pub member_affects : (mark : ℕ) {r : Level} {cells' : List ℕ} → (r ≡ made_one l) × (cells' ≡ put_record cells l.count member_syntax mark (l.count - l.start + 1))
      → Affects take_member mark l stack cells r stack cells'
  member_affects mark e from to g nests table stack₀ first floor passed s to_member more = rw (e.0, e.1) (takes_member more mark s)

  operator_affected : (class mark : ℕ) {from to : Control} {g : Frame} {nests : List machine.Open} {table : List ℕ} {stack₀ : List Waiting} {first floor passed : ℕ} {left : Level} {after : List ℕ}
      → mark ≤ most_trees → l.top < length stack → first + floor + passed < most_trees
      → (left.floor ≡ l.floor) × (left.held ≡ l.held) × Closes (threshold class + 1) l stack cells left after
      → Leads (take_operator class) from to → Fine class → Stands from g nests table stack₀ first floor passed l stack cells
      → Stands to (machine.affect (take_operator class) mark g) nests table stack₀ first floor (passed + 1) (waiting_one left)
      (stack_with stack left.top class mark left.start) after
  operator_affected class mark small room more closes (to_assign may listed) o s =
      takes_operator more some_target class mark small room o.tight o.some o.other closes.0 closes.1 closes.2 ended_operand s
  operator_affected class mark small room more closes (to_operator listed ended) o s =
      takes_operator more no_target class mark small room o.tight o.some o.other closes.0 closes.1 closes.2 ended s
  operator_affected class mark small room more closes (to_comma takes ended) o s =
      takes_operator more some_target class mark small room o.tight o.some o.other closes.0 closes.1 closes.2 ended s

  pub operator_affects : (class mark least : ℕ) {left r : Level} {after : List Waiting} {cells' : List ℕ} → mark ≤ most_trees → l.top < length stack → least ≡ threshold class
      → (left.floor ≡ l.floor) × (left.held ≡ l.held) × Closes (least + 1) l stack cells left cells'
      → (r ≡ waiting_one left) × (after ≡ stack_with stack left.top class mark left.start) → Affects (take_operator class) mark l stack cells r after cells'
  operator_affects class mark least small room tight closes e from to g nests table stack₀ first floor passed s leads more =
      rw (e.0, e.1) (operator_affected class mark small room more (closes.0, closes.1, rw tight at closes.2) leads (operator_fine leads) s)

  prefix_affected : (kind mark : ℕ) {from to : Control} {g : Frame} {nests : List machine.Open} {table : List ℕ} {stack₀ : List Waiting} {first floor passed : ℕ} → mark ≤ most_trees
      → l.top < length stack → first + floor + passed < most_trees → Leads (take_prefix kind) from to → 1 ≤ tightness kind
      → Stands from g nests table stack₀ first floor passed l stack cells
      → Stands to (machine.affect (take_prefix kind) mark g) nests table stack₀ first floor (passed + 1) (waiting_one l) (stack_with stack l.top kind mark l.start) cells
  prefix_affected kind mark small room more (to_prefix class listed due takes) tight s = takes-prefix more kind mark small room tight due s
  prefix_affected kind mark small room more (to_new due) tight s = takes_new more mark small room due s

  pub prefix_affects : (kind mark : ℕ) {by : ℕ} {r : Level} {after : List Waiting} → mark ≤ most_trees → l.top < length stack → by ≡ kind
      → (r ≡ waiting_one l) × (after ≡ stack_with stack l.top by mark l.start) → Affects (take_prefix kind) mark l stack cells r after cells
  prefix_affects kind mark small room is e from to g nests table stack₀ first floor passed s leads more =
      rw (e.0, e.1, is) (prefix_affected kind mark small room more leads (prefix_tight leads) s)

  postfix_affected : (kind mark : ℕ) {from to : Control} {g : Frame} {nests : List machine.Open} {table : List ℕ} {stack₀ : List Waiting} {first floor passed : ℕ} {left : Level} {after : List ℕ}
      → first + floor + passed < most_trees → (left.floor ≡ l.floor) × (left.held ≡ l.held) × Closes (new_precedence + 1) l stack cells left after
      → Leads (take_postfix kind) from to → Stands from g nests table stack₀ first floor passed l stack cells
      → Stands to (machine.affect (take_postfix kind) mark g) nests table stack₀ first floor (passed + 1) (made_one left) stack
      (put_record after left.count kind mark (left.count - left.start + 1))
  postfix_affected kind mark more closes (to_postfix class listed) s = takes_postfix more kind mark closes.0 closes.1 closes.2 s

  pub postfix_affects : (kind mark : ℕ) {by : ℕ} {left r : Level} {after cells' : List ℕ} → by ≡ kind
      → (left.floor ≡ l.floor) × (left.held ≡ l.held) × Closes (new_precedence + 1) l stack cells left after
      → (r ≡ made_one left) × (cells' ≡ put_record after left.count by mark (left.count - left.start + 1)) → Affects (take_postfix kind) mark l stack cells r stack cells'
  postfix_affects kind mark is closes e from to g nests table stack₀ first floor passed s leads more = rw (e.0, e.1, is) (postfix_affected kind mark more closes leads s)

  pub label_affects : (mark : ℕ) {r : Level} {after : List Waiting} → l.top < length stack
      → (r ≡ waiting_one l) × (after ≡ stack_with stack l.top label_syntax l.held l.start) → Affects take_label mark l stack cells r after cells
  label_affects mark room e from to g nests table stack₀ first floor passed s to_label more = rw (e.0, e.1) (takes_label more mark room s)

  pub word_affects : (mark : ℕ) {r : Level} → mark ≤ most_trees → r ≡ with_held mark l → Affects hold_word mark l stack cells r stack cells
  word_affects mark small e from to g nests table stack₀ first floor passed s (to-function due) more = rw e (holds_word more mark small due s)
  word_affects mark small e from to g nests table stack₀ first floor passed s to-declaration more = rw e (holds_declared more mark small s)

  pub name_affects : (mark : ℕ) {r : Level} → mark ≤ most_trees → r ≡ with_held mark l → Affects take_name mark l stack cells r stack cells
  name_affects mark small e from to g nests table stack₀ first floor passed s to_name more = rw e (holds_name more mark small s)

  pub start_affects : (kind mark : ℕ) {by : ℕ} {r : Level} {after : List Waiting} → mark ≤ most_trees → l.top < length stack → by ≡ kind
      → (r ≡ waiting_one l) × (after ≡ stack_with stack l.top by mark l.start) → Affects (start_statement kind) mark l stack cells r after cells
  start_affects kind mark small room is e from to g nests table stack₀ first floor passed s leads more =
      let b = begins kind (start_begins leads) in
      rw (e.0, e.1, is) (starts_statement more mark small room leads b.some b.binds s)

  pub expression_affects : (mark : ℕ) {left one all : Level} {after cells' cells'' : List ℕ} → (left.floor ≡ l.floor) × (left.held ≡ l.held) × Closes 2 l stack cells left after
      → (one ≡ made_one left) × (cells' ≡ put_record after left.count expression_syntax mark (left.count - left.start + 1)) → Completes one stack cells' all cells''
      → Affects end_expression mark l stack cells all stack cells''
  expression_affects mark closes e completes from to g nests table stack₀ first floor passed s (to_end ended) more =
      ends_expression more mark closes.0 closes.1 closes.2 (rw (e.0, e.1) at completes) ended s

  pub value_affects : (mark : ℕ) {all : Level} {cells' : List ℕ} → Completes l stack cells all cells' → Affects end_value mark l stack cells all stack cells'
  value_affects mark completes from to g nests table stack₀ first floor passed s leads more = ends_value more mark completes (at_value leads s)

  pub bare_affects : (mark k m : ℕ) {one all : Level} {cells' cells'' : List ℕ} → (get_or stack (l.top - 1) nothing_waits).kind ≡ k → (get_or stack (l.top - 1) nothing_waits).mark ≡ m
      → (one ≡ made_one (back_one l)) × (cells' ≡ put_record cells l.count (k - 1) m (l.count - l.count + 1)) → Completes one stack cells' all cells''
      → Affects end_bare mark l stack cells all stack cells''
  bare_affects mark k m kind_at mark-at e completes from to g nests table stack₀ first floor passed s (to_bare_end {setting = setting}) more =
      ends-bare more mark (at_word {setting = setting} s s.shaped refl) kind_at mark-at (rw (e.0, e.1) at completes)
  bare_affects mark k m kind_at mark-at e completes from to g nests table stack₀ first floor passed s (to_bare_jump {setting = setting}) more =
      ends-bare more mark (at_word {setting = setting} s s.shaped refl) kind_at mark-at (rw (e.0, e.1) at completes)

  pub empty_affects : (mark : ℕ) {one all : Level} {cells' cells'' : List ℕ} → (one ≡ made_one l) × (cells' ≡ put_record cells l.count empty_syntax mark (l.count - l.start + 1))
      → Completes one stack cells' all cells'' → Affects end_empty mark l stack cells all stack cells''
  empty_affects mark e completes from to g nests table stack₀ first floor passed s to_empty more = ends_empty more mark (rw (e.0, e.1) at completes) s

  pub variable_affects : (mark m : ℕ) {whole one : Level} {after cells' : List ℕ} → (whole.floor ≡ l.floor) × (whole.held ≡ l.held) × Closes 2 l stack cells whole after
      → (get_or stack (whole.top - 1) nothing_waits).mark ≡ m
      → (one ≡ made_one (popped whole stack)) × (cells' ≡ put_record after whole.count variable_syntax m (whole.count - (get_or stack (whole.top - 1) nothing_waits).start + 1))
      → Affects end_variable mark l stack cells (restarted one) stack cells'
  variable_affects mark m closes mark-at e from to g nests table stack₀ first floor passed s (to_next_variable ended) more =
      rw (e.0, e.1) (ends_variable more mark closes.0 closes.1 closes.2 mark-at ended s)

  pub else_affects : (mark : ℕ) {r : Level} {after : List Waiting} → mark ≤ most_trees → l.top < length stack
      → (r ≡ waiting_one (undone_one l stack)) × (after ≡ stack_with stack l.top else_word mark (get_or stack (l.top - 1) nothing_waits).start) → Affects take_else mark l stack cells r after cells
  else_affects mark small room e from to g nests table stack₀ first floor passed s to_else more = rw (e.0, e.1) (takes_else more mark small room s)

  pub keep_affects : (mark : ℕ) → Affects keep mark l stack cells l stack cells
  keep_affects mark from to g nests table stack₀ first floor passed s leads more = keeps more mark leads s

-- what the calls in between ask for
module _ {kind by mark : ℕ} {l : Level} {stack : List Waiting} {cells : List ℕ} where
  pub prefix_asks : MayAffect (take_prefix kind) mark l stack cells → by ≡ kind
      → (l.top < length stack) × (by < 65536) × (mark ≤ most_trees) × (l.start ≤ most_trees)
  prefix_asks may is =
      let s = may.somewhere.stands in
      (may.room, omega (arith, is, operator_small kind (prefix_tight may.leads)), omega (arith, may.marked), omega (arith, s.holds.counts, s.holds.few))

  pub start_asks : MayAffect (start_statement kind) mark l stack cells → by ≡ kind
      → (l.top < length stack) × (by < 65536) × (mark ≤ most_trees) × (l.start ≤ most_trees)
  start_asks may is =
      let s = may.somewhere.stands in
      (may.room, omega (arith, is, (begins kind (start_begins may.leads)).small), omega (arith, may.marked), omega (arith, s.holds.counts, s.holds.few))

pub threshold_small : {class mark : ℕ} {l : Level} {stack : List Waiting} {cells : List ℕ} → MayAffect (take_operator class) mark l stack cells → threshold class ≤ new_precedence
threshold_small may = (operator_fine may.leads).small

module _ {mark : ℕ} {l r : Level} {stack : List Waiting} {cells after : List ℕ} where
  pub operator_asks : (least : ℕ) {class : ℕ} → MayAffect (take_operator class) mark l stack cells → (r.floor ≡ l.floor) × (r.held ≡ l.held) × Closes least l stack cells r after
      → (r.top < length stack) × (class < 65536) × (mark ≤ most_trees) × (r.start ≤ most_trees)
  operator_asks least {class = class} may closes =
      let s = may.somewhere.stands in
      let light = closes_lightens _ s.holds closes.0 closes.2 in
      (omega (arith, light, may.room), omega (arith, operator_small class (operator_fine may.leads).tight), omega (arith, may.marked), omega (arith, light, s.holds.few))

  pub operand_asks : (least : ℕ) {effect : machine.Effect} → MayAffect effect mark l stack cells → (r.floor ≡ l.floor) × (r.held ≡ l.held) × Closes least l stack cells r after
      → (r.start ≤ r.count) × (r.count < most_syntax) × (mark ≤ most_trees)
  operand_asks least may closes =
      let s = may.somewhere.stands in
      let light = closes_lightens _ s.holds closes.0 closes.2 in
      (light.started, omega (arith, light, s.holds.few), omega (arith, may.marked))

  pub expression_held : (kind : ℕ) {one : Level} {cells' : List ℕ} → MayAffect end_expression mark l stack cells
      → (r.floor ≡ l.floor) × (r.held ≡ l.held) × Closes 2 l stack cells r after
      → (one ≡ made_one r) × (cells' ≡ put_record after r.count kind mark (r.count - r.start + 1)) → Backed one stack cells'
  expression_held kind may closes e =
      let s = may.somewhere.stands in
      let light = closes_lightens _ s.holds closes.0 closes.2 in
      rw (e.0, e.1)
      (backed (carries_made (carries_expression (carried s) closes.0 closes.1 closes.2) kind mark (omega (arith, light, s.passes, may.more))).holds)

pub empty_held : {mark : ℕ} {l one : Level} {stack : List Waiting} {cells cells' : List ℕ} → MayAffect end_empty mark l stack cells
    → (one ≡ made_one l) × (cells' ≡ put_record cells l.count empty_syntax mark (l.count - l.start + 1)) → Backed one stack cells'
empty_held {mark = mark} may e =
    let s = may.somewhere.stands in
    rw (e.0, e.1) (backed (carries_made (carried s) empty_syntax mark (omega (arith, s.passes, may.more))).holds)

-- the word that waits uppermost, alone
pub record Alone (l : Level) (stack : List Waiting) (cells : List ℕ) : Type 0 where
  pub waits : 1 ≤ l.top
  pub fits : l.top ≤ length stack
  pub some : 1 ≤ (get_or stack (l.top - 1) nothing_waits).kind
  pub marked : (get_or stack (l.top - 1) nothing_waits).mark ≤ most_trees
  pub holds : (k m : ℕ) {one : Level} {cells' : List ℕ} → (one ≡ made_one (back_one l)) × (cells' ≡ put_record cells l.count k m (l.count - l.count + 1)) → Backed one stack cells'

-- the variable that waits uppermost, once its operators are closed
pub record Joining (r : Level) (stack : List Waiting) : Type 0 where
  pub waits : 1 ≤ r.top
  pub fits : r.top ≤ length stack
  pub marked : (get_or stack (r.top - 1) nothing_waits).mark ≤ most_trees
  pub started : (get_or stack (r.top - 1) nothing_waits).start ≤ r.count
  pub room : r.count < most_syntax

-- the statement before an `else`
pub record Before (l : Level) (stack : List Waiting) : Type 0 where
  pub waits : 1 ≤ l.top
  pub fits : l.top ≤ length stack
  pub started : (get_or stack (l.top - 1) nothing_waits).start ≤ most_trees

module _ {l : Level} {stack : List Waiting} {cells : List ℕ} where
  word_alone : {setting : Setting} {g : Frame} {nests : List machine.Open} {table : List ℕ} {stack₀ : List Waiting} {first floor passed : ℕ}
      → AtWord setting g nests table stack₀ first floor passed l stack cells → first + floor + passed < most_trees → Alone l stack cells
  word_alone h more =
      let u = uppermost h.carries.holds in
      record {
        waits = u.some;
        fits = u.fits;
        some = omega (arith, u.kind_is, h.some);
        marked = omega (arith, u.mark_is, u.marked);
        holds = λ k m e. rw (e.0, e.1) (backed (carries_made (carries_back h.carries) k m (omega (arith, h.passes))).holds);
      }

  alone : {from to : Control} {g : Frame} {nests : List machine.Open} {table : List ℕ} {stack₀ : List Waiting} {first floor passed : ℕ} → Leads end_bare from to
      → Stands from g nests table stack₀ first floor passed l stack cells → first + floor + passed < most_trees → Alone l stack cells
  alone (to_bare_end {setting = setting}) s more = word_alone (at_word {setting = setting} s s.shaped refl) more
  alone (to_bare_jump {setting = setting}) s more = word_alone (at_word {setting = setting} s s.shaped refl) more

  pub bare_asks : {mark : ℕ} → MayAffect end_bare mark l stack cells → Alone l stack cells
  bare_asks may = alone may.leads may.somewhere.stands may.more

  joining : {from to : Control} {g : Frame} {nests : List machine.Open} {table : List ℕ} {stack₀ : List Waiting} {first floor passed : ℕ} {r : Level} {after : List ℕ} → Leads end_variable from to
      → Stands from g nests table stack₀ first floor passed l stack cells → (r.floor ≡ l.floor) × (r.held ≡ l.held) × Closes 2 l stack cells r after → Joining r stack
  joining (to_next_variable ended) s closes =
      let h = carries_expression (at_variable ended s).carries closes.0 closes.1 closes.2 in
      let u = uppermost h.holds in
      record {
        waits = u.some;
        fits = u.fits;
        marked = omega (arith, u.mark_is, u.marked);
        started = start_le (unstacked_held h.holds);
        room = omega (arith, h.holds.few);
      }

  pub variable_asks : {mark : ℕ} {r : Level} {after : List ℕ} → MayAffect end_variable mark l stack cells
      → (r.floor ≡ l.floor) × (r.held ≡ l.held) × Closes 2 l stack cells r after → Joining r stack
  variable_asks may closes = joining may.leads may.somewhere.stands closes

  before : {from to : Control} {g : Frame} {nests : List machine.Open} {table : List ℕ} {stack₀ : List Waiting} {first floor passed : ℕ} → Leads take_else from to
      → Stands from g nests table stack₀ first floor passed l stack cells → Before l stack
  before to_else s = let a = carries_around s.shaped.4 (left-one refl) (nest_done s) in record { waits = a.waits; fits = a.fits; started = a.started }

  pub else_asks : {mark : ℕ} → MayAffect take_else mark l stack cells → Before l stack
  else_asks may = before may.leads may.somewhere.stands

  -- neither what ends a bare statement nor what ends a variable takes account of the mark
  pub bare_any : (mark : ℕ) {r : Level} {after : List Waiting} {cells' : List ℕ} → Affects end_bare 0 l stack cells r after cells' → Affects end_bare mark l stack cells r after cells'
  bare_any mark affects from to (frame done starts waiting operand) nests table stack₀ first floor passed s leads more =
      affects from to (frame done starts waiting operand) nests table stack₀ first floor passed s leads more

  pub variable_any : (mark : ℕ) {r : Level} {after : List Waiting} {cells' : List ℕ} → Affects end_variable 0 l stack cells r after cells' → Affects end_variable mark l stack cells r after cells'
  variable_any mark affects from to (frame done starts waiting operand) nests table stack₀ first floor passed s leads more =
      affects from to (frame done starts waiting operand) nests table stack₀ first floor passed s leads more

  pub markless : {effect : machine.Effect} {mark : ℕ} → MayAffect effect mark l stack cells → MayAffect effect 0 l stack cells
  markless may =
      record {
        from = may.from;
        to = may.to;
        leads = may.leads;
        somewhere = may.somewhere;
        room = may.room;
        more = may.more;
        marked = omega arith;
      }
