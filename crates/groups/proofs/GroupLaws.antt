-- What a group that closes does to the frame around it, as the level has it.
use mathlib.Core.Path.{◌≡◌, refl, ◌∙◌}
use mathlib.Core.Bool.{Bool, true, false, cond}
use mathlib.Core.List.{List, [], ◌∷◌, ◌++◌}
use mathlib.Core.Logic.{◌⊎◌, inl, inr}
use Prim.Native.Nat.{ℕ, ◌+◌, ◌-◌, ◌≤◌, ◌<◌}
use native.Mathlib.Omega.{arith}
use borrow.Author.Tests.{ne_eqb}
use lib.ListN.{length, get_or}
use Rattle.tables.specs.Records.{most_trees}
use Rattle.machine.specs.Tokens.{new_word}
use Rattle.machine.specs.Syntax.{Syntax, nil, node, object_syntax, parenthesised_syntax, function_syntax, call_syntax, construct_syntax, block_syntax, for_in_syntax, if_syntax, declaration_syntax, array_syntax, index_syntax}
use Rattle.machine.specs.Scopes.{body}
use Rattle.machine.specs.Machinery.Machine as machine
use Rattle.machine.specs.Machinery.Machine.{
  Pending,
  pending,
  Frame,
  frame,
  new_precedence,
  called,
  if_nest,
  Setting,
  among,
  in_clause,
  in_nest,
  Target,
  behind_statement,
  Closing,
  to_parens,
  to_call,
  to_object,
  to_array,
  to_index,
  to_block,
  to_condition,
  to_head,
  to_for,
  to_for_in,
  in_for,
  to_test,
  to_statement,
  to_parameter,
  to_declaration,
  to_function,
  Ending,
  declared,
  operand_in,
  Control,
  statement_due,
  test_first,
  semicolon_due,
  switch_past,
  if_first,
  operand_done,
  parameter_past,
}
use Rattle.controls.specs.Machinery.Numbers.{closing_by}
use Rattle.controls.specs.Machinery.Steps.{Due, Spans, past_parens, past_object, past_array, past_index, past_call, past_condition, past_head, past_for, past_for_in, past_subject, past_clauses, past_tried, past_caught, past_handled, past_finally, past_test, past_parameter, past_unnamed, past_block, past_declaration, past_function}
use Rattle.controls.specs.Machinery.Written.{put_record}
use Rattle.controls.specs.declared.Closing as closings
use Rattle.controls.specs.declared.Closing.TheVariants as group
use Rattle.waiting.specs.Machinery.Waiting.{nothing_waits, popped, binding, Holds, Backed, Completes, stack_with, stack_as, waiting_one, made_one, restarted}
use Rattle.waiting.specs.declared.Level.{Level}
use Rattle.waiting.specs.declared.Waiting.{Waiting}
use Rattle.waiting.proofs.HoldLaws.{backed, bottom_top, uppermost}
use Rattle.waiting.proofs.CloseLaws.{Usable, usable}
use Rattle.frames.specs.Machinery.Stands.{Operators, no_operators, more_operators, Beginnings, InSetting, Stands}
use Rattle.frames.specs.Machinery.Effects.{Valued, MayClose, ClosesGroup}
use Rattle.frames.proofs.CloseLaws.{Stops, stops_none, stops_at, below_stops, starts_stop}
use Rattle.frames.proofs.CarryLaws.{with_count, carried, stands, carries_made, carries_valued, carries_alone, carries_both, carries_dropped, carries_headed, carries_headed_as, carries_beginning, carries_statement, completes_lightens}
use Rattle.frames.proofs.AtLaws.{AtStatement, AtWord, Behind, behind-statement, behind_tried, behind_handled, behind_finally, at_part, at_statement, at_word, at_operand}
use Rattle.frames.proofs.EffectLaws.{behind}

-- the `new` that waits uppermost, with nothing on its left
record NewWaits (stack : List Waiting) (top : ℕ) (waiting : List Pending) : Type 0 where
  word : ℕ
  rest : List Pending
  is : waiting ≡ pending new_word word nil ∷ rest
  word_is : (get_or stack (top - 1) nothing_waits).mark ≡ word
  some : 1 ≤ top

module _ {table : List ℕ} {first : ℕ} {base last : Syntax} {l : Level} {stack : List Waiting} {cells : List ℕ} where
  -- nothing else is of its kind
  none_newer : {least : ℕ} {ps : List Pending} → least ≤ new_precedence → Stops least ps → Holds table first base ps last l stack cells → l.floor < l.top
      → (get_or stack (l.top - 1) nothing_waits).kind ≡ new_word → ⊥
  unfolding binding
  none_newer few stops_none h more is-new = let z = bottom_top h in omega arith
  none_newer few (stops_at {kind = kind} less) h more is-new =
      let u = uppermost h in
      let same : kind ≡ new_word = omega (arith, u.kind_is) in
      let b : binding new_word < _ = rw same at less in
      omega (arith, b)

  new_waits : {waiting starts tail : List Pending} → Operators waiting → Beginnings starts → Stops 1 tail → Holds table first base (waiting ++ (starts ++ tail)) last l stack cells
      → l.floor < l.top → (get_or stack (l.top - 1) nothing_waits).kind ≡ new_word → NewWaits stack l.top waiting
  new_waits no_operators beginnings stops h more is-new = absurd (none_newer (omega arith) (starts_stop beginnings stops) h more is-new)
  new_waits (more_operators {kind = kind} {mark = mark} {ps = ps} tight alone others) _ stops h more is-new =
      let u = uppermost h in
      let same : kind ≡ new_word = omega (arith, u.kind_is) in
      record { word = mark; rest = ps; is = rw (alone same, same); word_is = u.mark_is; some = u.some }

  -- where none waits, arguments make a call
  makes_call : (waiting below : List Pending) (mark : ℕ) (value done : Syntax) (starts : List Pending) (operand : Syntax)
      → Holds table first base (waiting ++ below) last l stack cells → (l.floor < l.top → (get_or stack (l.top - 1) nothing_waits).kind ≡ new_word → ⊥)
      → called mark value done starts waiting operand ≡ frame done starts waiting (node call_syntax mark operand value)
  makes_call [] below mark value done starts operand h none = refl
  makes_call (pending kind word left ∷ waiting) below mark value done starts operand h none =
      let u = uppermost h in rw (ne_eqb kind new_word (λ e. none u.higher (u.kind_is ∙ e)))

makes_construct : {waiting rest : List Pending} {word : ℕ} (mark : ℕ) (value done : Syntax) (starts : List Pending) (operand : Syntax) → waiting ≡ pending new_word word nil ∷ rest
    → called mark value done starts waiting operand ≡ frame done starts rest (node construct_syntax word operand value)
makes_construct mark value done starts operand e = rw e

module _ {g : Frame} {nests : List machine.Open} {table : List ℕ} {stack₀ : List Waiting} {first floor passed next n : ℕ} {l : Level} {stack_before stack : List Waiting} {cells_before cells : List ℕ} (value : Syntax)
    (valued : Valued l n value stack_before stack cells_before cells) (fits : n + l.top < first + floor + next) (few : first + floor + next ≤ most_trees) where
  -- the value is the operand's only part: with nothing of its kind before it
  pub closes_alone : {from : Control} {ending : Ending} {target : Target} (closing : Closing) (kind mark : ℕ)
      → ((done : Syntax) (starts waiting : List Pending) → machine.close closing mark value (frame done starts waiting nil) ≡ frame done starts waiting (node kind mark value nil))
      → Due from ending target → Stands from g nests table stack₀ first floor passed l stack_before cells_before
      → Stands (operand_done ending target) (machine.close closing mark value g) nests table stack₀ first floor next (made_one (with_count n l)) stack
      (put_record cells n kind mark (n - l.start + 1))
  closes_alone closing kind mark alone due s =
      let h = at_operand due s in
      rw (h.is, alone h.done h.starts h.waiting)
      (stands (node kind mark value nil)
      (carries_made (carries_alone (carries_valued h.carries n value valued (omega arith))) kind mark (omega arith)) h.within tt (omega arith) few)

  pub closes_function : {ending : Ending} {target : Target} (mark : ℕ) → Stands (parameter_past (operand_in ending target)) g nests table stack₀ first floor passed l stack_before cells_before
      → Stands (operand_done ending target) (machine.close to_function mark value g) nests table stack₀ first floor next (made_one (with_count n l)) stack
      (put_record cells n function_syntax l.held (n - l.start + 1))
  closes_function mark s =
      rw (s.is, s.held)
      (stands (node function_syntax l.held value nil)
      (carries_made (carries_alone (carries_valued (carried s) n value valued (omega arith))) function_syntax l.held (omega arith)) s.shaped tt (omega arith) few)

  -- the value stands behind the operand
  pub closes_behind : {ending : Ending} {target : Target} (closing : Closing) (kind mark : ℕ)
      → ((done : Syntax) (starts waiting : List Pending) (operand : Syntax)
      → machine.close closing mark value (frame done starts waiting operand) ≡ frame done starts waiting (node kind mark operand value))
      → Stands (operand_done ending target) g nests table stack₀ first floor passed l stack_before cells_before
      → Stands (operand_done ending target) (machine.close closing mark value g) nests table stack₀ first floor next (made_one (with_count n l)) stack
      (put_record cells n kind mark (n - l.start + 1))
  closes_behind closing kind mark both s =
      rw (s.is, both s.done s.starts s.waiting s.operand)
      (stands (node kind mark s.operand value) (carries_both kind mark (carries_valued (carried s) n value valued (omega arith)) (omega arith)) s.shaped tt
      (omega arith) few)

  -- arguments
  pub closes_call : {ending : Ending} {target : Target} (mark : ℕ) → (l.floor < l.top → (get_or stack (l.top - 1) nothing_waits).kind ≡ new_word → ⊥)
      → Stands (operand_done ending target) g nests table stack₀ first floor passed l stack_before cells_before
      → Stands (operand_done ending target) (machine.close to_call mark value g) nests table stack₀ first floor next (made_one (with_count n l)) stack
      (put_record cells n call_syntax mark (n - l.start + 1))
  closes_call mark none s =
      let h = carries_valued (carried s) n value valued (omega arith) in
      rw (s.is, makes_call s.waiting (s.starts ++ h.tail) mark value s.done s.starts s.operand h.holds none)
      (stands (node call_syntax mark s.operand value) (carries_both call_syntax mark h (omega arith)) s.shaped tt (omega arith) few)

  pub closes_construct : {ending : Ending} {target : Target} (mark word : ℕ) → l.floor < l.top → (get_or stack (l.top - 1) nothing_waits).kind ≡ new_word
      → (get_or stack (l.top - 1) nothing_waits).mark ≡ word → Stands (operand_done ending target) g nests table stack₀ first floor passed l stack_before cells_before
      → Stands (operand_done ending target) (machine.close to_call mark value g) nests table stack₀ first floor next (made_one (popped (with_count n l) stack)) stack
      (put_record cells n construct_syntax word (n - (get_or stack (l.top - 1) nothing_waits).start + 1))
  closes_construct mark word more is-new is_IsWord s =
      let h = carries_valued (carried s) n value valued (omega arith) in
      let w = new_waits h.operators h.beginnings (below_stops h.below) h.holds more is-new in
      let same : word ≡ w.word = omega (arith, w.word_is) in
      rw (s.is, same, makes_construct mark value s.done s.starts s.operand w.is)
      (stands (node construct_syntax w.word s.operand value)
      (carries_both construct_syntax w.word (carries_dropped (rw w.is at h)) (omega (arith, w.some))) s.shaped tt (omega (arith, w.some)) few)

  -- the value waits as a beginning's left side
  pub closes_condition : (mark : ℕ) → l.top < length stack → Stands if_first g nests table stack₀ first floor passed l stack_before cells_before
      → Stands (statement_due true (in_nest if_nest)) (machine.close to_condition mark value g) nests table stack₀ first floor next (waiting_one (with_count n l))
      (stack_with stack l.top if_syntax l.held l.start) cells
  unfolding binding
  closes_condition mark room s =
      rw (s.is, s.held, s.shaped.2)
      (stands nil
      (carries_beginning if_syntax l.held (rw s.shaped.2 at (carries_alone (carries_valued (carried s) n value valued (omega arith)))) (omega arith) s.worded room refl)
      (refl, refl, (s.shaped.0, s.shaped.3)) tt (omega arith) few)

  -- it is the left side of the beginning that waits, which may have another kind then, or the operand
  pub closes_head : {setting : Setting} (mark : ℕ) → AtWord setting g nests table stack₀ first floor passed l stack_before cells_before
      → Stands (statement_due true setting) (machine.close to_head mark value g) nests table stack₀ first floor next (restarted (with_count n l)) stack cells
  closes_head mark h =
      rw h.is (stands nil (carries_headed (carries_alone (carries_valued h.carries n value valued (omega arith)))) (refl, refl, h.within) tt (omega arith) few)

  pub closes_subject : {setting : Setting} (mark : ℕ) → AtWord setting g nests table stack₀ first floor passed l stack_before cells_before
      → Stands (switch_past setting) (machine.close to_head mark value g) nests table stack₀ first floor next (restarted (with_count n l)) stack cells
  closes_subject mark h =
      rw h.is (stands nil (carries_headed (carries_alone (carries_valued h.carries n value valued (omega arith)))) (refl, refl, h.within) tt (omega arith) few)

  pub closes_for : {setting : Setting} (mark : ℕ) → AtWord setting g nests table stack₀ first floor passed l stack_before cells_before
      → Stands (statement_due true setting) (machine.close to_for mark value g) nests table stack₀ first floor next (restarted (with_count n l)) stack cells
  closes_for mark h =
      rw h.is (stands nil (carries_headed (carries_alone (carries_valued h.carries n value valued (omega arith)))) (refl, refl, h.within) tt (omega arith) few)

  pub closes_for_in : {setting : Setting} (mark : ℕ) → AtWord setting g nests table stack₀ first floor passed l stack_before cells_before
      → Stands (statement_due true setting) (machine.close to_for_in mark value g) nests table stack₀ first floor next (restarted (with_count n l)) (stack_as stack l.top for_in_syntax) cells
  unfolding binding
  closes_for_in mark h =
      rw h.is
      (stands nil (carries_headed_as for_in_syntax refl (carries_alone (carries_valued h.carries n value valued (omega arith)))) (refl, refl, h.within) tt (omega arith) few)

  pub closes_test : {setting : Setting} (mark : ℕ) → Stands (test_first setting) g nests table stack₀ first floor passed l stack_before cells_before
      → Stands (semicolon_due setting) (machine.close to_test mark value g) nests table stack₀ first floor next (with_count n l) stack cells
  closes_test mark s =
      rw s.is
      (stands value (carries_alone (carries_valued (rw s.shaped.1 at (carried s)) n value valued (omega arith))) (s.shaped.0, s.shaped.2) tt (omega arith) few)

  -- parameters leave nothing
  pub closes_parameter : {from to : Control} (mark : ℕ) → value ≡ nil → Stands from g nests table stack₀ first floor passed l stack_before cells_before → Spans to_parameter from to
      → Stands to (machine.close to_parameter mark value g) nests table stack₀ first floor next (with_count n l) stack cells
  closes_parameter mark none s past_parameter =
      rw s.is
      (stands s.operand (carries_alone (rw none at (carries_valued (carried s) n value valued (omega arith)))) s.shaped s.held (omega arith) few)
  closes_parameter mark none s past_unnamed =
      rw s.is
      (stands s.operand (carries_alone (rw none at (carries_valued (carried s) n value valued (omega arith)))) s.shaped s.held (omega arith) few)
  closes_parameter mark none s past_caught =
      let h = at_part {setting = in_clause} s s.shaped refl in
      rw h.is
      (stands nil (carries_alone (rw none at (carries_valued h.carries n value valued (omega arith)))) (refl, refl, h.within) tt (omega arith) few)

  -- a statement is complete
  pub closes_block : {to : Control} {setting : Setting} (mark : ℕ) {all : Level} {cells' : List ℕ}
      → Completes (made_one (with_count n l)) stack (put_record cells n block_syntax mark (n - l.start + 1)) all cells'
      → ((done : Syntax) → InSetting setting done nests → Behind done nests to) → AtStatement setting g nests table stack₀ first floor passed l stack_before cells_before
      → Stands to (machine.close to_block mark value g) nests table stack₀ first floor next all stack cells'
  closes_block mark completes follows h =
      let one = carries_made (carries_alone (carries_valued h.carries n value valued (omega arith))) block_syntax mark (omega arith) in
      let lighter = completes_lightens one completes in
      rw h.is (behind (follows h.done h.within) (carries_statement one completes) (omega (arith, lighter)) few)

  pub closes_clauses : {setting : Setting} (mark : ℕ) {all : Level} {cells' : List ℕ} → Completes (with_count n l) stack cells all cells'
      → AtStatement setting g nests table stack₀ first floor passed l stack_before cells_before
      → Stands (behind_statement setting) (machine.close to_statement mark value g) nests table stack₀ first floor next all stack cells'
  closes_clauses {setting = setting} mark completes h =
      let one = carries_alone (carries_valued h.carries n value valued (omega arith)) in
      let lighter = completes_lightens one completes in
      rw h.is (behind (behind-statement setting h.within) (carries_statement one completes) (omega (arith, lighter)) few)

  pub closes_declaration : (mark : ℕ) {all : Level} {cells' : List ℕ}
      → Completes (made_one (with_count n l)) stack (put_record cells n declaration_syntax l.held (n - l.start + 1)) all cells'
      → Stands (parameter_past declared) g nests table stack₀ first floor passed l stack_before cells_before
      → Stands (statement_due false (among body)) (machine.close to_declaration mark value g) nests table stack₀ first floor next all stack cells'
  closes_declaration mark completes s =
      let one = carries_made (carries_alone (carries_valued (carried s) n value valued (omega arith))) declaration_syntax l.held (omega arith) in
      let lighter = completes_lightens one completes in
      rw (s.is, s.held) (behind (behind-statement (among body) s.shaped.2) (rw s.shaped.1 at (carries_statement one completes)) (omega (arith, lighter)) few)

-- only the head of a `for` may have `in`
pub closing_other : (closing : closings.Closing) (within : Bool) → (closing ≡ group.For → ⊥) → closing_by closing ≡ cond within (in_for (closing_by closing)) (closing_by closing)
closing_other closing false other = refl
closing_other group.For true other = absurd (other refl)
closing_other _ true other = refl

-- a statement that is a block, or a block of a `try`
block_closed : {from to : Control} {g : Frame} {nests : List machine.Open} {table : List ℕ} {stack₀ : List Waiting} {first floor passed next n : ℕ} {l : Level} {stack_before stack : List Waiting} {cells_before cells : List ℕ} (mark : ℕ) (value : Syntax)
    {all : Level} {cells' : List ℕ} → Stands from g nests table stack₀ first floor passed l stack_before cells_before → Spans to_block from to → Valued l n value stack_before stack cells_before cells
    → n + l.top < first + floor + next → first + floor + next ≤ most_trees → Completes (made_one (with_count n l)) stack (put_record cells n block_syntax mark (n - l.start + 1)) all cells'
    → Stands to (machine.close to_block mark value g) nests table stack₀ first floor next all stack cells'
block_closed mark value s (past_block {setting = setting}) valued fits few completes =
    closes_block value valued fits few mark completes (λ done within. behind-statement setting within) (at_statement s)
block_closed mark value s past_tried valued fits few completes =
    closes_block value valued fits few mark completes (λ done within. behind_tried within) (at_part {setting = in_clause} s s.shaped refl)
block_closed mark value s past_handled valued fits few completes =
    closes_block value valued fits few mark completes (λ done within. behind_handled within) (at_part {setting = in_clause} s s.shaped refl)
block_closed mark value s past_finally valued fits few completes =
    closes_block value valued fits few mark completes (λ done within. behind_finally within) (at_part {setting = in_clause} s s.shaped refl)

module _ {l : Level} {stack : List Waiting} {cells : List ℕ} (mark n : ℕ) where
  pub parens_close : {r : Level} {cells' : List ℕ} → (r ≡ made_one (with_count n l)) × (cells' ≡ put_record cells n parenthesised_syntax mark (n - l.start + 1)) → ClosesGroup group.Parens mark n l stack cells r stack cells'
  parens_close e from to g nests table stack₀ first floor passed next value stack_before cells_before s (past_parens due) valued none fits few =
      rw (e.0, e.1) (closes_alone value valued fits few to_parens parenthesised_syntax mark (λ done starts waiting. refl) due s)

  pub call_closes : {r : Level} {cells' : List ℕ} → (l.floor < l.top → (get_or stack (l.top - 1) nothing_waits).kind ≡ new_word → ⊥)
      → (r ≡ made_one (with_count n l)) × (cells' ≡ put_record cells n call_syntax mark (n - l.start + 1)) → ClosesGroup group.Call mark n l stack cells r stack cells'
  call_closes none-new e from to g nests table stack₀ first floor passed next value stack_before cells_before s past_call valued none fits few =
      rw (e.0, e.1) (closes_call value valued fits few mark none-new s)

  pub construct_closes : {r : Level} {cells' : List ℕ} (word : ℕ) → l.floor < l.top → (get_or stack (l.top - 1) nothing_waits).kind ≡ new_word
      → (get_or stack (l.top - 1) nothing_waits).mark ≡ word
      → (r ≡ made_one (popped (with_count n l) stack)) × (cells' ≡ put_record cells n construct_syntax word (n - (get_or stack (l.top - 1) nothing_waits).start + 1))
      → ClosesGroup group.Call mark n l stack cells r stack cells'
  construct_closes word more is-new is_IsWord e from to g nests table stack₀ first floor passed next value stack_before cells_before s past_call valued none fits few =
      rw (e.0, e.1) (closes_construct value valued fits few mark word more is-new is_IsWord s)

  pub object_closes : {r : Level} {cells' : List ℕ} → (r ≡ made_one (with_count n l)) × (cells' ≡ put_record cells n object_syntax mark (n - l.start + 1)) → ClosesGroup group.Object mark n l stack cells r stack cells'
  object_closes e from to g nests table stack₀ first floor passed next value stack_before cells_before s (past_object due) valued none fits few =
      rw (e.0, e.1) (closes_alone value valued fits few to_object object_syntax mark (λ done starts waiting. refl) due s)

  pub condition_closes : {r : Level} {after : List Waiting} → l.top < length stack
      → (r ≡ waiting_one (with_count n l)) × (after ≡ stack_with stack l.top if_syntax l.held l.start) → ClosesGroup group.Condition mark n l stack cells r after cells
  condition_closes room e from to g nests table stack₀ first floor passed next value stack_before cells_before s past_condition valued none fits few =
      rw (e.0, e.1) (closes_condition value valued fits few mark room s)

  pub parameter_closes : ClosesGroup group.Parameter mark n l stack cells (with_count n l) stack cells
  parameter_closes from to g nests table stack₀ first floor passed next value stack_before cells_before s spans valued none fits few =
      closes_parameter value valued fits few mark (none refl) s spans

  pub block_closes : {r all : Level} {cells' cells'' : List ℕ} → (r ≡ made_one (with_count n l)) × (cells' ≡ put_record cells n block_syntax mark (n - l.start + 1)) → Completes r stack cells' all cells''
      → ClosesGroup group.Block mark n l stack cells all stack cells''
  block_closes e completes from to g nests table stack₀ first floor passed next value stack_before cells_before s spans valued none fits few =
      block_closed mark value s spans valued fits few (rw (e.0, e.1) at completes)

  pub declaration_closes : {r all : Level} {cells' cells'' : List ℕ} → (r ≡ made_one (with_count n l)) × (cells' ≡ put_record cells n declaration_syntax l.held (n - l.start + 1)) → Completes r stack cells' all cells''
      → ClosesGroup group.Declaration mark n l stack cells all stack cells''
  declaration_closes e completes from to g nests table stack₀ first floor passed next value stack_before cells_before s past_declaration valued none fits few =
      closes_declaration value valued fits few mark (rw (e.0, e.1) at completes) s

  pub function_closes : {r : Level} {cells' : List ℕ} → (r ≡ made_one (with_count n l)) × (cells' ≡ put_record cells n function_syntax l.held (n - l.start + 1)) → ClosesGroup group.Function mark n l stack cells r stack cells'
  function_closes e from to g nests table stack₀ first floor passed next value stack_before cells_before s past_function valued none fits few =
      rw (e.0, e.1) (closes_function value valued fits few mark s)

  pub array_closes : {r : Level} {cells' : List ℕ} → (r ≡ made_one (with_count n l)) × (cells' ≡ put_record cells n array_syntax mark (n - l.start + 1)) → ClosesGroup group.Array mark n l stack cells r stack cells'
  array_closes e from to g nests table stack₀ first floor passed next value stack_before cells_before s (past_array due) valued none fits few =
      rw (e.0, e.1) (closes_alone value valued fits few to_array array_syntax mark (λ done starts waiting. refl) due s)

  pub head_closes : ClosesGroup group.Head mark n l stack cells (restarted (with_count n l)) stack cells
  head_closes from to g nests table stack₀ first floor passed next value stack_before cells_before s (past_head {setting = setting}) valued none fits few =
      closes_head value valued fits few mark (at_word {setting = setting} s s.shaped refl)
  head_closes from to g nests table stack₀ first floor passed next value stack_before cells_before s (past_subject {setting = setting}) valued none fits few =
      closes_subject value valued fits few mark (at_word {setting = setting} s s.shaped refl)

  pub for_closes : ClosesGroup group.For mark n l stack cells (restarted (with_count n l)) stack cells
  for_closes from to g nests table stack₀ first floor passed next value stack_before cells_before s (past_for {setting = setting}) valued none fits few =
      closes_for value valued fits few mark (at_word {setting = setting} s s.shaped refl)

  pub for_in_closes : {r : Level} {after : List Waiting} → (r ≡ restarted (with_count n l)) × (after ≡ stack_as stack l.top for_in_syntax) → ClosesGroup group.ForIn mark n l stack cells r after cells
  for_in_closes e from to g nests table stack₀ first floor passed next value stack_before cells_before s (past_for_in {setting = setting}) valued none fits few =
      rw (e.0, e.1) (closes_for_in value valued fits few mark (at_word {setting = setting} s s.shaped refl))

  pub clauses_close : {all : Level} {cells' : List ℕ} → Completes (with_count n l) stack cells all cells' → ClosesGroup group.Clauses mark n l stack cells all stack cells'
  clauses_close completes from to g nests table stack₀ first floor passed next value stack_before cells_before s (past_clauses {setting = setting}) valued none fits few =
      closes_clauses value valued fits few mark completes (at_part {setting = setting} s s.shaped refl)

  pub catch_closes : ClosesGroup group.Catch mark n l stack cells (with_count n l) stack cells
  catch_closes from to g nests table stack₀ first floor passed next value stack_before cells_before s spans valued none fits few =
      closes_parameter value valued fits few mark (none refl) s spans

  pub test_closes : ClosesGroup group.Test mark n l stack cells (with_count n l) stack cells
  test_closes from to g nests table stack₀ first floor passed next value stack_before cells_before s past_test valued none fits few = closes_test value valued fits few mark s

  index_closed : {from to : Control} {g : Frame} {nests : List machine.Open} {table : List ℕ} {stack₀ : List Waiting} {first floor passed next : ℕ} {stack_before : List Waiting} {cells_before : List ℕ} (value : Syntax)
      → Stands from g nests table stack₀ first floor passed l stack_before cells_before → Spans to_index from to → Valued l n value stack_before stack cells_before cells
      → n + l.top < first + floor + next → first + floor + next ≤ most_trees
      → Stands to (machine.close to_index mark value g) nests table stack₀ first floor next (made_one (with_count n l)) stack
      (put_record cells n index_syntax mark (n - l.start + 1))
  index_closed value s past_index valued fits few = closes_behind value valued fits few to_index index_syntax mark (λ done starts waiting operand. refl) s

  pub index_closes : {r : Level} {cells' : List ℕ} → (r ≡ made_one (with_count n l)) × (cells' ≡ put_record cells n index_syntax mark (n - l.start + 1))
      → ClosesGroup group.Index mark n l stack cells r stack cells'
  index_closes e from to g nests table stack₀ first floor passed next value stack_before cells_before s spans valued none fits few =
      rw (e.0, e.1) (index_closed value s spans valued fits few)

-- two ways to where none waits
pub by_either : {A B C : Type 0} → (A → C) → (B → C) → A ⊎ B → C
by_either f g (inl a) = f a
by_either f g (inr b) = g b

-- what the call in between asks for
pub group_held : {closing : closings.Closing} {mark n : ℕ} {l r : Level} {stack : List Waiting} {cells cells' : List ℕ} (kind m : ℕ) → MayClose closing mark n l stack cells
    → (r ≡ made_one (with_count n l)) × (cells' ≡ put_record cells n kind m (n - l.start + 1)) → Backed r stack cells'
group_held {n = n} kind m may e =
    rw (e.0, e.1)
    (backed (carries_made (carries_valued (carried may.somewhere.stands) n may.value may.valued (omega (arith, may.more))) kind m (omega (arith, may.more))).holds)

pub call_asks : {closing : closings.Closing} {mark n : ℕ} {l : Level} {stack : List Waiting} {cells : List ℕ} → MayClose closing mark n l stack cells → l.floor < l.top → Usable (with_count n l) stack
call_asks {n = n} may more = usable (backed (carries_valued (carried may.somewhere.stands) n may.value may.valued (omega (arith, may.more))).holds) more

pub valued_backed : {closing : closings.Closing} {mark n : ℕ} {l : Level} {stack : List Waiting} {cells : List ℕ} → MayClose closing mark n l stack cells → Backed (with_count n l) stack cells
valued_backed {n = n} may = backed (carries_valued (carried may.somewhere.stands) n may.value may.valued (omega (arith, may.more))).holds

-- the `for` that waits uppermost
pub record ForWaits (l : Level) (stack : List Waiting) : Type 0 where
  pub waits : 1 ≤ l.top
  pub fits : l.top ≤ length stack

for_waits : {from to : Control} {g : Frame} {nests : List machine.Open} {table : List ℕ} {stack₀ : List Waiting} {first floor passed : ℕ} {l : Level} {stack : List Waiting} {cells : List ℕ} → Spans to_for_in from to
    → Stands from g nests table stack₀ first floor passed l stack cells → ForWaits l stack
for_waits (past_for_in {setting = setting}) s =
    let u = uppermost (at_word {setting = setting} s s.shaped refl).carries.holds in record { waits = u.some; fits = u.fits }

pub for_asks : {mark n : ℕ} {l : Level} {stack : List Waiting} {cells : List ℕ} → MayClose group.ForIn mark n l stack cells → ForWaits l stack
for_asks may = let w = for_waits may.spans may.somewhere.stands in record { waits = w.waits; fits = omega (arith, w.fits, may.valued.kept.same_length) }
