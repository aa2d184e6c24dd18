-- A level's end: nothing waits any more, and its value is what the frame holds.
use mathlib.Core.Path.{◌≡◌, refl, ap, subst}
use mathlib.Core.Bool.{true}
use mathlib.Core.List.{List, []}
use Prim.Native.Nat.{ℕ}
use native.Mathlib.Omega.{arith}
use lib.Dec.{T}
use Rattle.machine.specs.Syntax.{Syntax, nil, snoc}
use Rattle.machine.specs.Machinery.Machine as machine
use Rattle.machine.specs.Machinery.Machine.{Pending, Frame, frame, wrap, reduce, operand_of, done_of, complete_value, Ending, by_statement, by_return, by_variable, by_start, by_test, by_step, by_object, by_case, by_paren, by_bracket, by_colon, by_item, Control, Action, pop, pop_in, value_of, expression_value, done_value, list_value}
use Rattle.controls.specs.Machinery.Steps.{in_group, Ends, ends_statements, ends_text, ends_expression, ends_item, ends_items, ends_no_parameter, ends_parameter, ends_head, ends_object, ends_no_step, ends_clauses, ends_caught}
use Rattle.waiting.specs.Machinery.Waiting.{Closes}
use Rattle.waiting.specs.declared.Level.{Level}
use Rattle.waiting.specs.declared.Waiting.{Waiting}
use Rattle.frames.specs.Machinery.Stands.{Within, Stands}
use Rattle.frames.specs.Machinery.Effects.{IsValue, is_popped, is-head, is-program, EndedLevel}
use Rattle.frames.proofs.CloseLaws.{reduce_wraps}
use Rattle.frames.proofs.CarryLaws.{carried, closes_lightens, carries_expression, Written, all_written, statements_written, expression_written}
use Rattle.frames.proofs.AtLaws.{AtEnded, AtNone, at_none, at_ended}

-- a level's end
in-group : {done : Syntax} {starts : List Pending} {nests : List machine.Open} (ending : Ending) → T (in_group ending) → Within ending done starts nests
    → (done ≡ nil) × (starts ≡ []) × (nests ≡ [])
in-group (by_statement setting) t h = absurd t
in-group (by_return setting) t h = absurd t
in-group (by_variable place) t h = absurd t
in-group by_start t h = absurd t
in-group by_test t h = absurd t
in-group by_step t h = absurd t
in-group by_object t h = absurd t
in-group (by_case seen) t h = absurd t
in-group by_paren t h = h
in-group by_bracket t h = h
in-group by_colon t h = absurd t
in-group (by_item items) t h = absurd t

expression-value : {g : Frame} {done operand : Syntax} {starts waiting : List Pending} → g ≡ frame done starts waiting operand
    → IsValue (pop expression_value) g (wrap waiting operand)
expression-value {done = done} {operand = operand} {starts = starts} {waiting = waiting} e =
    let p : IsValue (pop expression_value) (frame done starts waiting operand) (operand_of (reduce 0 done starts waiting operand)) = is_popped in
    let q : IsValue (pop expression_value) (frame done starts waiting operand) (wrap waiting operand) = subst (λ f. IsValue (pop expression_value) (frame done starts waiting operand) (operand_of f)) (reduce_wraps done starts waiting operand) p in
    rw e q

-- the items done, and the last
list-value : {g : Frame} {done operand : Syntax} {starts waiting : List Pending} → g ≡ frame done starts waiting operand → starts ≡ []
    → value_of list_value g ≡ snoc done (wrap waiting operand)
list-value {done = done} {operand = operand} {waiting = waiting} e none =
    rw (e, none) (ap (λ f. done_of (complete_value f)) (reduce_wraps done [] waiting operand))

-- a list is popped, and so is the head of a `for`
data PopsList : Action → Type 0 where
  pops_list : PopsList (pop list_value)
  pops_head : PopsList pop_in

listed : {action : Action} {g : Frame} {value : Syntax} → PopsList action → value_of list_value g ≡ value → IsValue action g value
listed pops_list e = rw (← e) is_popped
listed pops_head e = rw (← e) is-head

module _ {g : Frame} {nests : List machine.Open} {table : List ℕ} {stack₀ : List Waiting} {first floor passed : ℕ} {l r : Level} {stack : List Waiting} {cells after : List ℕ} where
  ended : {c : Control} {action : Action} {value : Syntax} (s : Stands c g nests table stack₀ first floor passed l stack cells) → r.floor ≡ l.floor → Closes 2 l stack cells r after
      → IsValue action g value → nests ≡ [] → Written table first floor value r after → EndedLevel action g nests table first floor passed r.count after
  ended {value = value} s f closes is none w =
      let light = closes_lightens _ s.holds f closes in
      record { value = value; value_is = is; none = none; count_is = w.count_is; cells_are = w.cells_are; passes = omega (arith, light, s.passes, w.top_is) }

  expression-ends : {c : Control} (ending : Ending) → T (in_group ending) → r.floor ≡ l.floor → r.held ≡ l.held → Closes 2 l stack cells r after
      → Stands c g nests table stack₀ first floor passed l stack cells → AtEnded ending g nests table stack₀ first floor passed l stack cells
      → EndedLevel (pop expression_value) g nests table first floor passed r.count after
  expression-ends ending t f w closes s e =
      let i = in-group ending t e.within in
      ended s f closes (expression-value e.is) i.2
      (expression_written (rw (i.0, i.1, i.2) at (carries_expression e.carries f w closes)))

  list_ends : {c : Control} {ending : Ending} {action : Action} → PopsList action → r.floor ≡ l.floor → r.held ≡ l.held → Closes 2 l stack cells r after
      → Stands c g nests table stack₀ first floor passed l stack cells → (e : AtEnded ending g nests table stack₀ first floor passed l stack cells)
      → (e.starts ≡ []) × (nests ≡ []) → EndedLevel action g nests table first floor passed r.count after
  list_ends pops f w closes s e alone =
      ended s f closes (listed pops (list-value e.is alone.0)) alone.1
      (all_written (rw (alone.0, alone.1) at (carries_expression e.carries f w closes)))

  done_ends : {c : Control} → r.floor ≡ l.floor → r.held ≡ l.held → Closes 2 l stack cells r after → Stands c g nests table stack₀ first floor passed l stack cells
      → AtNone g nests table stack₀ first floor passed l stack cells → EndedLevel (pop done_value) g nests table first floor passed r.count after
  done_ends f w closes s h = ended s f closes (rw h.is is_popped) h.none (statements_written (rw h.none at (carries_expression h.carries f w closes)))

  -- the last part of the head of a `for` is left out
  no_step_ends : {c : Control} → r.floor ≡ l.floor → r.held ≡ l.held → Closes 2 l stack cells r after → Stands c g nests table stack₀ first floor passed l stack cells
      → AtNone g nests table stack₀ first floor passed l stack cells → EndedLevel (pop list_value) g nests table first floor passed r.count after
  no_step_ends f w closes s h =
      ended s f closes (listed pops_list (list-value h.is refl)) h.none (all_written (rw h.none at (carries_expression h.carries f w closes)))

  pub ends : {class : ℕ} {c : Control} {action : Action} → r.floor ≡ l.floor → r.held ≡ l.held → Closes 2 l stack cells r after
      → Stands c g nests table stack₀ first floor passed l stack cells → Ends class c true action → EndedLevel action g nests table first floor passed r.count after
  ends f w closes s ends_statements = done_ends f w closes s (at_none s s.shaped refl)
  ends f w closes s (ends_text e) =
      ended s f closes (rw (s.is, s.shaped.0, s.shaped.1, s.shaped.2) is-program) s.shaped.3
      (statements_written (rw (s.shaped.0, s.shaped.1, s.shaped.2, s.shaped.3) at (carries_expression (carried s) f w closes)))
  ends f w closes s (ends_expression {ending = ending} t there) = expression-ends ending t f w closes s (at_ended there s)
  ends f w closes s (ends_item there) = let e = at_ended there s in list_ends pops_list f w closes s e e.within
  ends f w closes s ends_items = done_ends f w closes s (at_none s s.shaped refl)
  ends f w closes s ends_no_parameter =
      ended s f closes is_popped s.shaped.4
      (expression_written (rw (s.shaped.0, s.shaped.1, s.shaped.2, s.shaped.3, s.shaped.4) at (carries_expression (carried s) f w closes)))
  ends f w closes s ends_parameter =
      ended s f closes is_popped s.shaped.4
      (expression_written (rw (s.shaped.0, s.shaped.1, s.shaped.2, s.shaped.3, s.shaped.4) at (carries_expression (carried s) f w closes)))
  ends f w closes s (ends_head there) = let e = at_ended there s in list_ends pops_list f w closes s e e.within
  ends f w closes s (ends_object there) = let e = at_ended there s in list_ends pops_head f w closes s e e.within
  ends f w closes s ends_no_step = no_step_ends f w closes s (at_none s s.shaped refl)
  ends f w closes s ends_clauses = done_ends f w closes s (at_none s s.shaped refl)
  ends f w closes s ends_caught =
      ended s f closes is_popped s.shaped.4
      (expression_written (rw (s.shaped.0, s.shaped.1, s.shaped.2, s.shaped.3, s.shaped.4) at (carries_expression (carried s) f w closes)))
