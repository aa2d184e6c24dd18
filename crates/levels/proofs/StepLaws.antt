-- What each way through the loop of a level comes to, by what the code's step means.
use mathlib.Core.Path.{◌≡◌, refl, sym, ◌∙◌, subst}
use mathlib.Core.Bool.{Bool, true, false, cond, not}
use mathlib.Core.List.{List}
use mathlib.Core.Logic.{◌⊎◌, inl, inr}
use Prim.Native.Nat.{ℕ, ◌+◌, ◌-◌, ◌≤◌, ◌<◌}
use native.Mathlib.Omega.{arith}
use lib.Dec.{T}
use lib.ListN.{length}
use Rattle.tables.specs.Records.{most_trees}
use Rattle.machine.specs.Tokens.{open_bracket}
use Rattle.machine.specs.Syntax.{nil}
use Rattle.machine.specs.Scopes.{body}
use Rattle.machine.specs.Machinery.Machine.{Setting, among, Closing, to_parens, to_call, to_object, to_array, to_index, to_block, to_condition, to_head, to_for, to_for_in, to_test, to_parameter, to_declaration, to_function, to_statement, to_body, to_try, in_for, Ending, by_colon, Control, statement_due, Action, fail, goto, push, enter, ask, turn, look, row}
use Rattle.controls.specs.Machinery.Numbers.{setting_by, control_of, effect_by, closing_by, inside_by, entered_by, worded_by, outside_by, behind_by, left_by}
use Rattle.machine.specs.Machinery.Classes.{is_opener, is_end, is_single}
use Rattle.controls.specs.Machinery.Steps.{Ended, Leads, Spans, past_parens, past_object, past_array, past_index, past_call, past_condition, past_head, past_for, past_for_in, past_subject, past_clauses, past_tried, past_caught, past_handled, past_finally, past_test, past_parameter, past_unnamed, past_block, past_declaration, past_function, Enters, enters_if, enters_do, enters_try, enters_case, enters_last_case, enters_default, Settled, Means, means_end, means_fail, means_goto, means_push, means_enter, means_ask, means_turn}
use Rattle.controls.specs.declared.Control as code
use Rattle.controls.specs.declared.Step.{Step}
use Rattle.controls.specs.declared.Step.TheVariants.{Goto, Push, Enter, Ask, Turn}
use Rattle.controls.specs.declared.Setting as codes
use Rattle.controls.specs.declared.Setting.TheVariants as sits
use Rattle.controls.specs.declared.Effect as effects
use Rattle.controls.specs.declared.Closing as closings
use Rattle.controls.specs.declared.Closing.TheVariants as group
use Rattle.controls.specs.declared.Nest as opened
use Rattle.controls.specs.declared.Nest.TheVariants as kinds
use Rattle.waiting.specs.declared.Waiting.{Waiting}
use Rattle.waiting.specs.declared.Level.{Level}
use Rattle.frames.specs.Machinery.Effects.{StandsSomewhere, Readies, MayAffect, Affects, MayEnter, EntersNest, MayAsk, Asks, MayTurn, Turns, Valued, MayClose, ClosesGroup, of_parameter}
use Rattle.frames.specs.declared.Standing.{Standing}
use Rattle.frames.proofs.ParameterLaws.{ended_kind, leads_kind, spans_kind, parameter_inside}
use Rattle.segments.specs.Machinery.Segments.{Segment, inside, count_of, class_at, size_at, place_at, line_at, Fine}
use Rattle.segments.proofs.SegmentLaws.{at_openers, inside_fine, inside_count, never_ends}
use Rattle.levels.specs.Machinery.Runs.{Through, Ran, ran_through, ran_dead, MayRun, MayOpen}
use Rattle.groups.specs.declared.Parsed.{Parsed}
use Rattle.std.proofs.Common.{Option, None, Some, Ok, Err, Result}
use Rattle.answers.specs.declared.faults.Fault.{Fault}
use Rattle.levels.proofs.RunLaws as runs
use Rattle.levels.proofs.RunLaws.{Underway}

clash : {A : Type 0} (b : Bool) → T b → T (not b) → A
clash true t s = absurd s
clash false t s = absurd t

-- the action that a step means
fail_entry : {c : Control} {class : ℕ} {action : Action} → T (not (is_end class)) → Means c class None action → action ≡ fail
fail_entry {class = class} no_end (means_end t) = clash (is_end class) t no_end
fail_entry no_end means_fail = refl

record GotoEntry (c : Control) (class : ℕ) (to : Control) (effect : effects.Effect) (action : Action) : Type 0 where
  entry : action ≡ goto to (effect_by effect class)
  single : T (is_single class)
  leads : Leads (effect_by effect class) c to

goto_entry : {c : Control} {class : ℕ} {effect : effects.Effect} {to : code.Control} {action : Action} → Means c class (Some (Goto to effect)) action
    → GotoEntry c class (control_of to) effect action
goto_entry (means_goto t l) = record { entry = refl; single = t; leads = l }

record PushEntry (c : Control) (class : ℕ) (to : Control) (closing : closings.Closing) (action : Action) : Type 0 where
  entry : action ≡ push (inside_by closing) to (closing_by closing)
  opens : T (is_opener class)
  spans : Spans (closing_by closing) c to

push_entry : {c : Control} {class : ℕ} {closing : closings.Closing} {to : code.Control} {action : Action} → Means c class (Some (Push to closing)) action
    → PushEntry c class (control_of to) closing action
push_entry (means_push t s) = record { entry = refl; opens = t; spans = s }

record EnterEntry (c : Control) (class : ℕ) (nest : opened.Nest) (number : codes.Setting) (action : Action) : Type 0 where
  entry : action ≡ enter (entered_by nest) (worded_by nest) (outside_by nest) (behind_by nest (setting_by number)) (left_by nest)
  single : T (is_single class)
  opens : Enters nest (setting_by number) c

enter_entry : {c : Control} {class : ℕ} {nest : opened.Nest} {number : codes.Setting} {action : Action} → Means c class (Some (Enter nest number)) action → EnterEntry c class nest number action
enter_entry (means_enter t e) = record { entry = refl; single = t; opens = e }

-- no nest is in a parameter's parentheses
entered_kind : (nest : opened.Nest) → of_parameter (entered_by nest) ≡ false
entered_kind kinds.If = refl
entered_kind _ = refl

opens_kind : {nest : opened.Nest} {setting : Setting} {c : Control} → Enters nest setting c → of_parameter c ≡ false
opens_kind enters_if = refl
opens_kind enters_do = refl
opens_kind enters_try = refl
opens_kind (enters_case ended) = ended_kind ended
opens_kind (enters_last_case ended) = ended_kind ended
opens_kind enters_default = refl

-- a group may be the head of a `for` with `in`
spans_in : (head : Bool) {closing : Closing} {from to : Control} → Spans closing from to → Spans (cond head (in_for closing) closing) from to
spans_in false spans = spans
spans_in true (past_parens due) = past_parens due
spans_in true (past_object due) = past_object due
spans_in true (past_array due) = past_array due
spans_in true past_index = past_index
spans_in true past_call = past_call
spans_in true past_condition = past_condition
spans_in true past_head = past_head
spans_in true past_for = past_for_in
spans_in true past_for_in = past_for_in
spans_in true past_subject = past_subject
spans_in true past_clauses = past_clauses
spans_in true past_tried = past_tried
spans_in true past_caught = past_caught
spans_in true past_handled = past_handled
spans_in true past_finally = past_finally
spans_in true past_test = past_test
spans_in true past_parameter = past_parameter
spans_in true past_unnamed = past_unnamed
spans_in true past_block = past_block
spans_in true past_declaration = past_declaration
spans_in true past_function = past_function

parameter_in : (head : Bool) (closing : Closing) → cond head (in_for closing) closing ≡ to_parameter → closing ≡ to_parameter
parameter_in false closing e = e
parameter_in true to_parens e = e
parameter_in true to_call e = e
parameter_in true to_object e = e
parameter_in true to_array e = e
parameter_in true to_index e = e
parameter_in true to_block e = e
parameter_in true to_condition e = e
parameter_in true to_head e = e
parameter_in true to_for e = cc
parameter_in true to_for_in e = e
parameter_in true to_test e = e
parameter_in true to_parameter e = e
parameter_in true to_declaration e = e
parameter_in true to_function e = e
parameter_in true to_statement e = e
parameter_in true to_body e = e
parameter_in true to_try e = e

record AskEntry (c : Control) (class : ℕ) (action : Action) : Type 0 where
  ending : Ending
  entry : action ≡ ask ending
  single : T (is_single class)
  ended : Ended c ending

ask_entry : {c : Control} {class : ℕ} {action : Action} → Means c class (Some Ask) action → AskEntry c class action
ask_entry (means_ask t e) = record { ending = _; entry = refl; single = t; ended = e }

record TurnEntry (c : Control) (class : ℕ) (action : Action) : Type 0 where
  entry : action ≡ turn
  single : T (is_single class)
  ended : Ended c by_colon

turn_entry : {c : Control} {class : ℕ} {action : Action} → Means c class (Some Turn) action → TurnEntry c class action
turn_entry (means_turn t e) = record { entry = refl; single = t; ended = e }

-- the class behind an opener's is a closer's
opener_is : (class : ℕ) → T (is_opener class) → (class ≤ open_bracket) × T (is_end (class + 1))
opener_is = at_openers (λ (k : ℕ). (k ≤ open_bracket) × T (is_end (k + 1))) (omega arith, tt) (omega arith, tt) (omega arith, tt)

ran : {q : Segment} {c : Control} {class count top : ℕ} {made : Parsed} {a : List ℕ} {b : List Waiting} {cells : List ℕ} {stack : List Waiting} → Ran class q c count top a b (Ok made) cells stack
    → Through class q c count top a b made.count made.within cells stack
ran (ran_through t) = t

-- a turn of the loop up to its step: the level is under way before a record, it is readied for the record's token, and the step is that of
-- the table
pub record Arrival (p : Segment) (from : Control) (count top : ℕ) (table : List ℕ) (before : List Waiting) (control : code.Control) (first : Level) (at : ℕ) (old : List ℕ) (oldStack : List Waiting)
    (class : ℕ) (newline : Bool) (s : Standing) (stack : List Waiting) (cells : List ℕ) (step : Option Step) : Type 0 where
  pub fine : Fine p
  pub underway : Underway p from count top table before (control_of control) first at old oldStack
  pub here : at < count_of p.cells
  pub is : class ≡ class_at p.text p.cells at
  pub lined : newline ≡ line_at p.cells at
  pub readies : Readies control class first oldStack old s stack cells
  pub steps : Settled s.control class → Means (control_of s.control) class step (look class (row (control_of s.control) newline))

module _ {p : Segment} {from : Control} {count top : ℕ} {table : List ℕ} {before : List Waiting} {control : code.Control} {first : Level} {at : ℕ} {old : List ℕ} {oldStack : List Waiting}
    {class : ℕ} {newline : Bool} {s : Standing} {stack : List Waiting} {cells : List ℕ} {step : Option Step}
    (turn : Arrival p from count top table before control first at old oldStack class newline s stack cells step) where
  abbrev fine : Fine p
  fine = turn.fine

  abbrev here : at < count_of p.cells
  here = turn.here

  abbrev is : class ≡ class_at p.text p.cells at
  is = turn.is

  abbrev c : Control
  c = control_of s.control

  abbrev l : Level
  l = s.level

  h : Underway p from count top table before c l at cells stack
  h = runs.ready_underway fine turn.underway class (sym is) here refl turn.readies

  means : Means c class step (look class (row c newline))
  means = turn.steps turn.readies.settled

  entry_at : {action : Action} → look class (row c newline) ≡ action → look class (row c (line_at p.cells at)) ≡ action
  entry_at e = rw turn.lined at e

  means_as : {s : Option Step} → step ≡ s → Means c class s (look class (row c newline))
  means_as e = subst (λ (s : Option Step). Means c class s (look class (row c newline))) e means

  abbrev somewhere : StandsSomewhere c l stack cells
  somewhere = runs.somewhere h

  room : l.top < length stack
  room = omega (arith, h.deep, h.low, h.stands.passes)

  below_most : count + top + at < most_trees
  below_most = omega (arith, h.low, fine.few)

  -- it dies at the record
  pub fails : {closer place : ℕ} {cells' : List ℕ} {stack' : List Waiting} → step ≡ None → place ≡ place_at p.cells p.close at
      → Ran closer p from count top table before (Err (Fault.NoProgram place)) cells' stack'
  fails e z =
      let entry = fail_entry (rw is (never_ends p.text p.cells at)) (means_as e) in
      rw z (ran_dead λ around mark u. runs.dies_here fine h class (sym is) here (entry_at entry) around _)

  -- it goes on
  module _ {to : code.Control} {effect : effects.Effect} (e : step ≡ Some (Goto to effect)) where
    goes : GotoEntry c class (control_of to) effect (look class (row c newline))
    goes = goto_entry (means_as e)

    pub may_affect : MayAffect (effect_by effect class) (p.base + at) l stack cells
    may_affect = record {
      from = c;
      to = control_of to;
      leads = goes.leads;
      somewhere = somewhere;
      room = room;
      more = below_most;
      marked = omega (arith, fine.few);
    }

    pub affected : {l' : Level} {cells' : List ℕ} {stack' : List Waiting} → Affects (effect_by effect class) (p.base + at) l stack cells l' stack' cells' → length stack' ≡ length stack
        → Underway p from count top table before (control_of to) l' (at + 1) cells' stack'
    affected affects long =
        runs.goes_on fine h class (sym is) here goes.single (entry_at goes.entry)
        (affects c (control_of to) h.g h.nests table before count top at h.stands goes.leads below_most) (leads_kind goes.leads) long

  -- it enters a nest
  module _ {nest : opened.Nest} {number : codes.Setting} (e : step ≡ Some (Enter nest number)) where
    enters : EnterEntry c class nest number (look class (row c newline))
    enters = enter_entry (means_as e)

    pub may_enter : MayEnter nest number (p.base + at) l stack cells
    may_enter = record {
      from = c;
      opens = enters.opens;
      somewhere = somewhere;
      room = room;
      marked = omega (arith, fine.few);
    }

    pub entered : {to : Control} {l' : Level} {stack' : List Waiting} {cells' : List ℕ} → to ≡ entered_by nest → EntersNest nest number (p.base + at) l stack cells l' stack' cells'
        → length stack' ≡ length stack → Underway p from count top table before to l' (at + 1) cells' stack'
    entered inside opens long =
        rw inside
        (runs.goes_in fine h class (sym is) here enters.single (entry_at enters.entry)
        (opens c h.g h.nests table before count top at h.stands enters.opens below_most)
        (entered_kind nest ∙ sym (opens_kind enters.opens)) long)

  -- it asks
  module _ (e : step ≡ Some Ask) where
    asks : AskEntry c class (look class (row c newline))
    asks = ask_entry (means_as e)

    pub may_ask : MayAsk s.control (p.base + at) l stack cells
    may_ask = record { ending = asks.ending; ends = asks.ended; somewhere = somewhere; room = room; marked = omega (arith, fine.few) }

    pub asked : {r : Standing} {cells' : List ℕ} {stack' : List Waiting} → Asks s.control (p.base + at) l stack cells r stack' cells' → length stack' ≡ length stack
        → Underway p from count top table before (control_of r.control) r.level (at + 1) cells' stack'
    asked opens long =
        let a = opens asks.ending h.g h.nests table before count top at h.stands asks.ended below_most in
        rw a.control_is
        (runs.goes_asking fine h class (sym is) here asks.single (entry_at asks.entry) a.stands (sym (ended_kind asks.ended)) long)

  -- and is answered
  module _ (e : step ≡ Some Turn) where
    turns : TurnEntry c class (look class (row c newline))
    turns = turn_entry (means_as e)

    pub may_turn : MayTurn l stack cells
    may_turn = record { from = c; ends = turns.ended; somewhere = somewhere }

    pub turned : {r : Standing} {cells' : List ℕ} {stack' : List Waiting} → Turns l stack cells r stack' cells' → length stack' ≡ length stack
        → Underway p from count top table before (control_of r.control) r.level (at + 1) cells' stack'
    turned answers long =
        let a = answers c h.g h.nests table before count top at h.stands turns.ended below_most in
        rw a.control_is
        (runs.goes_turning fine h class (sym is) here turns.single (entry_at turns.entry) a (sym (ended_kind turns.ended)) long)

  -- it opens a group
  module _ {to : code.Control} {closing : closings.Closing} (e : step ≡ Some (Push to closing)) where
    pushes : PushEntry c class (control_of to) closing (look class (row c newline))
    pushes = push_entry (means_as e)

    pub class_small : class ≤ open_bracket
    class_small = (opener_is class pushes.opens).0

    pub may_open : MayOpen p at (class + 1) l.count l.top stack
    may_open = record {
      fine = fine;
      here = here;
      low = omega (arith, h.low, h.stands.passes);
      deep = h.deep;
      closes = (opener_is class pushes.opens).1;
    }

    inner_dead : {closer : ℕ} {fault : Fault} {cells₁ cells' : List ℕ} {stack₁ stack' : List Waiting}
        → Ran (class + 1) (inside p at) (inside_by closing) l.count l.top cells stack (Err fault) cells₁ stack₁
        → Ran closer p from count top table before (Err fault) cells' stack'
    inner_dead (ran_dead dies) = ran_dead λ around mark u. runs.dies_inside fine h class (sym is) here pushes.opens (entry_at pushes.entry) dies around _

    pub inner_dies : {r : Result Parsed Fault} {closer : ℕ} {fault : Fault} {cells₁ cells' : List ℕ} {stack₁ stack' : List Waiting}
        → Ran (class + 1) (inside p at) (inside_by closing) l.count l.top cells stack r cells₁ stack₁ → r ≡ Err fault
        → Ran closer p from count top table before (Err fault) cells' stack'
    inner_dies {cells₁ = cells₁} {stack₁ = stack₁} inner q =
        inner_dead (subst (λ (x : Result Parsed Fault). Ran (class + 1) (inside p at) (inside_by closing) l.count l.top cells stack x cells₁ stack₁) q inner)

    module _ {r : Result Parsed Fault} {made : Parsed} {cells₁ : List ℕ} {stack₁ : List Waiting} (inside-ran : Ran (class + 1) (inside p at) (inside_by closing) l.count l.top cells stack r cells₁ stack₁) (q : r ≡ Ok made)
        (by : closings.Closing) (closes_by : closing_by by ≡ cond made.within (in_for (closing_by closing)) (closing_by closing)) where
      inner : Ran (class + 1) (inside p at) (inside_by closing) l.count l.top cells stack (Ok made) cells₁ stack₁
      inner = subst (λ (x : Result Parsed Fault). Ran (class + 1) (inside p at) (inside_by closing) l.count l.top cells stack x cells₁ stack₁) q inside-ran

      spans_by : Spans (closing_by by) c (control_of to)
      spans_by = rw closes_by (spans_in made.within pushes.spans)

      plain_by : closing_by by ≡ to_parameter → (ran inner).value ≡ nil
      plain_by e = (ran inner).plain (parameter_inside closing (parameter_in made.within (closing_by closing) (sym closes_by ∙ e)))

      valued : Valued l made.count (ran inner).value stack stack₁ cells cells₁
      valued = let t = ran inner in record { count_is = t.count_is; cells_are = t.cells_are; kept = t.kept }

      size_is : count_of (inside p at).cells ≡ size_at p.cells at - 1
      size_is = inside_count fine at here

      fewer : made.count + l.top < count + top + (at + size_at p.cells at)
      fewer =
          let f = fine.at at here in
          omega (arith, (ran inner).passes, size_is, h.stands.passes, f.some)

      few : count + top + (at + size_at p.cells at) ≤ most_trees
      few = omega (arith, h.low, fine.few, (fine.at at here).fits)

      long₁ : length stack₁ ≡ length stack
      long₁ = (ran inner).kept.same_length

      pub may_close : MayClose by (p.base + at) made.count l stack₁ cells₁
      may_close = record {
        from = c;
        to = control_of to;
        spans = spans_by;
        stack_before = stack;
        cells_before = cells;
        somewhere = somewhere;
        value = (ran inner).value;
        valued = valued;
        room = omega (arith, room, long₁);
        more = omega (arith, fewer, few);
        marked = omega (arith, fine.few);
      }

      pub closed : {l' : Level} {cells' : List ℕ} {stack' : List Waiting} → ClosesGroup by (p.base + at) made.count l stack₁ cells₁ l' stack' cells' → length stack' ≡ length stack₁
          → Underway p from count top table before (control_of to) l' (at + size_at p.cells at) cells' stack'
      closed closes long =
          runs.goes_behind fine h class (sym is) here pushes.opens (entry_at pushes.entry) (ran inner)
          (rw closes_by
          at (closes c (control_of to) h.g h.nests table before count top at (at + size_at p.cells at) (ran inner).value stack cells h.stands spans_by valued plain_by fewer few))
          (spans_kind pushes.spans) (long ∙ long₁)

-- the inside of a group may be run, and has fewer records
module _ {p : Segment} {at closer count top : ℕ} {stack : List Waiting} (may : MayOpen p at closer count top stack) where
  pub may_run : MayRun (inside p at) closer count top stack
  may_run =
      let f = may.fine.at at may.here in
      record {
        fine = inside_fine may.fine at may.here;
        low = may.low;
        deep = omega (arith, may.deep, inside_count may.fine at may.here, f.some, f.fits);
        closes = may.closes;
      }

  pub fewer_inside : count_of (inside p at).cells < count_of p.cells
  fewer_inside = let f = may.fine.at at may.here in omega (arith, inside_count may.fine at may.here, f.some, f.fits)

-- where the parsers start
pub body_inside : {closing : closings.Closing} → (closing ≡ group.Declaration) ⊎ (closing ≡ group.Function) → statement_due false (among body) ≡ inside_by closing
body_inside (inl e) = rw e
body_inside (inr e) = rw e

pub block_inside : {closing : closings.Closing} → closing ≡ group.Block → statement_due false (setting_by sits.Block) ≡ inside_by closing
block_inside e = rw e

pub ran_as : {class : ℕ} {p : Segment} {c d : Control} {count top : ℕ} {table : List ℕ} {before : List Waiting} {r : Result Parsed Fault} {cells : List ℕ} {stack : List Waiting}
    → Ran class p c count top table before r cells stack → c ≡ d → Ran class p d count top table before r cells stack
ran_as {class = class} {p = p} {count = count} {top = top} {table = table} {before = before} {r = r} {cells = cells} {stack = stack} ran e =
    subst (λ (k : Control). Ran class p k count top table before r cells stack) e ran
