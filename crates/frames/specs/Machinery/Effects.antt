-- What the calls of a level promise: for whatever frame stands there, the frame that the machine makes of it stands there after. Machinery.
use Rattle.std.specs.Prelude.{ℕ, ◌+◌, ◌≤◌, ◌<◌, ◌≡◌, Bool, true, false, cond, not, ◌||◌, List, [], ◌∷◌, ◌++◌, eqb, leb, length}
use Rattle.tables.specs.Records.{most_trees}
use Rattle.machine.specs.Tokens.{Token, token, Spot, colon, else_word, case_word, default_word, finally_word, close_brace}
use Rattle.machine.specs.Syntax.{Syntax, nil, size}
use Rattle.machine.specs.Operators.{least_binary}
use Rattle.machine.specs.Machinery.Machine as machine
use Rattle.machine.specs.Machinery.Machine.{
  Frame,
  frame,
  empty,
  reduced,
  answered,
  to_parameter,
  Nest,
  if_nest,
  in_clause,
  some_target,
  Ending,
  by_colon,
  Control,
  statement_due,
  statement_done,
  name_first,
  return_first,
  throw_first,
  jump_first,
  head_first,
  for_first,
  switch_first,
  switch_past,
  body_done,
  test_first,
  semicolon_due,
  variable_due,
  variable_named,
  start_due,
  test_due,
  step_due,
  default_first,
  clause_due,
  try_first,
  try_done,
  catch_first,
  catch_due,
  catch_named,
  catch_past,
  catch_done,
  finally_first,
  try_ended,
  if_first,
  operand_due,
  member_due,
  operand_done,
  postfix_done,
  dot_last,
  function_first,
  function_named,
  parameter_past,
  item_due,
  property_named,
  parameter_due,
  parameter_named,
  finished,
  Value,
  Action,
  pop,
  pop_in,
  finish,
  expression_value,
  done_value,
  list_value,
  statement_value,
  value_of,
  nested,
  asking,
  live,
  run,
}
use Rattle.controls.specs.Machinery.Numbers.{setting_by, control_of, closing_by, entered_by, worded_by, outside_by, behind_by, left_by}
use Rattle.controls.specs.Machinery.Steps.{Ended, Leads, Spans, Enters, Settled, Ends}
use Rattle.controls.specs.declared.Control as code
use Rattle.controls.specs.declared.Place as places
use Rattle.controls.specs.declared.Place.TheVariants as stand
use Rattle.controls.specs.declared.Setting as codes
use Rattle.controls.specs.declared.Setting.TheVariants as sits
use Rattle.controls.specs.declared.Nest as opened
use Rattle.controls.specs.declared.Closing as closings
use Rattle.controls.specs.Machinery.Written.{put_syntax}
use Rattle.waiting.specs.Machinery.Waiting.{Closes, restarted}
use Rattle.frames.specs.Machinery.Stands.{Kept, of_clause, Stands}
use Rattle.waiting.specs.declared.Level.{Level}
use Rattle.waiting.specs.declared.Waiting.{Waiting}
use Rattle.frames.specs.declared.Standing.{Standing}

-- some frame stands at a control
pub record StandsSomewhere (c : Control) (l : Level) (stack : List Waiting) (cells : List ℕ) : Type 0 where
  pub g : Frame
  pub nests : List machine.Open
  pub table : List ℕ
  pub stack₀ : List Waiting
  pub first : ℕ
  pub floor : ℕ
  pub passed : ℕ
  pub stands : Stands c g nests table stack₀ first floor passed l stack cells

-- an effect may be had: there is room for a record or a part that waits more, and the token is one of the table's
pub record MayAffect (effect : machine.Effect) (mark : ℕ) (l : Level) (stack : List Waiting) (cells : List ℕ) : Type 0 where
  pub from : Control
  pub to : Control
  pub leads : Leads effect from to
  pub somewhere : StandsSomewhere from l stack cells
  pub room : l.top < length stack
  pub more : somewhere.first + somewhere.floor + somewhere.passed < most_trees
  pub marked : mark < most_trees

abbrev pub Affects : machine.Effect → ℕ → Level → List Waiting → List ℕ → Level → List Waiting → List ℕ → Type 0
Affects effect mark l stack cells l' stack' cells' = (from to : Control) (g : Frame) (nests : List machine.Open) (table : List ℕ) (stack₀ : List Waiting) (first floor passed : ℕ)
    → Stands from g nests table stack₀ first floor passed l stack cells → Leads effect from to → first + floor + passed < most_trees
    → Stands to (machine.affect effect mark g) nests table stack₀ first floor (passed + 1) l' stack' cells'

-- a nest is opened
pub record MayEnter (nest : opened.Nest) (setting : codes.Setting) (mark : ℕ) (l : Level) (stack : List Waiting) (cells : List ℕ) : Type 0 where
  pub from : Control
  pub opens : Enters nest (setting_by setting) from
  pub somewhere : StandsSomewhere from l stack cells
  pub room : l.top < length stack
  pub marked : mark < most_trees

abbrev pub EntersNest : opened.Nest → codes.Setting → ℕ → Level → List Waiting → List ℕ → Level → List Waiting → List ℕ → Type 0
EntersNest nest setting mark l stack cells l' stack' cells' = (from : Control) (g : Frame) (nests : List machine.Open) (table : List ℕ) (stack₀ : List Waiting) (first floor passed : ℕ)
    → Stands from g nests table stack₀ first floor passed l stack cells → Enters nest (setting_by setting) from → first + floor + passed < most_trees
    → Stands (entered_by nest) (machine.affect (worded_by nest) mark empty) (nested (behind_by nest (setting_by setting)) (left_by nest) mark (machine.affect (outside_by nest) mark g) ∷ nests) table stack₀ first floor (passed + 1)
    l' stack' cells'

-- before that, the head of a clause ends: its operators are closed, and it is the left side of what waits
pub record ClosesHead (l : Level) (stack : List Waiting) (cells : List ℕ) (r : Level) (after : List ℕ) : Type 0 where
  pub head : Level
  pub is : r ≡ restarted head
  pub same_floor : head.floor ≡ l.floor
  pub same_held : head.held ≡ l.held
  pub closes : Closes 2 l stack cells head after

pub record Heads (nest : opened.Nest) (l : Level) (stack : List Waiting) (cells : List ℕ) (r : Level) (after : List ℕ) : Type 0 where
  pub other : of_clause nest ≡ false → (r ≡ l) × (after ≡ cells)
  pub clause : of_clause nest ≡ true → ClosesHead l stack cells r after

-- a `?` is open, behind the operand of an expression
pub record MayAsk (at : code.Control) (mark : ℕ) (l : Level) (stack : List Waiting) (cells : List ℕ) : Type 0 where
  pub ending : Ending
  pub ends : Ended (control_of at) ending
  pub somewhere : StandsSomewhere (control_of at) l stack cells
  pub room : l.top < length stack
  pub marked : mark < most_trees

pub record AskedAt (g : Frame) (ending : Ending) (mark : ℕ) (nests : List machine.Open) (table : List ℕ) (stack₀ : List Waiting) (first floor passed : ℕ) (r : Standing) (stack : List Waiting) (cells : List ℕ) : Type 0 where
  pub control_is : control_of r.control ≡ operand_due by_colon some_target
  pub stands : Stands (operand_due by_colon some_target) empty (asking ending mark (reduced least_binary g) ∷ nests) table stack₀ first floor passed r.level stack cells

abbrev pub Asks : code.Control → ℕ → Level → List Waiting → List ℕ → Standing → List Waiting → List ℕ → Type 0
Asks at mark l stack cells r stack' cells' = (ending : Ending) (g : Frame) (nests : List machine.Open) (table : List ℕ) (stack₀ : List Waiting) (first floor passed : ℕ)
    → Stands (control_of at) g nests table stack₀ first floor passed l stack cells → Ended (control_of at) ending → first + floor + passed < most_trees
    → AskedAt g ending mark nests table stack₀ first floor (passed + 1) r stack' cells'

-- and it is answered
pub record MayTurn (l : Level) (stack : List Waiting) (cells : List ℕ) : Type 0 where
  pub from : Control
  pub ends : Ended from by_colon
  pub somewhere : StandsSomewhere from l stack cells

pub record TurnedTo (g : Frame) (nests : List machine.Open) (table : List ℕ) (stack₀ : List Waiting) (first floor passed : ℕ) (r : Standing) (stack : List Waiting) (cells : List ℕ) : Type 0 where
  pub ending : Ending
  pub mark : ℕ
  pub f : Frame
  pub rest : List machine.Open
  pub is : nests ≡ asking ending mark f ∷ rest
  pub control_is : control_of r.control ≡ operand_due ending some_target
  pub stands : Stands (operand_due ending some_target) (answered mark (value_of expression_value g) f) rest table stack₀ first floor passed r.level stack cells

abbrev pub Turns : Level → List Waiting → List ℕ → Standing → List Waiting → List ℕ → Type 0
Turns l stack cells r stack' cells' = (from : Control) (g : Frame) (nests : List machine.Open) (table : List ℕ) (stack₀ : List Waiting) (first floor passed : ℕ)
    → Stands from g nests table stack₀ first floor passed l stack cells → Ended from by_colon → first + floor + passed < most_trees
    → TurnedTo g nests table stack₀ first floor (passed + 1) r stack' cells'

-- a group's value stands behind a level's records
pub record Valued (l : Level) (n : ℕ) (value : Syntax) (before after : List Waiting) (cells_before cellsAfter : List ℕ) : Type 0 where
  pub count_is : n ≡ l.count + size value
  pub cells_are : cellsAfter ≡ put_syntax cells_before l.count value
  pub kept : Kept before after l.top

pub record MayClose (closing : closings.Closing) (mark n : ℕ) (l : Level) (stack : List Waiting) (cells : List ℕ) : Type 0 where
  pub from : Control
  pub to : Control
  pub spans : Spans (closing_by closing) from to
  pub stack_before : List Waiting
  pub cells_before : List ℕ
  pub somewhere : StandsSomewhere from l stack_before cells_before
  pub value : Syntax
  pub valued : Valued l n value stack_before stack cells_before cells
  pub room : l.top < length stack
  pub more : n + l.top < most_trees
  pub marked : mark < most_trees

abbrev pub ClosesGroup : closings.Closing → ℕ → ℕ → Level → List Waiting → List ℕ → Level → List Waiting → List ℕ → Type 0
ClosesGroup closing mark n l stack cells l' stack' cells' = (from to : Control) (g : Frame) (nests : List machine.Open) (table : List ℕ) (stack₀ : List Waiting) (first floor passed next : ℕ) (value : Syntax) (stack_before : List Waiting) (cells_before : List ℕ)
    → Stands from g nests table stack₀ first floor passed l stack_before cells_before → Spans (closing_by closing) from to
    → Valued l n value stack_before stack cells_before cells → (closing_by closing ≡ to_parameter → value ≡ nil) → n + l.top < first + floor + next → first + floor + next ≤ most_trees
    → Stands to (machine.close (closing_by closing) mark value g) nests table stack₀ first floor next l' stack' cells'

-- inside a parameter's parentheses nothing is written: a level that starts there ends there, with no value
abbrev pub of_parameter : Control → Bool
of_parameter (statement_due must setting) = false
of_parameter (statement_done nest) = false
of_parameter (name_first setting) = false
of_parameter (return_first setting) = false
of_parameter (throw_first setting) = false
of_parameter (jump_first setting) = false
of_parameter (head_first setting) = false
of_parameter (for_first setting) = false
of_parameter (switch_first setting) = false
of_parameter (switch_past setting) = false
of_parameter (body_done setting) = false
of_parameter (test_first setting) = false
of_parameter (semicolon_due setting) = false
of_parameter (variable_due place) = false
of_parameter (variable_named place) = false
of_parameter start_due = false
of_parameter test_due = false
of_parameter step_due = false
of_parameter default_first = false
of_parameter (clause_due seen) = false
of_parameter try_first = false
of_parameter try_done = false
of_parameter catch_first = false
of_parameter catch_due = true
of_parameter catch_named = true
of_parameter catch_past = false
of_parameter catch_done = false
of_parameter finally_first = false
of_parameter try_ended = false
of_parameter if_first = false
of_parameter (operand_due ending _) = false
of_parameter (member_due ending _) = false
of_parameter (operand_done ending _) = false
of_parameter (postfix_done ending) = false
of_parameter (dot_last ending _) = false
of_parameter (function_first role) = false
of_parameter (function_named role) = false
of_parameter (parameter_past role) = false
of_parameter (item_due items) = false
of_parameter property_named = false
of_parameter (parameter_due must) = true
of_parameter parameter_named = true
of_parameter finished = false

-- before a token of a class the machine stands elsewhere, and takes it the same way
pub record Moved (from : Control) (class : ℕ) (g : Frame) (nests : List machine.Open) (table : List ℕ) (stack₀ : List Waiting) (first floor passed : ℕ) (r : Standing) (stack : List Waiting) (cells : List ℕ) : Type 0 where
  pub frame_then : Frame
  pub nests_then : List machine.Open
  pub stands : Stands (control_of r.control) frame_then nests_then table stack₀ first floor passed r.level stack cells
  pub kind : of_parameter (control_of r.control) ≡ of_parameter from
  pub takes : (around : List machine.Open) (spot : Spot) (u : List Token)
      → run (live from g (nests ++ around)) (token class spot ∷ u) ≡ run (live (control_of r.control) frame_then (nests_then ++ around)) (token class spot ∷ u)

abbrev pub Moves : Control → ℕ → Level → List Waiting → List ℕ → Standing → List Waiting → List ℕ → Type 0
Moves from class l stack cells r stack' cells' = (g : Frame) (nests : List machine.Open) (table : List ℕ) (stack₀ : List Waiting) (first floor passed : ℕ)
    → Stands from g nests table stack₀ first floor passed l stack cells → Moved from class g nests table stack₀ first floor passed r stack' cells'

-- and it is settled there
pub record Readies (at : code.Control) (class : ℕ) (l : Level) (stack : List Waiting) (cells : List ℕ) (r : Standing) (stack' : List Waiting) (cells' : List ℕ) : Type 0 where
  pub moves : Moves (control_of at) class l stack cells r stack' cells'
  pub settled : Settled r.control class

-- the places where a nest may be done, and whether one is that a token of a class does not go on with
abbrev pub may_be_done : places.Place → Bool
may_be_done stand.StatementDone = true
may_be_done stand.CatchDone = true
may_be_done stand.TryEnded = true
may_be_done stand.ClauseStatement = true
may_be_done _ = false

unfoldable pub ends_clause : ℕ → Bool
ends_clause class = eqb class case_word || (eqb class default_word || eqb class close_brace)

abbrev pub is_if : codes.Setting → Bool
is_if sits.IfNest = true
is_if _ = false

abbrev pub is_done_at : places.Place → codes.Setting → ℕ → Bool
is_done_at stand.StatementDone setting class = not (eqb class else_word) || not (is_if setting)
is_done_at stand.CatchDone setting class = not (eqb class finally_word)
is_done_at stand.TryEnded setting class = true
is_done_at stand.ClauseStatement setting class = ends_clause class
is_done_at _ setting class = false

abbrev pub is_done : code.Control → ℕ → Bool
is_done at class = is_done_at at.place at.setting class

-- where a nest is left before a token of a class, and with what value
pub data Leaving (class : ℕ) : Control → Value → Type 0 where
  leaving_statement : {nest : Nest} → (nest ≡ if_nest → class ≡ else_word → ⊥) → Leaving class (statement_done nest) statement_value
  leaving_catch : (class ≡ finally_word → ⊥) → Leaving class catch_done done_value
  leaving_try : Leaving class try_ended done_value
  leaving_case : class ≡ case_word → Leaving class (statement_due false in_clause) done_value
  leaving_default : class ≡ default_word → Leaving class (statement_due false in_clause) done_value
  leaving_clauses : class ≡ close_brace → Leaving class (statement_due false in_clause) done_value

-- a nest that is done may be left
pub record MayLeaveOne (l : Level) (stack : List Waiting) (cells : List ℕ) : Type 0 where
  pub class : ℕ
  pub from : Control
  pub value : Value
  pub leaving : Leaving class from value
  pub somewhere : StandsSomewhere from l stack cells

-- how many more may be, at most: where one may be done, one more than what waits
abbrev pub to_leave : Standing → ℕ
to_leave s = s.level.top + cond (may_be_done s.control.place) 1 0

-- it is left, before a token that does not go on with it: fewer may be, and no name is held
pub record Leaves (l : Level) (stack : List Waiting) (cells : List ℕ) (r : Standing) (stack' : List Waiting) (cells' : List ℕ) : Type 0 where
  pub fewer : to_leave r ≤ l.top
  pub no_name : r.control.place ≡ stand.NameFirst → ⊥
  pub moves : (class : ℕ) (from : Control) (value : Value) → Leaving class from value → Moves from class l stack cells r stack' cells'

-- nests that are done are left before a token, and a held name is an operand before one that is no `:`
pub record MayLeave (at : code.Control) (l : Level) (stack : List Waiting) (cells : List ℕ) : Type 0 where
  pub no_name : at.place ≡ stand.NameFirst → ⊥
  pub somewhere : StandsSomewhere (control_of at) l stack cells

pub record MayName (at : code.Control) (l : Level) (cells : List ℕ) : Type 0 where
  pub place_is : at.place ≡ stand.NameFirst
  pub stack : List Waiting
  pub somewhere : StandsSomewhere (control_of at) l stack cells

abbrev pub Names : code.Control → Level → List ℕ → Standing → List ℕ → Type 0
Names at l cells r cells' = (class : ℕ) (stack : List Waiting) → (class ≡ colon → ⊥) → Readies at class l stack cells r stack cells'

-- the value with which a level ends
pub data IsValue : Action → Frame → Syntax → Type 0 where
  is_popped : {value : Value} {g : Frame} → IsValue (pop value) g (value_of value g)
  is-head : {g : Frame} → IsValue pop_in g (value_of list_value g)
  is-program : {value : Syntax} → IsValue finish (frame value [] [] nil) value

-- a level's end: its value is the whole of its records, and it has no nests
pub record EndedLevel (action : Action) (g : Frame) (nests : List machine.Open) (table : List ℕ) (first floor passed n : ℕ) (cells : List ℕ) : Type 0 where
  pub value : Syntax
  pub value_is : IsValue action g value
  pub none : nests ≡ []
  pub count_is : n ≡ first + size value
  pub cells_are : cells ≡ put_syntax table first value
  pub passes : n ≤ first + passed

abbrev pub EndsLevel : Level → List Waiting → List ℕ → ℕ → List ℕ → Type 0
EndsLevel l stack cells n cells' = (class : ℕ) (c : Control) (action : Action) (g : Frame) (nests : List machine.Open) (table : List ℕ) (stack₀ : List Waiting) (first floor passed : ℕ)
    → Stands c g nests table stack₀ first floor passed l stack cells → Ends class c true action → EndedLevel action g nests table first floor passed n cells'
