-- How a level holds the machine's frame and the nests that are open on it. Machinery.
use Rattle.std.specs.Prelude.{ℕ, ◌+◌, ◌-◌, ◌*◌, ◌/◌, ◌%◌, ◌≤◌, ◌<◌, ◌≡◌, Bool, true, false, List, [], ◌∷◌, ◌++◌, length, get_or}
use Rattle.tables.specs.Records.{most_trees}
use Rattle.machine.specs.Tokens.{name, new_word, var_word}
use Rattle.machine.specs.Syntax.{Syntax, nil, node, snoc, variable_syntax}
use Rattle.machine.specs.Machinery.Machine as machine
use Rattle.machine.specs.Machinery.Machine.{
  Pending,
  pending,
  Frame,
  frame,
  tightness,
  mark_of,
  Setting,
  among,
  in_clause,
  in_nest,
  Variables,
  in_statement,
  in_head,
  Ending,
  by_statement,
  by_return,
  by_variable,
  by_start,
  by_test,
  by_step,
  by_object,
  by_case,
  by_paren,
  by_bracket,
  by_colon,
  by_item,
  Control,
  statement_due,
  statement_done,
  name_first,
  return_first,
  throw_first,
  jump_first,
  head_first,
  for_first,
  switch_first,
  switch_past,
  body_done,
  test_first,
  semicolon_due,
  variable_due,
  variable_named,
  start_due,
  test_due,
  step_due,
  default_first,
  clause_due,
  try_first,
  try_done,
  catch_first,
  catch_due,
  catch_named,
  catch_past,
  catch_done,
  finally_first,
  try_ended,
  if_first,
  operand_due,
  member_due,
  operand_done,
  postfix_done,
  dot_last,
  function_first,
  function_named,
  parameter_past,
  item_due,
  property_named,
  parameter_due,
  parameter_named,
  finished,
  nested,
  asking,
}
use Rattle.controls.specs.Machinery.Numbers.{setting_by, ending_by, is_lone, behind_by, left_by, nest_number, setting_number, ending_number, setting_numbered, ending_numbered}
use Rattle.controls.specs.declared.Setting as codes
use Rattle.controls.specs.declared.Ending as endings
use Rattle.controls.specs.declared.Nest as opened
use Rattle.controls.specs.declared.Nest.TheVariants as kinds
use Rattle.waiting.specs.Machinery.Waiting.{nothing_waits, binding, nest_kind, ask_kind, settings, Holds}
use Rattle.waiting.specs.declared.Level.{Level}
use Rattle.waiting.specs.declared.Waiting.{Waiting}

-- what waits for an operand are operators, of which `new` has no left side; what waits for a statement are beginnings of statements
pub data Operators : List Pending → Type 0 where
  no_operators : Operators []
  more_operators : {kind mark : ℕ} {left : Syntax} {ps : List Pending} → 1 ≤ tightness kind → (kind ≡ new_word → left ≡ nil) → Operators ps
      → Operators (pending kind mark left ∷ ps)

pub data Beginnings : List Pending → Type 0 where
  no_beginnings : Beginnings []
  more_beginnings : {kind mark : ℕ} {left : Syntax} {ps : List Pending} → binding kind ≡ 1 → Beginnings ps
      → Beginnings (pending kind mark left ∷ ps)

-- what is open innermost on a level: a nest, or a `?`
pub data InNest : List machine.Open → Type 0 where
  in-nest : {behind : Control} {closing : machine.Closing} {mark : ℕ} {f : Frame} {hs : List machine.Open} → InNest (nested behind closing mark f ∷ hs)

pub data Asked : List machine.Open → Type 0 where
  asked : {ending : Ending} {mark : ℕ} {f : Frame} {hs : List machine.Open} → Asked (asking ending mark f ∷ hs)

-- statements stand in no nest, but those of a clause in one; the statement of another nest stands in it, and is the first there
abbrev pub InSetting : Setting → Syntax → List machine.Open → Type 0
InSetting (among scope) done nests = nests ≡ []
InSetting in_clause done nests = InNest nests
InSetting (in_nest nest) done nests = (done ≡ nil) × InNest nests

-- a statement that has just begun with its word
pub record StatementBegun (starts : List Pending) : Type 0 where
  pub kind : ℕ
  pub mark : ℕ
  pub before : List Pending
  pub is : starts ≡ pending kind mark nil ∷ before
  pub some : 1 ≤ kind

-- a `var` that has begun, with the variables so far; and the variable behind them
pub record VarBegun (starts : List Pending) : Type 0 where
  pub word : ℕ
  pub variables : Syntax
  pub before : List Pending
  pub is : starts ≡ pending var_word word variables ∷ before

pub record VariableBegun (starts : List Pending) : Type 0 where
  pub mark : ℕ
  pub others : List Pending
  pub is : starts ≡ pending variable_syntax mark nil ∷ others
  pub var : VarBegun others

-- variables stand where their statement does, or in the head of a `for`
abbrev pub InVariables : Variables → Syntax → List machine.Open → Type 0
InVariables (in_statement setting) done nests = InSetting setting done nests
InVariables (in_head first) done nests = nests ≡ []

-- an expression that is the whole inside of a group has nothing else on its level; before an item of a list, or a part of the head of a `for`, stand such
-- alone; before what a clause starts with stands its word; behind an open `?` nothing stands before it
abbrev pub Within : Ending → Syntax → List Pending → List machine.Open → Type 0
Within (by_statement setting) done starts nests = InSetting setting done nests
Within (by_return setting) done starts nests = InSetting setting done nests
Within (by_variable place) done starts nests = VariableBegun starts × InVariables place done nests
Within by_start done starts nests = (starts ≡ []) × (nests ≡ [])
Within by_test done starts nests = (starts ≡ []) × (nests ≡ [])
Within by_step done starts nests = (starts ≡ []) × (nests ≡ [])
Within by_object done starts nests = (starts ≡ []) × (nests ≡ [])
Within (by_case seen) done starts nests = StatementBegun starts × (nests ≡ [])
Within by_paren done starts nests = (done ≡ nil) × (starts ≡ []) × (nests ≡ [])
Within by_bracket done starts nests = (done ≡ nil) × (starts ≡ []) × (nests ≡ [])
Within by_colon done starts nests = (done ≡ nil) × (starts ≡ []) × Asked nests
Within (by_item items) done starts nests = (starts ≡ []) × (nests ≡ [])

-- the number that stands for an open `?`, by what ends the expression that it is in
abbrev pub ask_in : endings.Ending → codes.Setting → ℕ
ask_in ending setting = ask_kind + ending_number ending * settings + setting_number setting

-- and back, of any number
abbrev pub asked_ending : ℕ → endings.Ending
asked_ending kind = ending_numbered ((kind - ask_kind) / settings)

abbrev pub asked_setting : ℕ → codes.Setting
asked_setting kind = setting_numbered ((kind - ask_kind) % settings)

unfoldable pub asked_in : ℕ → Ending
asked_in kind = ending_by (asked_ending kind) (asked_setting kind)

-- the numbers that stand for open `?`s: behind one the start of a `for`'s head is no more alone
abbrev pub AskNumber : ℕ → Type 0
AskNumber kind = (ask_kind ≤ kind) × (is_lone (asked_ending kind) ≡ false)

-- the number that stands for a nest, in a setting
abbrev pub nest_in : opened.Nest → codes.Setting → ℕ
nest_in nest setting = nest_kind + nest_number nest * settings + setting_number setting

-- whether a nest is that of a clause
abbrev pub of_clause : opened.Nest → Bool
of_clause kinds.Clause = true
of_clause kinds.LastClause = true
of_clause _ = false

-- what is around a nest: the statement that it is in stands in its setting; a clause stands on no nest
pub record InNumbered (nest : opened.Nest) (setting : codes.Setting) (around : Syntax) (nests : List machine.Open) : Type 0 where
  pub in-statement : of_clause nest ≡ false → InSetting (setting_by setting) around nests
  pub in_clauses : of_clause nest ≡ true → nests ≡ []

-- What waits below a frame with those statements done: nothing more on the level; or the nest that the frame stands in, with the frame's statements in
-- place of a left side, and then what waits around the nest; or the `?` that the frame stands behind, with its condition and the frame's statements, of
-- which there are none, as its left side, and then what waits around it.
pub data Below : Syntax → List machine.Open → Syntax → List Pending → Type 0 where
  below_none : {done : Syntax} → Below done [] done []
  below_nest : {done around base : Syntax} (nest : opened.Nest) (setting : codes.Setting) {mark : ℕ} {starts tail : List Pending} {nests : List machine.Open} → Beginnings starts → InNumbered nest setting around nests → Below around nests base tail
      → Below done (nested (behind_by nest (setting_by setting)) (left_by nest) mark (frame around starts [] nil) ∷ nests) base
      (pending (nest_in nest setting) mark done ∷ (starts ++ tail))
  below_asked : {done around base condition : Syntax} {kind mark : ℕ} {waiting starts tail : List Pending} {nests : List machine.Open} → AskNumber kind
      → Operators waiting → Beginnings starts → Within (asked_in kind) around starts nests → Below around nests base tail
      → Below done (asking (asked_in kind) mark (frame around starts waiting condition) ∷ nests) base
      (pending kind mark (snoc condition done) ∷ (waiting ++ (starts ++ tail)))

abbrev pub WithinRole : machine.Role → Syntax → List Pending → List Pending → List machine.Open → Type 0
WithinRole machine.declared done starts waiting nests = (starts ≡ []) × (waiting ≡ []) × (nests ≡ [])
WithinRole (machine.operand_in ending _) done starts waiting nests = Within ending done starts nests

abbrev pub Nothing : Syntax → List Pending → List Pending → Syntax → List machine.Open → Type 0
Nothing done starts waiting operand nests = (done ≡ nil) × (starts ≡ []) × (waiting ≡ []) × (operand ≡ nil) × (nests ≡ [])

-- items of a list, and nothing behind them yet
abbrev pub ItemsAlone : List Pending → List Pending → Syntax → List machine.Open → Type 0
ItemsAlone starts waiting operand nests = (starts ≡ []) × (waiting ≡ []) × (operand ≡ nil) × (nests ≡ [])

-- the statement that is done in a nest
pub record OneDone (done : Syntax) : Type 0 where
  pub last : Syntax
  pub is : done ≡ snoc nil last

-- the word of a statement, behind which a part is due
abbrev pub WordAlone : Setting → Syntax → List Pending → List Pending → Syntax → List machine.Open → Type 0
WordAlone setting done starts waiting operand nests = StatementBegun starts × (waiting ≡ []) × (operand ≡ nil) × InSetting setting done nests

-- a beginning, or none, behind which a part is due; and none
abbrev pub PartDue : Setting → Syntax → List Pending → Syntax → List machine.Open → Type 0
PartDue setting done waiting operand nests = (waiting ≡ []) × (operand ≡ nil) × InSetting setting done nests

abbrev pub NoneBegun : Setting → Syntax → List Pending → List Pending → Syntax → List machine.Open → Type 0
NoneBegun setting done starts waiting operand nests = (starts ≡ []) × (waiting ≡ []) × (operand ≡ nil) × InSetting setting done nests

-- the frame that goes with a control, and the nests: what cannot be there yet
abbrev pub Shaped : Control → Syntax → List Pending → List Pending → Syntax → List machine.Open → Type 0
Shaped (statement_due true setting) done starts waiting operand nests = PartDue setting done waiting operand nests
Shaped (statement_due false setting) done starts waiting operand nests = NoneBegun setting done starts waiting operand nests
Shaped (statement_done nest) done starts waiting operand nests = (starts ≡ []) × (waiting ≡ []) × (operand ≡ nil) × OneDone done × InNest nests
Shaped (name_first setting) done starts waiting operand nests = (waiting ≡ []) × InSetting setting done nests
Shaped (return_first setting) done starts waiting operand nests = WordAlone setting done starts waiting operand nests
Shaped (throw_first setting) done starts waiting operand nests = WordAlone setting done starts waiting operand nests
Shaped (jump_first setting) done starts waiting operand nests = WordAlone setting done starts waiting operand nests
Shaped (head_first setting) done starts waiting operand nests = WordAlone setting done starts waiting operand nests
Shaped (for_first setting) done starts waiting operand nests = WordAlone setting done starts waiting operand nests
Shaped (switch_first setting) done starts waiting operand nests = WordAlone setting done starts waiting operand nests
Shaped (switch_past setting) done starts waiting operand nests = PartDue setting done waiting operand nests
Shaped (body_done setting) done starts waiting operand nests = PartDue setting done waiting operand nests
Shaped (test_first setting) done starts waiting operand nests = PartDue setting done waiting operand nests
Shaped (semicolon_due setting) done starts waiting operand nests = (waiting ≡ []) × InSetting setting done nests
Shaped (variable_due place) done starts waiting operand nests = VarBegun starts × (waiting ≡ []) × (operand ≡ nil) × InVariables place done nests
Shaped (variable_named place) done starts waiting operand nests = VariableBegun starts × (waiting ≡ []) × (operand ≡ nil) × InVariables place done nests
Shaped start_due done starts waiting operand nests = ItemsAlone starts waiting operand nests
Shaped test_due done starts waiting operand nests = ItemsAlone starts waiting operand nests
Shaped step_due done starts waiting operand nests = ItemsAlone starts waiting operand nests
Shaped default_first done starts waiting operand nests = StatementBegun starts × (waiting ≡ []) × (operand ≡ nil) × (nests ≡ [])
Shaped (clause_due seen) done starts waiting operand nests = ItemsAlone starts waiting operand nests
Shaped try_first done starts waiting operand nests = PartDue in_clause done waiting operand nests
Shaped try_done done starts waiting operand nests = PartDue in_clause done waiting operand nests
Shaped catch_first done starts waiting operand nests = PartDue in_clause done waiting operand nests
Shaped catch_due done starts waiting operand nests = Nothing done starts waiting operand nests
Shaped catch_named done starts waiting operand nests = Nothing done starts waiting operand nests
Shaped catch_past done starts waiting operand nests = PartDue in_clause done waiting operand nests
Shaped catch_done done starts waiting operand nests = NoneBegun in_clause done starts waiting operand nests
Shaped finally_first done starts waiting operand nests = PartDue in_clause done waiting operand nests
Shaped try_ended done starts waiting operand nests = NoneBegun in_clause done starts waiting operand nests
Shaped if_first done starts waiting operand nests = (done ≡ nil) × (starts ≡ []) × (waiting ≡ []) × InNest nests
Shaped (operand_due ending _) done starts waiting operand nests = (operand ≡ nil) × Within ending done starts nests
Shaped (member_due ending _) done starts waiting operand nests = (operand ≡ nil) × Within ending done starts nests
Shaped (operand_done ending _) done starts waiting operand nests = Within ending done starts nests
Shaped (postfix_done ending) done starts waiting operand nests = Within ending done starts nests
Shaped (dot_last ending _) done starts waiting operand nests = Within ending done starts nests
Shaped (function_first role) done starts waiting operand nests = WithinRole role done starts waiting nests
Shaped (function_named role) done starts waiting operand nests = WithinRole role done starts waiting nests
Shaped (parameter_past role) done starts waiting operand nests = WithinRole role done starts waiting nests
Shaped (item_due items) done starts waiting operand nests = ItemsAlone starts waiting operand nests
Shaped property_named done starts waiting operand nests = ItemsAlone starts waiting operand nests
Shaped (parameter_due must) done starts waiting operand nests = Nothing done starts waiting operand nests
Shaped parameter_named done starts waiting operand nests = Nothing done starts waiting operand nests
Shaped finished done starts waiting operand nests = ⊥

-- what is written of an operand: nothing of a name or word that is held; and what is then held
abbrev pub written : Control → Syntax → Syntax
written (statement_due must setting) operand = operand
written (statement_done nest) operand = operand
written (name_first setting) operand = nil
written (return_first setting) operand = operand
written (throw_first setting) operand = operand
written (jump_first setting) operand = operand
written (head_first setting) operand = operand
written (for_first setting) operand = operand
written (switch_first setting) operand = operand
written (switch_past setting) operand = operand
written (body_done setting) operand = operand
written (test_first setting) operand = operand
written (semicolon_due setting) operand = operand
written (variable_due place) operand = operand
written (variable_named place) operand = operand
written start_due operand = operand
written test_due operand = operand
written step_due operand = operand
written default_first operand = operand
written (clause_due seen) operand = operand
written try_first operand = operand
written try_done operand = operand
written catch_first operand = operand
written catch_due operand = operand
written catch_named operand = operand
written catch_past operand = operand
written catch_done operand = operand
written finally_first operand = operand
written try_ended operand = operand
written if_first operand = nil
written (operand_due ending _) operand = operand
written (member_due ending _) operand = operand
written (operand_done ending _) operand = operand
written (postfix_done ending) operand = operand
written (dot_last ending _) operand = operand
written (function_first role) operand = nil
written (function_named role) operand = nil
written (parameter_past role) operand = nil
written (item_due items) operand = operand
written property_named operand = operand
written (parameter_due must) operand = operand
written parameter_named operand = operand
written finished operand = operand

abbrev pub HeldAt : Control → Syntax → ℕ → Type 0
HeldAt (statement_due must setting) operand word = Unit {0}
HeldAt (statement_done nest) operand word = Unit {0}
HeldAt (name_first setting) operand word = operand ≡ node name word nil nil
HeldAt (return_first setting) operand word = Unit {0}
HeldAt (throw_first setting) operand word = Unit {0}
HeldAt (jump_first setting) operand word = Unit {0}
HeldAt (head_first setting) operand word = Unit {0}
HeldAt (for_first setting) operand word = Unit {0}
HeldAt (switch_first setting) operand word = Unit {0}
HeldAt (switch_past setting) operand word = Unit {0}
HeldAt (body_done setting) operand word = Unit {0}
HeldAt (test_first setting) operand word = Unit {0}
HeldAt (semicolon_due setting) operand word = Unit {0}
HeldAt (variable_due place) operand word = Unit {0}
HeldAt (variable_named place) operand word = Unit {0}
HeldAt start_due operand word = Unit {0}
HeldAt test_due operand word = Unit {0}
HeldAt step_due operand word = Unit {0}
HeldAt default_first operand word = Unit {0}
HeldAt (clause_due seen) operand word = Unit {0}
HeldAt try_first operand word = Unit {0}
HeldAt try_done operand word = Unit {0}
HeldAt catch_first operand word = Unit {0}
HeldAt catch_due operand word = Unit {0}
HeldAt catch_named operand word = Unit {0}
HeldAt catch_past operand word = Unit {0}
HeldAt catch_done operand word = Unit {0}
HeldAt finally_first operand word = Unit {0}
HeldAt try_ended operand word = Unit {0}
HeldAt if_first operand word = mark_of operand ≡ word
HeldAt (operand_due ending _) operand word = Unit {0}
HeldAt (member_due ending _) operand word = Unit {0}
HeldAt (operand_done ending _) operand word = Unit {0}
HeldAt (postfix_done ending) operand word = Unit {0}
HeldAt (dot_last ending _) operand word = Unit {0}
HeldAt (function_first role) operand word = mark_of operand ≡ word
HeldAt (function_named role) operand word = mark_of operand ≡ word
HeldAt (parameter_past role) operand word = mark_of operand ≡ word
HeldAt (item_due items) operand word = Unit {0}
HeldAt property_named operand word = Unit {0}
HeldAt (parameter_due must) operand word = Unit {0}
HeldAt parameter_named operand word = Unit {0}
HeldAt finished operand word = Unit {0}

-- a record that a name which is held may yet need
abbrev pub owed : Control → ℕ
owed (statement_due must setting) = 0
owed (statement_done nest) = 0
owed (name_first setting) = 1
owed (return_first setting) = 0
owed (throw_first setting) = 0
owed (jump_first setting) = 0
owed (head_first setting) = 0
owed (for_first setting) = 0
owed (switch_first setting) = 0
owed (switch_past setting) = 0
owed (body_done setting) = 0
owed (test_first setting) = 0
owed (semicolon_due setting) = 0
owed (variable_due place) = 0
owed (variable_named place) = 0
owed start_due = 0
owed test_due = 0
owed step_due = 0
owed default_first = 0
owed (clause_due seen) = 0
owed try_first = 0
owed try_done = 0
owed catch_first = 0
owed catch_due = 0
owed catch_named = 0
owed catch_past = 0
owed catch_done = 0
owed finally_first = 0
owed try_ended = 0
owed if_first = 0
owed (operand_due ending _) = 0
owed (member_due ending _) = 0
owed (operand_done ending _) = 0
owed (postfix_done ending) = 0
owed (dot_last ending _) = 0
owed (function_first role) = 0
owed (function_named role) = 0
owed (parameter_past role) = 0
owed (item_due items) = 0
owed property_named = 0
owed (parameter_due must) = 0
owed parameter_named = 0
owed finished = 0

-- the stack below a level's floor is as it was
pub record Kept (before after : List Waiting) (floor : ℕ) : Type 0 where
  pub same_length : length after ≡ length before
  pub same : (k : ℕ) → k < floor → get_or after k nothing_waits ≡ get_or before k nothing_waits

-- The level stands at a control, with the machine's frame and nests: its records are written behind the first `first` of a table, what
-- waits is on the stack, which was `stack₀`, and so many tree records are passed, each of which made one record or part that waits at most.
pub record Stands (c : Control) (g : Frame) (nests : List machine.Open) (table : List ℕ) (stack₀ : List Waiting) (first floor passed : ℕ) (l : Level) (stack : List Waiting) (cells : List ℕ) : Type 0 where
  pub done : Syntax
  pub starts : List Pending
  pub waiting : List Pending
  pub operand : Syntax
  pub is : g ≡ frame done starts waiting operand
  pub shaped : Shaped c done starts waiting operand nests
  pub operators : Operators waiting
  pub beginnings : Beginnings starts
  pub base : Syntax
  pub tail : List Pending
  pub below : Below done nests base tail
  pub holds : Holds table first base (waiting ++ (starts ++ tail)) (written c operand) l stack cells
  pub held : HeldAt c operand l.held
  pub worded : l.held ≤ most_trees
  pub floored : l.floor ≡ floor
  pub kept : Kept stack₀ stack floor
  pub passes : l.count + l.top + owed c ≤ first + floor + passed
  pub few : first + floor + passed ≤ most_trees
