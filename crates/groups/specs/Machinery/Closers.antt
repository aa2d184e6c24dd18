-- What a level comes to at its closer: for whatever frame stands there, the machine pops its value, which is written, or dies. Machinery.
use Rattle.std.specs.Prelude.{ℕ, Result, Ok, Err, ◌+◌, ◌≤◌, ◌≡◌, Bool, true, false, cond, List, [], ◌∷◌, ◌++◌, eqb}
use Rattle.machine.specs.Tokens.{Token, token}
use Rattle.machine.specs.Syntax.{Syntax, nil, size}
use Rattle.machine.specs.Machinery.Machine.{
  end_of_text,
  Frame,
  frame,
  Ending,
  by_statement,
  by_return,
  by_variable,
  by_start,
  by_test,
  by_step,
  by_object,
  by_case,
  by_paren,
  by_bracket,
  by_colon,
  by_item,
  Control,
  statement_due,
  statement_done,
  name_first,
  return_first,
  throw_first,
  jump_first,
  head_first,
  for_first,
  switch_first,
  switch_past,
  body_done,
  test_first,
  semicolon_due,
  variable_due,
  variable_named,
  start_due,
  test_due,
  step_due,
  default_first,
  clause_due,
  try_first,
  try_done,
  catch_first,
  catch_due,
  catch_named,
  catch_past,
  catch_done,
  finally_first,
  try_ended,
  if_first,
  operand_due,
  member_due,
  operand_done,
  postfix_done,
  dot_last,
  function_first,
  function_named,
  parameter_past,
  item_due,
  property_named,
  parameter_due,
  parameter_named,
  finished,
  Open,
  State,
  dead,
  live,
  pop_to,
  head_in,
  finish_in,
  run,
}
use Rattle.controls.specs.Machinery.Numbers.{ending_by, is_lone, control_of}
use Rattle.controls.specs.declared.Setting as codes
use Rattle.controls.specs.declared.Ending as endings
use Rattle.controls.specs.declared.Control as code
use Rattle.controls.specs.Machinery.Written.{put_syntax}
use Rattle.waiting.specs.declared.Level.{Level}
use Rattle.waiting.specs.declared.Waiting.{Waiting}
use Rattle.frames.specs.Machinery.Stands.{ask_in, Kept, Stands}
use Rattle.frames.specs.Machinery.Effects.{of_parameter}
use Rattle.answers.specs.declared.faults.Fault.{Fault}
use Rattle.groups.specs.declared.Parsed.{Parsed}

-- the number that stands for an open `?` behind such an expression, as if the start of a `for`'s head were no more alone
pub record AsksIn (ending : endings.Ending) (setting : codes.Setting) (number : ℕ) : Type 0 where
  pub past : endings.Ending
  pub plain : is_lone past ≡ false
  pub same : ending_by past setting ≡ ending_by ending setting
  pub is : number ≡ ask_in past setting

-- behind a level stands its closer, or the end of the text
abbrev pub closer_token : ℕ → ℕ → ℕ → Token
closer_token class place mark = token class (record { newline = false; mark = mark; first = place })

-- where what stands behind the `in` of a `for` has ended
abbrev pub is_by_object : Ending → Bool
is_by_object (by_statement setting) = false
is_by_object (by_return setting) = false
is_by_object (by_variable place) = false
is_by_object by_start = false
is_by_object by_test = false
is_by_object by_step = false
is_by_object by_object = true
is_by_object (by_case seen) = false
is_by_object by_paren = false
is_by_object by_bracket = false
is_by_object by_colon = false
is_by_object (by_item items) = false

abbrev pub is_object : Control → Bool
is_object (statement_due must setting) = false
is_object (statement_done nest) = false
is_object (name_first setting) = false
is_object (return_first setting) = false
is_object (throw_first setting) = false
is_object (jump_first setting) = false
is_object (head_first setting) = false
is_object (for_first setting) = false
is_object (switch_first setting) = false
is_object (switch_past setting) = false
is_object (body_done setting) = false
is_object (test_first setting) = false
is_object (semicolon_due setting) = false
is_object (variable_due place) = false
is_object (variable_named place) = false
is_object start_due = false
is_object test_due = false
is_object step_due = false
is_object default_first = false
is_object (clause_due seen) = false
is_object try_first = false
is_object try_done = false
is_object catch_first = false
is_object catch_due = false
is_object catch_named = false
is_object catch_past = false
is_object catch_done = false
is_object finally_first = false
is_object try_ended = false
is_object if_first = false
is_object (operand_due ending _) = false
is_object (member_due ending _) = false
is_object (operand_done ending _) = is_by_object ending
is_object (postfix_done ending) = is_by_object ending
is_object (dot_last ending _) = false
is_object (function_first role) = false
is_object (function_named role) = false
is_object (parameter_past role) = false
is_object (item_due items) = false
is_object property_named = false
is_object (parameter_due must) = false
is_object parameter_named = false
is_object finished = false

-- the machine's state behind a level that has closed with a value, which is the head of a `for` with `in` or not
abbrev pub closed_state : ℕ → ℕ → Bool → Syntax → List Open → State
closed_state class place within value around =
    cond (eqb class end_of_text) (finish_in place (frame value [] [] nil) around) (pop_to place value (cond within (head_in around) around))

-- whatever stands around the level, its value is popped, and the value's records are written
pub record Pops (class place : ℕ) (c : Control) (g : Frame) (nests : List Open) (table : List ℕ) (stack₀ : List Waiting) (first floor passed n : ℕ) (within : Bool) (stack : List Waiting) (cells : List ℕ) : Type 0 where
  pub value : Syntax
  pub runs : (around : List Open) (mark : ℕ) (u : List Token)
      → run (live c g (nests ++ around)) (closer_token class place mark ∷ u) ≡ run (closed_state class place within value around) u
  pub count_is : n ≡ first + size value
  pub cells_are : cells ≡ put_syntax table first value
  pub kept : Kept stack₀ stack floor
  pub passes : n ≤ first + passed
  pub plain : of_parameter c ≡ true → value ≡ nil

pub data AtCloser (class place : ℕ) (c : Control) (g : Frame) (nests : List Open) (table : List ℕ) (stack₀ : List Waiting) (first floor passed : ℕ) : Result Parsed Fault → List Waiting → List ℕ → Type 0 where
  pops_there : {n : ℕ} {within : Bool} {stack : List Waiting} {cells : List ℕ} → Pops class place c g nests table stack₀ first floor passed n within stack cells
      → AtCloser class place c g nests table stack₀ first floor passed (Ok (record { count = n; within = within })) stack cells
  dies_there : {stack : List Waiting} {cells : List ℕ}
      → ((around : List Open) (mark : ℕ) (u : List Token) → run (live c g (nests ++ around)) (closer_token class place mark ∷ u) ≡ dead place)
      → AtCloser class place c g nests table stack₀ first floor passed (Err (Fault.NoProgram place)) stack cells

abbrev pub ComesTo : code.Control → ℕ → ℕ → Level → List Waiting → List ℕ → Result Parsed Fault → List Waiting → List ℕ → Type 0
ComesTo at class place l stack cells r stack' cells' = (g : Frame) (nests : List Open) (table : List ℕ) (stack₀ : List Waiting) (first floor passed : ℕ)
    → Stands (control_of at) g nests table stack₀ first floor passed l stack cells → AtCloser class place (control_of at) g nests table stack₀ first floor passed r stack' cells'
