-- What the parsers of a level say, by runs of the token machine. Machinery.
use Rattle.std.specs.Prelude.{ℕ, Result, Ok, Err, ◌+◌, ◌≤◌, ◌<◌, ◌≡◌, Bool, true, false, List, ◌∷◌, ◌++◌, T, length}
use Rattle.machine.specs.Tokens.{Token}
use Rattle.machine.specs.Syntax.{Syntax, nil, size}
use Rattle.machine.specs.Scopes.{body}
use Rattle.machine.specs.Machinery.Machine.{empty, among, Control, statement_due, Open, dead, live, run}
use Rattle.controls.specs.Machinery.Numbers.{setting_by, inside_by}
use Rattle.controls.specs.declared.Setting as codes
use Rattle.controls.specs.declared.Closing as closings
use Rattle.machine.specs.Machinery.Classes.{is_end}
use Rattle.controls.specs.Machinery.Written.{put_syntax}
use Rattle.waiting.specs.declared.Waiting.{Waiting}
use Rattle.frames.specs.Machinery.Stands.{Kept}
use Rattle.frames.specs.Machinery.Effects.{of_parameter}
use Rattle.segments.specs.Machinery.Segments.{Segment, count_of, tokens_at, Fine}
use Rattle.groups.specs.Machinery.Closers.{closer_token, closed_state}
use Rattle.answers.specs.declared.faults.Fault.{Fault}
use Rattle.groups.specs.declared.Parsed.{Parsed}

-- a level that was run to its end, from a control: whatever stands around it, its value is popped, as the head of a `for` with `in` or not, and the
-- value's records are written
pub record Through (class : ℕ) (p : Segment) (c : Control) (count top : ℕ) (table : List ℕ) (before : List Waiting) (n : ℕ) (within : Bool) (cells : List ℕ) (stack : List Waiting) : Type 0 where
  pub value : Syntax
  pub runs : (around : List Open) (mark : ℕ) (u : List Token)
      → run (live c empty around) (tokens_at p 0 ++ (closer_token class p.close mark ∷ u)) ≡ run (closed_state class p.close within value around) u
  pub count_is : n ≡ count + size value
  pub cells_are : cells ≡ put_syntax table count value
  pub kept : Kept before stack top
  pub passes : n ≤ count + count_of p.cells
  pub plain : of_parameter c ≡ true → value ≡ nil

-- one at which the machine dies, whatever stands around it
abbrev pub Dies : ℕ → Segment → Control → ℕ → Type 0
Dies class p c place = (around : List Open) (mark : ℕ) (u : List Token)
    → run (live c empty around) (tokens_at p 0 ++ (closer_token class p.close mark ∷ u)) ≡ dead place

pub data Ran (class : ℕ) (p : Segment) (c : Control) (count top : ℕ) (table : List ℕ) (before : List Waiting) : Result Parsed Fault → List ℕ → List Waiting → Type 0 where
  ran_through : {n : ℕ} {within : Bool} {cells : List ℕ} {stack : List Waiting} → Through class p c count top table before n within cells stack
      → Ran class p c count top table before (Ok (record { count = n; within = within })) cells stack
  ran_dead : {place : ℕ} {cells : List ℕ} {stack : List Waiting} → Dies class p c place → Ran class p c count top table before (Err (Fault.NoProgram place)) cells stack

-- a level may be run: its records are fine, no more records and waiting parts are before it than tree records, and the stack has
-- room for one part for each tree record
pub record MayRun (p : Segment) (closer count top : ℕ) (stack : List Waiting) : Type 0 where
  pub fine : Fine p
  pub low : count + top ≤ p.base
  pub deep : p.base + count_of p.cells ≤ length stack
  pub closes : T (is_end closer)

-- the inside of a group may be run
pub record MayOpen (p : Segment) (at closer count top : ℕ) (stack : List Waiting) : Type 0 where
  pub fine : Fine p
  pub here : at < count_of p.cells
  pub low : count + top ≤ p.base + at + 1
  pub deep : p.base + count_of p.cells ≤ length stack
  pub closes : T (is_end closer)

-- these are statements, with declarations in a body
abbrev pub RanStatements : codes.Setting → ℕ → Segment → ℕ → ℕ → List ℕ → List Waiting → Result Parsed Fault → List ℕ → List Waiting → Type 0
RanStatements scope closer p count top table before r cells stack = Ran closer p (statement_due false (setting_by scope)) count top table before r cells stack

-- this is an expression, or what else is inside such a group
abbrev pub RanExpression : closings.Closing → ℕ → Segment → ℕ → ℕ → List ℕ → List Waiting → Result Parsed Fault → List ℕ → List Waiting → Type 0
RanExpression closing closer p count top table before r cells stack = Ran closer p (inside_by closing) count top table before r cells stack

-- this is a function's body
abbrev pub RanFunction : ℕ → Segment → ℕ → ℕ → List ℕ → List Waiting → Result Parsed Fault → List ℕ → List Waiting → Type 0
RanFunction closer p count top table before r cells stack = Ran closer p (statement_due false (among body)) count top table before r cells stack
