-- What waits on a level, as it stands on the lent stack, and the records so far. Machinery.
use Rattle.std.specs.Prelude.{ℕ, ◌+◌, ◌-◌, ◌≤◌, ◌<◌, ◌≡◌, cond, List, [], ◌∷◌, leb, length, get_or, set}
use Rattle.tables.specs.Records.{most_trees}
use Rattle.machine.specs.Syntax.{Syntax, snoc, node, size}
use Rattle.machine.specs.Machinery.Machine.{Pending, pending, tightness}
use Rattle.controls.specs.Machinery.Written.{put_syntax}
use Rattle.waiting.specs.declared.Level.{Level}
use Rattle.waiting.specs.declared.Waiting.{Waiting}

-- what stands for what waits past the end of a stack
abbrev pub nothing_waits : Waiting
nothing_waits = record { kind = 0; mark = 0; start = 0 }

-- in place of a kind, the least number that stands for a nest, and that stands for a `?` that is not answered; and the settings that such numbers have
-- room for
abbrev pub nest_kind : ℕ
nest_kind = 128

abbrev pub ask_kind : ℕ
ask_kind = 256

abbrev pub settings : ℕ
settings = 8

-- how tight what waits binds: an operator more than 1, the beginning of a statement 1, a nest 0 and an open `?` 0
unfoldable pub binding : ℕ → ℕ
binding kind = cond (leb nest_kind kind) 0 (tightness kind + 1)

-- what waits, innermost first, and the operand, once those are closed that bind at least so tight
pub data Shut : Type 0 where
  shut : List Pending → Syntax → Shut

abbrev pub close : ℕ → List Pending → Syntax → Shut
close least [] operand = shut [] operand
close least (pending kind mark left ∷ ps) operand =
    cond (leb least (binding kind)) (close least ps (node kind mark left operand)) (shut (pending kind mark left ∷ ps) operand)

-- what is written: the statements done, and then the left sides of what waits, outermost first
abbrev pub lefts : Syntax → List Pending → Syntax
lefts done [] = done
lefts done (pending kind mark left ∷ ps) = snoc (lefts done ps) left

-- what waits stands on the stack, from the floor of the level up to its top
pub data Stacked (stack : List Waiting) (floor first : ℕ) (done : Syntax) : List Pending → ℕ → Type 0 where
  bare : Stacked stack floor first done [] floor
  above : {kind mark : ℕ} {left : Syntax} {ps : List Pending} {top : ℕ} → Stacked stack floor first done ps top
      → top < length stack
      → get_or stack top nothing_waits ≡ record { kind = kind; mark = mark; start = first + size (lefts done ps) }
      → mark ≤ most_trees
      → Stacked stack floor first done (pending kind mark left ∷ ps) (top + 1)

-- the records of a level are written behind the first `first` of a table, and what waits is on the stack
pub record Holds (table : List ℕ) (first : ℕ) (done : Syntax) (ps : List Pending) (operand : Syntax) (l : Level) (stack : List Waiting) (cells : List ℕ) : Type 0 where
  pub stacked : Stacked stack l.floor first done ps l.top
  pub starts : l.start ≡ first + size (lefts done ps)
  pub counts : l.count ≡ l.start + size operand
  pub written : cells ≡ put_syntax table first (snoc (lefts done ps) operand)
  pub few : l.count + l.top ≤ most_trees

-- some records are held
pub record Backed (l : Level) (stack : List Waiting) (cells : List ℕ) : Type 0 where
  pub table : List ℕ
  pub first : ℕ
  pub done : Syntax
  pub ps : List Pending
  pub operand : Syntax
  pub holds : Holds table first done ps operand l stack cells

-- the same level once parts are closed
abbrev pub HoldsShut : List ℕ → ℕ → Syntax → Shut → Level → List Waiting → List ℕ → Type 0
HoldsShut table first done (shut ps operand) l stack cells = Holds table first done ps operand l stack cells

-- whatever is held, it is closed as far as it binds so tight
abbrev pub Closes : ℕ → Level → List Waiting → List ℕ → Level → List ℕ → Type 0
Closes least l stack cells r after = (table : List ℕ) (first : ℕ) (done : Syntax) (ps : List Pending) (operand : Syntax)
    → Holds table first done ps operand l stack cells → HoldsShut table first done (close least ps operand) r stack after

-- the stack with one part more, and the level then
abbrev pub stack_with : List Waiting → ℕ → ℕ → ℕ → ℕ → List Waiting
stack_with stack top kind mark start = set stack top (record { kind = kind; mark = mark; start = start })

-- the stack where what waits uppermost has another kind
abbrev pub stack_as : List Waiting → ℕ → ℕ → List Waiting
stack_as stack top kind = set stack (top - 1) (record (get_or stack (top - 1) nothing_waits) { kind = kind })

-- the level without what waits uppermost, whose left side is the first part of the operand; and with one part that waits more
abbrev pub popped : Level → List Waiting → Level
popped l stack = record l { top = l.top - 1; start = (get_or stack (l.top - 1) nothing_waits).start }

abbrev pub waiting_one : Level → Level
waiting_one l = record l { top = l.top + 1; start = l.count }

-- the level with one record more, which holds the operand; with a word held; and where no operand stands
abbrev pub made_one : Level → Level
made_one l = record l { count = l.count + 1 }

abbrev pub with_held : ℕ → Level → Level
with_held word l = record l { held = word }

abbrev pub restarted : Level → Level
restarted l = record l { start = l.count }

-- a statement is complete: what waits for it is closed, and no operand stands there
pub record Completes (l : Level) (stack : List Waiting) (cells : List ℕ) (r : Level) (after : List ℕ) : Type 0 where
  pub all : Level
  pub is : r ≡ restarted all
  pub same_floor : all.floor ≡ l.floor
  pub same_held : all.held ≡ l.held
  pub closes : Closes 1 l stack cells all after
