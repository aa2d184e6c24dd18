-- What the turns of a reading come to. Machinery.
use Rattle.std.specs.Prelude.{ℕ, ◌*◌, ◌≤◌, ◌≡◌, Bool, false, List, length, Result, Ok, Err}
use Rattle.answers.specs.Faults.{fault_number, fault_place}
use Rattle.answers.specs.declared.faults.Fault.{Fault}
use Rattle.elements.specs.declared.Element.{Element}
use Rattle.rule.specs.Levels.{Levels}
use Rattle.prefix.specs.Reading.{Limits, Step, stop, more, step, refused, ending, reading}
use Rattle.prefix.specs.declared.OpenGroup.{OpenGroup}
use Rattle.tables.specs.Records.{tree_width, most_trees}
use Rattle.keeping.specs.Machinery.Keeping.{Lent, Keeps}
use Rattle.reading.specs.Read.{most_bytes, most_groups}
use Rattle.turns.specs.declared.Reached.{Reached}

-- the limits of a reading that has room for so many records
abbrev pub limits_for : ℕ → Limits
limits_for room = record { groups = most_groups; room = room }

-- the code's turn is the definition's step
pub data Turned (spaced : Bool) (bytes : List ℕ) (was is : Lent) (room place : ℕ) : Result Reached Fault → Step → Type 0 where
  goes_on : {reached : Reached} {levels : Levels} → Keeps spaced bytes was is room reached.state reached.written place levels
      → Turned spaced bytes was is room place (Ok reached) (more levels)
  ends : {fault : Fault} → Turned spaced bytes was is room place (Err fault) (stop (fault_number fault) (fault_place fault))

-- what taking an element promises, of whatever is kept before it
abbrev pub Takes : Bool → List ℕ → Lent → Lent → ℕ → Reached → Element → Result Reached Fault → Type 0
Takes spaced bytes is after room reached e taken =
    (was : Lent) (place : ℕ) (levels : Levels) → place ≤ e.first → Keeps spaced bytes was is room reached.state reached.written place levels
    → Turned spaced bytes was after room e.end taken (step (limits_for room) levels e)

-- what a reading asks: a text that is not long, room that the table has where its records are kept, and the stack of 100 groups
pub record MayRead (spaced : Bool) (bytes trees : List ℕ) (stack : List OpenGroup) (room : ℕ) : Type 0 where
  pub short : length bytes ≤ most_bytes
  pub stack_is : length stack ≡ 100
  pub room_small : room ≤ most_trees
  pub room_fits : spaced ≡ false → tree_width * room ≤ length trees

-- what reading to the end comes to: what is kept of the levels there, or the refusal
pub data Runs (spaced : Bool) (bytes : List ℕ) (was is : Lent) (room : ℕ) : Result Reached Fault → Type 0 where
  ran : {reached : Reached} {place : ℕ} (levels : Levels) → Keeps spaced bytes was is room reached.state reached.written place levels → place ≤ length bytes
      → reading bytes (limits_for room) ≡ ending levels → Runs spaced bytes was is room (Ok reached)
  halted : {fault : Fault} → reading bytes (limits_for room) ≡ refused (fault_number fault) (fault_place fault) → Runs spaced bytes was is room (Err fault)
