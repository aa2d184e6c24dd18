-- What the step at a delimiter must make of the levels that a state holds. Machinery.
use Rattle.std.specs.Prelude.{ℕ, ◌<◌, ◌≡◌, List, length, Result, Ok, Err}
use Rattle.answers.specs.Faults.{fault_number, fault_place}
use Rattle.answers.specs.declared.faults.Fault.{Fault}
use Rattle.elements.specs.declared.Element.{Element}
use Rattle.rule.specs.Trees.{none}
use Rattle.rule.specs.Levels.{Levels, inside, count_so_far}
use Rattle.prefix.specs.Reading.{Step, stop, more, delimit}
use Rattle.prefix.specs.Machinery.Represents.{Represents, Closes}
use Rattle.prefix.specs.declared.State.{State}
use Rattle.prefix.specs.declared.OpenGroup.{OpenGroup}
use Rattle.delimiters.specs.declared.Advanced.{Advanced}

-- what the code's answer says of the definition's step at a delimiter, where there is room for so many records
pub data Follows (room : ℕ) (tag : Levels → ℕ → ℕ) (stack : List OpenGroup) (e : Element) (levels : Levels) : Result Advanced Fault → Step → Type 0 where
  group_opened : {kind : ℕ} {state : State} → count_so_far levels < room → Represents tag stack state (inside levels kind e.first e.newline none)
      → Follows room tag stack e levels (Ok (Advanced.Opened kind state)) (more (inside levels kind e.first e.newline none))
  group_closed : {m : ℕ} {state : State} {after : Levels} → Closes tag e m levels after → Represents tag stack state after
      → Follows room tag stack e levels (Ok (Advanced.Closed m state)) (more after)
  stopped : {fault : Fault} → Follows room tag stack e levels (Err fault) (stop (fault_number fault) (fault_place fault))

-- What `delimit` promises of a state that holds levels: the definition's step is taken from them, with as many groups as the stack has room
-- for. It is left free what becomes of a state that holds none, of the stack's cells above the open groups, and of the stack where it stops.
abbrev pub Delimits : List OpenGroup → List OpenGroup → State → ℕ → ℕ → Element → Result Advanced Fault → Type 0
Delimits stack after state room tag e advanced =
    (tags : Levels → ℕ → ℕ) (levels : Levels) → Represents tags stack state levels → tag ≡ tags levels e.first
    → Follows room tags after e levels advanced (delimit (record { groups = length stack; room = room }) levels e)
