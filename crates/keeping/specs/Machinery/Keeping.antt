-- What is kept of a text while it is read: the records of its levels in the table or, where it is spaced, their bytes in the output. Machinery.
use Rattle.std.specs.Prelude.{ℕ, ◌≤◌, ◌<◌, ◌^◌, ◌≡◌, Bool, true, false, List, length}
use Rattle.elements.specs.declared.Element.{Element}
use Rattle.rule.specs.Trees.{none, leaf}
use Rattle.rule.specs.Levels.{Levels, inside, count_so_far, on_top}
use Rattle.prefix.specs.Machinery.Represents.{Represents, Closes}
use Rattle.prefix.specs.declared.State.{State}
use Rattle.prefix.specs.declared.OpenGroup.{OpenGroup}
use Rattle.tables.specs.Records.{most_trees}
use Rattle.storing.specs.Machinery.Table.{record_index, Holds}
use Rattle.spacing.specs.Machinery.Written.{opener_place, Writes}

-- what a call is lent: a table, an output, and its own stack
pub record Lent : Type 0 where
  pub trees : List ℕ
  pub output : List ℕ
  pub stack : List OpenGroup

abbrev pub lent : List ℕ → List ℕ → List OpenGroup → Lent
lent trees output stack = record { trees = trees; output = output; stack = stack }

-- a group's tag on the stack: its opener's place where a text is spaced, the index of its record where it is read
abbrev pub tag_of : Bool → Levels → ℕ → ℕ
tag_of true = opener_place
tag_of false = record_index

-- what is kept of the levels: their bytes in the output, or their records in the table
unfoldable pub Keeps : Bool → List ℕ → Lent → Lent → ℕ → State → ℕ → ℕ → Levels → Type 0
Keeps true bytes was is room state at place levels = Writes bytes was.output is.output is.stack state at place levels
Keeps false bytes was is room state at place levels = Holds was.trees is.trees is.stack room state levels

-- something is kept before an element that lies in the text
pub record MayTake (spaced : Bool) (bytes : List ℕ) (is : Lent) (room : ℕ) (state : State) (at : ℕ) (e : Element) : Type 0 where
  pub was : Lent
  pub place : ℕ
  pub levels : Levels
  pub keeps : Keeps spaced bytes was is room state at place levels
  pub near : place ≤ e.first
  pub some : e.first < e.end
  pub within : e.end ≤ length bytes
  pub short : length bytes < 2 ^ 30
  pub room_small : room ≤ most_trees

-- the same, with room for a record more
pub record MayKeep (spaced : Bool) (bytes trees output : List ℕ) (state : State) (at : ℕ) (e : Element) : Type 0 where
  pub stack : List OpenGroup
  pub room : ℕ
  pub may : MayTake spaced bytes (lent trees output stack) room state at e
  pub more_room : state.records < room

-- the same, where the innermost group is closed
pub record MayKeepEnd (spaced : Bool) (bytes trees output : List ℕ) (state : State) (at opener : ℕ) (e : Element) : Type 0 where
  pub stack : List OpenGroup
  pub room : ℕ
  pub may : MayTake spaced bytes (lent trees output stack) room state at e
  pub outer : Levels
  pub closes : Closes (tag_of spaced) e opener may.levels outer

-- what keeping a tree more promises, of whatever is kept before it and of every state that then holds the levels: it is kept
abbrev pub KeepsTree : Bool → List ℕ → List ℕ → List ℕ → List ℕ → List ℕ → State → ℕ → Element → (Levels → Levels) → ℕ → Type 0
KeepsTree spaced bytes trees output trees' output' state at e then to =
    (was : Lent) (stack after : List OpenGroup) (room place : ℕ) (levels : Levels) (next : State) → place ≤ e.first → length after ≡ length stack
    → Keeps spaced bytes was (lent trees output stack) room state at place levels → count_so_far levels < room → Represents (tag_of spaced) after next (then levels)
    → Keeps spaced bytes was (lent trees' output' after) room next to e.end (then levels)

-- the levels with a leaf, or with a group of a kind that opens
abbrev pub with_leaf : Element → Levels → Levels
with_leaf e levels = on_top (λ before. leaf before e) levels

abbrev pub with_opener : ℕ → Element → Levels → Levels
with_opener kind e levels = inside levels kind e.first e.newline none

-- the same of a group that closes
abbrev pub KeepsEnd : Bool → List ℕ → List ℕ → List ℕ → List ℕ → List ℕ → State → ℕ → ℕ → Element → ℕ → Type 0
KeepsEnd spaced bytes trees output trees' output' state at opener e to =
    (was : Lent) (stack after : List OpenGroup) (room place : ℕ) (levels outer : Levels) (next : State) → place ≤ e.first → length after ≡ length stack
    → Keeps spaced bytes was (lent trees output stack) room state at place levels → Closes (tag_of spaced) e opener levels outer → Represents (tag_of spaced) after next outer
    → Keeps spaced bytes was (lent trees' output' after) room next to e.end outer
