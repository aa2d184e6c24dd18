-- How the code's state and its stack hold the levels of a reading, and what is answered of them and made of them with a leaf more, or when a group closes. Machinery.
use Rattle.std.specs.Prelude.{ℕ, ◌≤◌, ◌<◌, ◌≡◌, List, length, get_or}
use Rattle.elements.specs.declared.Element.{Element}
use Rattle.elements.specs.declared.Stated.{Stated}
use Rattle.rule.specs.Trees.{Trees, leaf, group}
use Rattle.rule.specs.Levels.{Levels, whole_text, inside, depth, count_so_far, on_top, stated_by, settled_in}
use Rattle.rule.specs.Machinery.Summary.{kinds, level_code}
use Rattle.rule.specs.Machinery.LevelCodes.{stated_by_level}
use Rattle.prefix.specs.declared.State.{State}
use Rattle.prefix.specs.declared.OpenGroup.{OpenGroup}

-- what is read past the end of a stack
abbrev pub no_group : OpenGroup
no_group = record { around = record { code = 0 }; tag = 0 }

-- the stack has each open group, whose kind fits the code of a level: the level around it, and the caller's tag for the group, a
-- number that depends on the levels around it and its first byte
abbrev pub Stack : (Levels → ℕ → ℕ) → List OpenGroup → Levels → Type 0
Stack tag stack (whole_text trees) = Unit {0}
Stack tag stack (inside around kind first newline trees) =
    (kind < kinds) × ((get_or stack (depth around) no_group).around.code ≡ level_code around) × ((get_or stack (depth around) no_group).tag ≡ tag around first) × Stack tag stack around

pub record Represents (tag : Levels → ℕ → ℕ) (stack : List OpenGroup) (state : State) (levels : Levels) : Type 0 where
  pub level_is : state.level.code ≡ level_code levels
  pub depth_is : state.depth ≡ depth levels
  pub records_is : state.records ≡ count_so_far levels
  pub stacked : Stack tag stack levels
  pub fits : state.depth ≤ length stack

-- the levels after a group's end: the innermost group is a tree of the level around it
pub data Closes (tag : Levels → ℕ → ℕ) (e : Element) (m : ℕ) : Levels → Levels → Type 0 where
  closed : {around : Levels} {kind first : ℕ} {newline : _} {trees : Trees}
      → m ≡ tag around first
      → Closes tag e m (inside around kind first newline trees) (on_top (λ before. group before kind first e.end newline trees) around)

-- What `stated_by` promises of every state: the answers by the code of its level, which are the prefix rule's of all levels that it holds.
abbrev pub States : State → Stated → Type 0
States state stated =
    (stated ≡ stated_by_level state.level.code)
    × ((tag : Levels → ℕ → ℕ) (stack : List OpenGroup) (levels : Levels) → Represents tag stack state levels → stated ≡ stated_by levels)

-- What `settled` promises of a state that holds levels: the element with the kind that the prefix rule settles there.
abbrev pub Settles : State → Element → Element → Type 0
Settles state e r =
    (tag : Levels → ℕ → ℕ) (stack : List OpenGroup) (levels : Levels) → Represents tag stack state levels → r ≡ settled_in levels e

-- What `with_leaf` promises of a state that holds levels: the state holds them with that leaf.
abbrev pub AddsLeaf : State → Element → State → Type 0
AddsLeaf state e after =
    (tag : Levels → ℕ → ℕ) (stack : List OpenGroup) (levels : Levels) → Represents tag stack state levels
    → Represents tag stack after (on_top (λ before. leaf before e) levels)
