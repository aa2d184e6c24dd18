-- How the lent table holds the records of the levels while groups are open. Machinery.
use Rattle.std.specs.Prelude.{ℕ, ◌*◌, ◌≤◌, ◌≡◌, List, ◌++◌, length, drop}
use Rattle.rule.specs.Levels.{Levels, whole_text, inside, count_so_far}
use Rattle.prefix.specs.Machinery.Represents.{Represents}
use Rattle.prefix.specs.declared.State.{State}
use Rattle.prefix.specs.declared.OpenGroup.{OpenGroup}
use Rattle.tables.specs.Records.{tree_width, most_trees, tree_record}
use Rattle.storing.specs.Records.{records}

-- the records so far; an open group's end and number are 0
abbrev pub cells : Levels → List ℕ
cells (whole_text trees) = records trees
cells (inside around kind first newline trees) = cells around ++ (tree_record kind first 0 0 newline ++ records trees)

-- a group's tag on the stack is the index of its record
abbrev pub record_index : Levels → ℕ → ℕ
record_index around first = count_so_far around

-- the state, the stack and the table hold the levels
pub record Holds (before now : List ℕ) (stack : List OpenGroup) (room : ℕ) (state : State) (levels : Levels) : Type 0 where
  pub represented : Represents record_index stack state levels
  pub cells_are : now ≡ cells levels ++ drop (tree_width * count_so_far levels) before
  pub some : count_so_far levels ≤ room
  pub room_fits : tree_width * room ≤ length before
  pub room_small : room ≤ most_trees
  pub length_is : length now ≡ length before
  pub stack_is : length stack ≡ 100

-- some levels are held
pub record Some (now : List ℕ) (stack : List OpenGroup) (room : ℕ) (state : State) : Type 0 where
  pub before : List ℕ
  pub levels : Levels
  pub holds : Holds before now stack room state levels
