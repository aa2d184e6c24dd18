-- How state, stack and output hold what is read and written so far. Machinery.
use Rattle.std.specs.Prelude.{ℕ, ◌+◌, ◌*◌, ◌≤◌, ◌≡◌, List, [], length}
use Rattle.rule.specs.Levels.{Levels, whole_text, inside}
use Rattle.prefix.specs.Machinery.Represents.{Represents}
use Rattle.prefix.specs.declared.State.{State}
use Rattle.prefix.specs.declared.OpenGroup.{OpenGroup}
use Rattle.spacing.specs.Respaced.{add_element, add_trees}
use Rattle.spacing.specs.Machinery.Over.{over}

-- where no records are stored, a group's tag on the stack is the place of its opener
abbrev pub opener_place : Levels → ℕ → ℕ
opener_place around first = first

-- what is written of the levels of a reading
abbrev pub written_of : List ℕ → Levels → List ℕ
written_of bytes (whole_text trees) = add_trees bytes [] trees
written_of bytes (inside around kind first newline trees) = add_trees bytes (add_element bytes (written_of bytes around) first (first + 1) newline) trees

-- the state, the stack and the output hold the levels; `place` is behind the last element
pub record Writes (bytes old output : List ℕ) (stack : List OpenGroup) (state : State) (at place : ℕ) (levels : Levels) : Type 0 where
  pub represented : Represents opener_place stack state levels
  pub output_is : output ≡ over (written_of bytes levels) old
  pub at_is : at ≡ length (written_of bytes levels)
  pub few : at ≤ 2 * place
  pub length_is : length output ≡ length old
  pub stack_is : length stack ≡ 100
