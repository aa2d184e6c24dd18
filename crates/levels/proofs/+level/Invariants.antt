-- Measures that fall along each call: the inside of a group has fewer records than the level that the group is on. And what a turn of `level` keeps: its run
-- is under way before a record.
use Rattle.std.proofs.Common.{◌≡◌, ◌+◌, ◌-◌, ◌*◌, length}
use Rattle.controls.specs.Machinery.Numbers.{control_of, inside_by}
use Rattle.segments.specs.Machinery.Segments.{segment_of, count_of}
use Rattle.levels.proofs.RunLaws.{Underway}
use Rattle.levels.proofs.+level.Given as goal

abbrev pub decreases-content : goal.decreases-content
decreases-content l = 8 * count_of l.part.trees.now + 5

abbrev pub decreases-expression : goal.decreases-expression
decreases-expression l = 8 * count_of l.part.trees.now + 3

abbrev pub decreases-function : goal.decreases-function
decreases-function l = 8 * count_of l.part.trees.now + 4

abbrev pub decreases-group : goal.decreases-group
decreases-group l = 8 * count_of l.part.trees.now + 1

abbrev pub decreases-level : goal.decreases-level
decreases-level l = 8 * count_of l.part.trees.now + 2

abbrev pub decreases-statements : goal.decreases-statements
decreases-statements l = 8 * count_of l.part.trees.now + 3

abbrev pub invariant-level-loop-at : goal.invariant-level-loop-at
invariant-level-loop-at l =
    (length l.syntax ≡ length l.fn.syntax) × (length l.waiting ≡ length l.fn.waiting)
    × Underway (segment_of l.part) (inside_by l.fn.inside) l.count l.top l.fn.syntax l.fn.waiting (control_of l.control) l.l l.at l.syntax l.waiting

abbrev pub decreases-level-loop-at : goal.decreases-level-loop-at
decreases-level-loop-at l = l.number - l.at
