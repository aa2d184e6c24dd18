-- `block_comment` resumes the gap behind the `*/`: the rest of the comment, from the place where the loop stands, is what
-- is left to pass.
use mathlib.Core.Path.{◌≡◌}
use mathlib.Core.Bool.{Bool, false, ◌||◌}
use Prim.Native.Nat.{◌+◌, ◌-◌, ◌≤◌}
use lib.ListN.{length, drop}
use Rattle.gaps.specs.Gaps.{in_block}
use Rattle.gaps.proofs.block_comment.Given as goal

abbrev pub invariant-loop-i : goal.invariant-loop-i
invariant-loop-i l = (l.slash + 2 ≤ l.i)
    × ((newline : Bool) → in_block l.slash (l.slash + 2) newline false (drop (l.slash + 2) l.text) ≡ in_block l.slash l.i (newline || l.lined) false (drop l.i l.text))

abbrev pub decreases-loop-i : goal.decreases-loop-i
decreases-loop-i l = length l.text - l.i
