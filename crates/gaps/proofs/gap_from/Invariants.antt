-- `gap_from` is `gap`: the rest of the gap, from the place where the loop stands, is what is left to pass.
use mathlib.Core.Path.{◌≡◌}
use mathlib.Core.Bool.{false}
use Prim.Native.Nat.{◌-◌}
use lib.ListN.{length, drop}
use Rattle.gaps.specs.Gaps.{gap}
use Rattle.gaps.proofs.gap_from.Given as goal

abbrev pub invariant-loop-i : goal.invariant-loop-i
invariant-loop-i l = gap l.from false (drop l.from l.text) ≡ gap l.i l.newline (drop l.i l.text)

abbrev pub decreases-loop-i : goal.decreases-loop-i
decreases-loop-i l = length l.text - l.i
