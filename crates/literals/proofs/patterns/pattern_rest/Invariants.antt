-- `pattern_rest` is `pattern_rest`: the rest of the regular expression, from the place where the loop stands, is what is
-- left to cut.
use mathlib.Core.Path.{◌≡◌}
use mathlib.Core.Bool.{false}
use Prim.Native.Nat.{◌-◌}
use lib.ListN.{length, drop}
use Rattle.literals.specs.Patterns.{pattern_rest}
use Rattle.literals.proofs.patterns.pattern_rest.Given as goal

abbrev pub invariant-loop-i : goal.invariant-loop-i
invariant-loop-i l = pattern_rest l.first false false l.from (drop l.from l.text) ≡ pattern_rest l.first l.class l.taken l.i (drop l.i l.text)

abbrev pub decreases-loop-i : goal.decreases-loop-i
decreases-loop-i l = length l.text - l.i
