-- `string_rest` is `string_rest`: the rest of the string, from the place where the loop stands, is what is left to cut.
use mathlib.Core.Path.{◌≡◌}
use mathlib.Core.Bool.{false}
use Prim.Native.Nat.{◌-◌}
use lib.ListN.{length, drop}
use Rattle.literals.specs.Strings.{string_rest}
use Rattle.literals.proofs.strings.string_rest.Given as goal

abbrev pub invariant-loop-i : goal.invariant-loop-i
invariant-loop-i l = string_rest l.q l.first false l.from (drop l.from l.text) ≡ string_rest l.q l.first l.taken l.i (drop l.i l.text)

abbrev pub decreases-loop-i : goal.decreases-loop-i
decreases-loop-i l = length l.text - l.i
