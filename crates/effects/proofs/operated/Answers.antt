-- Operators that bind as tight are closed, and then the operator waits.
use Prim.Native.Nat.{◌+◌}
use native.Mathlib.Omega.{arith}
use Rattle.effects.proofs.AffectLaws.{operator_asks, operator_affects}
use Rattle.effects.proofs.operated.Goals as goal

pub returns : goal.returns
returns c =
    operator_affects c.args.class c.args.mark c.threshold-least.result (omega (arith, c.requires.marked)) c.requires.room c.threshold-least.ensures
    c.closed-left.ensures c.wait.ensures

pub wait-requires : goal.wait-requires
wait-requires c = operator_asks (c.threshold-least.result + 1) c.requires c.closed-left.ensures
