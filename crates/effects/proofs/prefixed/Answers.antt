-- The operator waits, with nothing on its left.
use native.Mathlib.Omega.{arith}
use Rattle.machine.specs.Operators.{prefix_kind}
use Rattle.effects.proofs.AffectLaws.{prefix_asks, prefix_affects}
use Rattle.effects.proofs.prefixed.Goals as goal

pub wait-requires : goal.wait-requires
wait-requires c = prefix_asks c.requires c.prefix_kind.ensures

pub returns : goal.returns
returns c =
    prefix_affects (prefix_kind c.args.class) c.args.mark (omega (arith, c.requires.marked)) c.requires.room c.prefix_kind.ensures c.wait.ensures
