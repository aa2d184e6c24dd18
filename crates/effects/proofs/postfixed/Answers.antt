-- The `new`s that wait are closed, and the record is put.
use Rattle.machine.specs.Operators.{postfix_kind}
use Rattle.effects.proofs.AffectLaws.{postfix_affects}
use Rattle.effects.proofs.postfixed.Goals as goal

pub returns : goal.returns
returns c =
    postfix_affects (postfix_kind c.args.class) c.args.mark c.postfix_kind.ensures c.closed-whole.ensures c.made.ensures
