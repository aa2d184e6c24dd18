-- All operators are closed, the statement's record is put, and it is complete.
use Rattle.machine.specs.Syntax.{expression_syntax}
use Rattle.effects.proofs.AffectLaws.{expression_held, expression_affects}
use Rattle.effects.proofs.expression_ended.Goals as goal

pub completed-requires : goal.completed-requires
completed-requires c = expression_held expression_syntax c.requires c.closed-whole.ensures c.made-one.ensures

pub returns : goal.returns
returns c = expression_affects c.args.mark c.closed-whole.ensures c.made-one.ensures c.completed.ensures
