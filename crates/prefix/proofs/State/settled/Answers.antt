-- A sign by the code of the innermost level; of any other element nothing is left open.
use mathlib.Core.Path.{sym}
use Rattle.rule.proofs.LevelCodeLaws.{settled_other}
use Rattle.prefix.proofs.StateLaws.{represented_sign}
use Rattle.prefix.proofs.State.settled.Goals as goal

pub returns-then-e-ne-SIGN : goal.returns-then-e-ne-SIGN
returns-then-e-ne-SIGN c = λ tag stack levels h. sym (settled_other levels _ c.if-e-ne-SIGN.true)

pub returns : goal.returns
returns c = λ tag stack levels h. represented_sign tag stack _ levels h _ c.if-e-ne-SIGN.false _ c.settled.ensures
