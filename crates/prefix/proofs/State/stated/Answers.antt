-- The code of the innermost level says what the rule says.
use Rattle.prefix.proofs.StateLaws.{represented_stated}
use Rattle.prefix.proofs.State.stated.Goals as goal

pub returns : goal.returns
returns c = (c.stated.ensures, λ tag stack levels h. represented_stated tag stack _ levels h _ c.stated.ensures)
