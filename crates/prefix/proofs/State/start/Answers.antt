-- Nothing stands before the first element.
use Rattle.prefix.proofs.StateLaws.{represented_start}
use Rattle.prefix.proofs.State.start.Goals as goal

pub returns : goal.returns
returns c = λ tag stack. represented_start tag stack
