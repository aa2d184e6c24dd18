-- `name_end` is `run_end` at the limit of its class.
use Rattle.text.proofs.CodeLaws.{over_blank}
use Rattle.runs.proofs.name_end.Goals as goal

pub returns : goal.returns
returns c = rw over_blank at c.run_end.ensures
