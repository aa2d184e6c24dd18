-- `digits_end` is `run_end` at the limit of its class.
use Rattle.text.proofs.CodeLaws.{over_letter}
use Rattle.runs.proofs.digits_end.Goals as goal

pub returns : goal.returns
returns c = rw over_letter at c.run_end.ensures
