-- `end_statement` goes to `behind_statement`.
use Rattle.controls.proofs.StepLaws.{goes}
use Rattle.operators.proofs.end_statement.Goals as goal

pub returns : goal.returns
returns c = λ from class single leads. goes c.behind_statement.ensures single leads
