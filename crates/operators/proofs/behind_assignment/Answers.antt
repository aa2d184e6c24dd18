-- `behind_assignment` goes to an operand that may be assigned to, by another form of the same ending.
use Rattle.operators.proofs.EndingLaws.{some-target}
use Rattle.operators.proofs.behind_assignment.Goals as goal

pub returns : goal.returns
returns c = let past = c.past_start.ensures in
    rw (past.1 c.args.at.setting, some-target c.past_start.result past.0) at c.goto.ensures
