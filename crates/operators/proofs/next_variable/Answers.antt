-- `next_variable` goes to a later variable.
use Rattle.operators.proofs.EndingLaws.{later_same}
use Rattle.operators.proofs.next_variable.Goals as goal

pub returns-in-FirstVariable : goal.returns-in-FirstVariable
returns-in-FirstVariable c = rw c.in-FirstVariable.is c.goto.ensures

pub returns-in_default : goal.returns-in_default
returns-in_default c = let at = c.args.at in
    rw (later_same at.setting at.ending c.in_default.not-FirstVariable) c.goto-in_default.ensures
