-- `case_row` goes to the value of a `case`, by whether a `default` has come.
use Rattle.forms.proofs.statements.case_row.Goals as goal
use Rattle.forms.proofs.statements.case_row.Goals.{then-at, else-at}

pub returns : goal.returns
returns c = elim c.if-at.branch [ then-at w ↦ rw w.if-at.true (rw w.ending-is at c.goto.ensures) | else-at w ↦ rw w.if-at.false (rw w.ending-is at c.goto.ensures) ]
