-- `variable_in_row` is the machine's row behind the name of a variable, at `in`.
use Rattle.controls.specs.Machinery.Steps.{ended_bare, before_variable, to-object, means_fail}
use Rattle.operators.proofs.EndingLaws.{not_first}
use Rattle.rows.proofs.variable_in_row.Goals as goal

pub returns-in-FirstVariable : goal.returns-in-FirstVariable
returns-in-FirstVariable c = rw c.in-FirstVariable.is (c.in_row.ensures _ _ tt (to-object (before_variable ended_bare)))

pub returns-in_default : goal.returns-in_default
returns-in_default c = let at = c.args.at in rw (not_first at.setting at.ending c.in_default.not-FirstVariable) means_fail
