-- `switch_row` is a row of one entry.
use native.Mathlib.Omega.{arith}
use borrow.Author.Tests.{ne_eqb}
use Rattle.machine.specs.Tokens.{open_brace}
use Rattle.controls.specs.Machinery.Steps.{past_clauses, means_fail}
use Rattle.controls.proofs.StepLaws.{opens-group}
use Rattle.forms.proofs.statements.switch_row.Goals as goal

pub returns-in-134 : goal.returns-in-134
returns-in-134 c = rw c.in-134.is (opens-group c.behind_statement.ensures tt past_clauses)

pub returns-in_default : goal.returns-in_default
returns-in_default c = rw (ne_eqb c.args.class open_brace (omega arith)) means_fail
