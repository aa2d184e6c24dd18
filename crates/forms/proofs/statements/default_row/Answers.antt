-- `default_row` is a row of one entry.
use native.Mathlib.Omega.{arith}
use borrow.Author.Tests.{ne_eqb}
use Rattle.machine.specs.Tokens.{colon}
use Rattle.controls.specs.declared.Setting.TheVariants.{Body}
use Rattle.controls.specs.Machinery.Steps.{enters_default, means_enter, means_fail}
use Rattle.forms.proofs.statements.default_row.Goals as goal

pub returns-in-129 : goal.returns-in-129
returns-in-129 c = rw c.in-129.is (means_enter {setting = Body} tt enters_default)

pub returns-in_default : goal.returns-in_default
returns-in_default c = rw (ne_eqb c.args.class colon (omega arith)) means_fail
