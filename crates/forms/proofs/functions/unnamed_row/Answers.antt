-- `unnamed_row` is the machine's row behind `function` in an expression.
use native.Mathlib.Omega.{arith}
use borrow.Author.Tests.{ne_eqb}
use Rattle.machine.specs.Tokens.{name, open_paren}
use Rattle.controls.specs.Machinery.Steps.{to_function_name, past_unnamed, means_fail}
use Rattle.forms.proofs.functions.unnamed_row.Goals as goal

pub returns-in-1 : goal.returns-in-1
returns-in-1 c = rw c.in-1.is (c.goto.ensures _ _ tt to_function_name)

pub returns-in-132 : goal.returns-in-132
returns-in-132 c = rw c.in-132.is (c.push.ensures _ _ tt past_unnamed)

pub returns-in_default : goal.returns-in_default
returns-in_default c = let class = c.args.class in rw (ne_eqb class name (omega arith), ne_eqb class open_paren (omega arith)) means_fail
