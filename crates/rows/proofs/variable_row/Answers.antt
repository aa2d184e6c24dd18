-- `variable_row` is the machine's row behind the name of a variable, entry by entry.
use native.Mathlib.Omega.{arith}
use mathlib.Core.List.{[]}
use borrow.Author.Tests.{ne_eqb}
use Rattle.machine.specs.Tokens.{assign, semicolon, comma}
use Rattle.machine.specs.Machinery.Machine.{is_first}
use Rattle.controls.specs.Machinery.Numbers.{variables_by}
use Rattle.controls.specs.Machinery.Steps.{ended_bare, to_initialiser, to_next_variable, to_variables_end, means_fail}
use Rattle.operators.proofs.EndingLaws.{no_in_entry}
use Rattle.rows.proofs.variable_row.Goals as goal

pub returns-in-12 : goal.returns-in-12
returns-in-12 c = let ending = c.variable_ending.ensures in
    rw c.in-12.is ((rw (ending.same c.args.at.setting, ending.target) at c.goto.ensures) _ _ tt to_initialiser)

pub returns-in-73 : goal.returns-in-73
returns-in-73 c = rw c.in-73.is (c.next_variable.ensures _ _ tt (to_next_variable ended_bare))

pub returns-in-130 : goal.returns-in-130
returns-in-130 c = rw c.in-130.is (c.variables_end.ensures _ _ tt (to_variables_end ended_bare))

pub returns-in_default : goal.returns-in_default
returns-in_default c =
    let a = c.args in
    rw (ne_eqb a.class assign (omega arith), ne_eqb a.class semicolon (omega arith), ne_eqb a.class comma (omega arith), no_in_entry a.class (omega arith) (is_first (variables_by a.at.ending a.at.setting)) [])
    means_fail
