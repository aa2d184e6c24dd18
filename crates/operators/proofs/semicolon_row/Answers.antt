-- `semicolon_row` is the entry of an ending, at `;`.
use mathlib.Core.Logic.{⊎_elim}
use Rattle.controls.specs.Machinery.Steps.{ended_value, ended_start, ended_test, to_end, to_return_end, to_variables_end, to_next_part, means_fail}
use Rattle.operators.proofs.EndingLaws.{semicolon_nowhere}
use Rattle.operators.proofs.semicolon_row.Goals as goal

pub returns-in-Statement : goal.returns-in-Statement
returns-in-Statement c = λ from ended. rw c.in-Statement.is (c.end_statement.ensures _ _ tt (to_end (rw c.in-Statement.is at ended)))

pub returns-in-Return : goal.returns-in-Return
returns-in-Return c = λ from ended. rw c.in-Return.is (c.end_statement-in-Return.ensures _ _ tt (to_return_end (rw c.in-Return.is at ended)))

pub returns-in-Variable : goal.returns-in-Variable
returns-in-Variable c = λ from ended.
    ⊎_elim
    (λ e. rw e ((rw e at c.variables_end.ensures) _ _ tt (to_variables_end (ended_value (rw e at ended)))))
    (⊎_elim
    (λ e. rw e ((rw e at c.variables_end.ensures) _ _ tt (to_variables_end (ended_value (rw e at ended)))))
    (λ e. rw e ((rw e at c.variables_end.ensures) _ _ tt (to_variables_end (ended_value (rw e at ended))))))
    c.in-Variable.is

pub returns-in-LoneStart : goal.returns-in-LoneStart
returns-in-LoneStart c = λ from ended.
    ⊎_elim
    (λ e. rw e (c.goto.ensures _ _ tt (to_next_part (ended_start (rw e at ended)))))
    (λ e. rw e (c.goto.ensures _ _ tt (to_next_part (ended_start (rw e at ended)))))
    c.in-LoneStart.is

pub returns-in-Test : goal.returns-in-Test
returns-in-Test c = λ from ended. rw c.in-Test.is (c.goto-in-Test.ensures _ _ tt (to_next_part (ended_test (rw c.in-Test.is at ended))))

pub returns-in_default : goal.returns-in_default
returns-in_default c = λ from ended.
    let at = c.args.at in
    let d = c.in_default in
    rw (semicolon_nowhere at.setting at.ending d.not-Statement d.not-Return d.not-Variable d.not-FirstVariable d.not-LaterVariable d.not-LoneStart d.not-Start d.not-Test) means_fail
