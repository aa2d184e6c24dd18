-- `comma_row` is the entry of an ending, at `,`.
use mathlib.Core.Logic.{⊎_elim}
use Rattle.controls.specs.Machinery.Numbers.{ending_by}
use Rattle.controls.specs.Machinery.Steps.{ended_value, to_comma, to_item_end, to_next_variable, means_fail}
use Rattle.operators.proofs.EndingLaws.{comma_taken, comma_operator}
use Rattle.operators.proofs.comma_row.Goals as goal

pub returns-in-Argument : goal.returns-in-Argument
returns-in-Argument c = λ from ended.
    let e = c.in-Argument.is in
    rw e ((rw e at c.goto.ensures) _ _ tt (to_item_end (rw e at ended)))

pub returns-in-Element : goal.returns-in-Element
returns-in-Element c = λ from ended.
    ⊎_elim
    (λ e. rw e ((rw e at c.goto-in-Element.ensures) _ _ tt (to_item_end (rw e at ended))))
    (λ e. rw e ((rw e at c.goto-in-Element.ensures) _ _ tt (to_item_end (rw e at ended))))
    c.in-Element.is

pub returns-in-Variable : goal.returns-in-Variable
returns-in-Variable c = λ from ended.
    ⊎_elim
    (λ e. rw e ((rw e at c.next_variable.ensures) _ _ tt (to_next_variable (ended_value (rw e at ended)))))
    (⊎_elim
    (λ e. rw e ((rw e at c.next_variable.ensures) _ _ tt (to_next_variable (ended_value (rw e at ended)))))
    (λ e. rw e ((rw e at c.next_variable.ensures) _ _ tt (to_next_variable (ended_value (rw e at ended))))))
    c.in-Variable.is

pub returns-in-Colon : goal.returns-in-Colon
returns-in-Colon c = λ from ended. rw c.in-Colon.is means_fail

pub returns-in_default : goal.returns-in_default
returns-in_default c = λ from ended.
    let at = c.args.at in
    let d = c.in_default in
    let t = comma_taken at.setting at.ending d.not-Variable d.not-FirstVariable d.not-LaterVariable d.not-Colon d.not-Argument d.not-Element d.not-Property in
    rw (comma_operator (ending_by at.ending at.setting) t) (c.behind_assignment.ensures _ _ tt (to_comma t ended))
