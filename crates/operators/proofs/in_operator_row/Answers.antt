-- `in_operator_row` is the machine's row behind a Unary, at `in`.
use mathlib.Core.Logic.{⊎_elim}
use Rattle.controls.specs.Machinery.Numbers.{ending_by}
use Rattle.controls.specs.Machinery.Steps.{ended_value, before_variable, to_operator, to-object, means_fail}
use Rattle.operators.proofs.EndingLaws.{allowed_in, in_next}
use Rattle.operators.proofs.in_operator_row.Goals as goal

pub returns-in-FirstVariable : goal.returns-in-FirstVariable
returns-in-FirstVariable c = λ from ended.
    rw c.in-FirstVariable.is (c.in_row.ensures _ _ tt (to-object (before_variable (ended_value (rw c.in-FirstVariable.is at ended)))))

pub returns-in-LaterVariable : goal.returns-in-LaterVariable
returns-in-LaterVariable c = λ from ended.
    ⊎_elim (λ e. rw e means_fail) (⊎_elim (λ e. rw e means_fail) (λ e. rw e means_fail)) c.in-LaterVariable.is

pub returns-in_default : goal.returns-in_default
returns-in_default c = λ from ended.
    let at = c.args.at in
    let d = c.in_default in
    let o = in_next (ending_by at.ending at.setting) (allowed_in at.setting at.ending d.not-FirstVariable d.not-LaterVariable d.not-LoneStart d.not-Start) in
    rw o.0 (c.behind_operator.ensures _ _ tt (to_operator o.1 ended))
