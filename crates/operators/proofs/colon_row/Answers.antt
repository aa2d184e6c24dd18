-- `colon_row` is the entry of an ending, at `:`.
use Rattle.controls.specs.declared.Setting.TheVariants.{Body}
use Rattle.controls.specs.Machinery.Steps.{enters_case, enters_last_case, means_enter, means_fail, means_turn}
use Rattle.operators.proofs.EndingLaws.{colon_nowhere}
use Rattle.operators.proofs.colon_row.Goals as goal

pub returns-in-Colon : goal.returns-in-Colon
returns-in-Colon c = λ from ended. rw c.in-Colon.is (means_turn tt (rw c.in-Colon.is at ended))

pub returns-in-Case : goal.returns-in-Case
returns-in-Case c = λ from ended. rw c.in-Case.is (means_enter {setting = Body} tt (enters_case (rw c.in-Case.is at ended)))

pub returns-in-LastCase : goal.returns-in-LastCase
returns-in-LastCase c = λ from ended. rw c.in-LastCase.is (means_enter {setting = Body} tt (enters_last_case (rw c.in-LastCase.is at ended)))

pub returns-in_default : goal.returns-in_default
returns-in_default c = λ from ended.
    let at = c.args.at in
    let d = c.in_default in
    rw (colon_nowhere at.setting at.ending d.not-Colon d.not-Case d.not-LastCase) means_fail
