-- `label_row` is the machine's row behind a name that is a label.
use Rattle.controls.specs.Machinery.Numbers.{setting_by}
use Rattle.controls.specs.Machinery.Steps.{to_label}
use Rattle.forms.proofs.FormLaws.{label_row}
use Rattle.forms.proofs.label_row.Goals as goal

pub returns : goal.returns
returns c = λ colon newline. let a = c.args in rw (label_row a.class (setting_by a.at.setting) newline colon) (c.only.ensures _ tt to_label)
