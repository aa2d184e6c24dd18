-- `value_row` is the machine's row behind the name of a property.
use Rattle.controls.specs.Machinery.Steps.{to_value}
use Rattle.forms.proofs.value_row.Goals as goal

pub returns : goal.returns
returns c = c.only.ensures _ tt to_value
