-- `condition_row` is a row of one entry.
use Rattle.controls.specs.Machinery.Steps.{past_condition}
use Rattle.forms.proofs.condition_row.Goals as goal

pub returns : goal.returns
returns c = c.head_row.ensures _ past_condition
