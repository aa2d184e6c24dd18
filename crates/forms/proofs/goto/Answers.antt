-- `goto` goes to the control.
use Rattle.controls.specs.Machinery.Steps.{means_goto}
use Rattle.forms.proofs.goto.Goals as goal

pub returns : goal.returns
returns c = λ from class single leads. means_goto single leads
