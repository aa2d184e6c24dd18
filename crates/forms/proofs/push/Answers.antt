-- `push` opens a group before the control.
use Rattle.controls.specs.Machinery.Steps.{means_push}
use Rattle.forms.proofs.push.Goals as goal

pub returns : goal.returns
returns c = λ from class opener spans. means_push opener spans
