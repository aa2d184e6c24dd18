-- `parameters_end` is what the row where a parameter is due has at a closer.
use mathlib.Core.Path.{refl}
use mathlib.Core.Bool.{true, false}
use Rattle.machine.specs.Tokens.{close_paren}
use Rattle.machine.specs.Machinery.Machine.{parameter_due}
use Rattle.controls.specs.Machinery.Steps.{ends_no_parameter, goes_on}
use Rattle.controls.proofs.EndLaws.{at_closers}
use Rattle.controls.proofs.LevelEnds.{EndsAt, no_closer_at}
use Rattle.controls.proofs.ends.parameters_end.Goals as goal

pub returns-then-not-must : goal.returns-then-not-must
returns-then-not-must c = λ end. let a = c.args in
    rw c.if-not-must.true
    (at_closers (EndsAt (parameter_due false) close_paren) ends_no_parameter goes_on goes_on goes_on a.closer end)

pub returns-else-not-must : goal.returns-else-not-must
returns-else-not-must c = λ end. let a = c.args in
    rw c.if-not-must.false (no_closer_at a.closer end (parameter_due true) refl refl refl refl)
