-- `declaration_row` is the entry of a place that needs no statement, at `function`.
use mathlib.Core.Path.{◌≡◌, refl}
use Rattle.machine.specs.Tokens.{function_word}
use Rattle.machine.specs.Machinery.Machine.{fail, look, no_statement}
use Rattle.controls.specs.Machinery.Numbers.{setting_by}
use Rattle.controls.specs.Machinery.Steps.{to-declaration, means_fail}
use Rattle.rows.proofs.RowLaws.{below_body, declares}
use Rattle.rows.proofs.declaration_row.Goals as goal

pub returns-then-at : goal.returns-then-at
returns-then-at c = λ must' same.
    let none : look function_word (no_statement must' (setting_by c.args.at.setting)) ≡ fail = rw c.if-at.true at same in
    rw none means_fail

pub returns-in-Body : goal.returns-in-Body
returns-in-Body c = λ must' same. rw c.in-Body.is (declares (c.goto.ensures _ _ tt to-declaration) must' (rw (c.if-at.false, c.in-Body.is) at same))

pub returns-in_default : goal.returns-in_default
returns-in_default c = λ must' same.
    rw (same, c.if-at.false, below_body function_word refl c.args.at.setting c.in_default.not-Body) means_fail
