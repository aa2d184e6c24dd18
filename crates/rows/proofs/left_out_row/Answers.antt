-- `left_out_row` is the machine's row where an expression is due, at `;`.
use mathlib.Core.Path.{◌≡◌, refl}
use mathlib.Core.Bool.{Bool}
use Rattle.std.specs.Prelude.{None}
use Rattle.machine.specs.Tokens.{semicolon}
use Rattle.machine.specs.Machinery.Machine.{some_target, by_return, look, operand, row}
use Rattle.controls.specs.declared.Place.{Place}
use Rattle.controls.specs.declared.Place.TheVariants.{ReturnFirst, ThrowFirst, StartDue, TestDue, StepDue}
use Rattle.controls.specs.declared.Ending.{Ending}
use Rattle.controls.specs.declared.Setting.{Setting}
use Rattle.controls.specs.Machinery.Numbers.{setting_by, control_by}
use Rattle.controls.specs.Machinery.Steps.{no_start, no_test, to_next_part, to_bare_end, Means, means_fail}
use Rattle.forms.specs.Machinery.Places.{IsDue}
use Rattle.rows.proofs.DueLaws.{on_no_line}
use Rattle.rows.proofs.left_out_row.Goals as goal

module _ (ending : Ending) (setting : Setting) (flag newline : Bool) where
  none : (place : Place) → IsDue place → (place ≡ ReturnFirst → ⊥) → (place ≡ StartDue → ⊥) → (place ≡ TestDue → ⊥)
      → Means (control_by place ending setting flag) semicolon None (look semicolon (row (control_by place ending setting flag) newline))
  none ReturnFirst due no_value no-start no-test = absurd (no_value refl)
  none ThrowFirst due no_value no-start no-test = rw (on_no_line semicolon newline (operand (by_return (setting_by setting)) some_target) refl) means_fail
  none StartDue due no_value no-start no-test = absurd (no-start refl)
  none TestDue due no_value no-start no-test = absurd (no-test refl)
  none StepDue due no_value no-start no-test = means_fail
  none _ due no_value no-start no-test = absurd due

pub returns-in-ReturnFirst : goal.returns-in-ReturnFirst
returns-in-ReturnFirst c = λ due newline. rw c.in-ReturnFirst.is (c.end_statement.ensures _ _ tt to_bare_end)

pub returns-in-StartDue : goal.returns-in-StartDue
returns-in-StartDue c = λ due newline. rw c.in-StartDue.is (c.goto.ensures _ _ tt (to_next_part no_start))

pub returns-in-TestDue : goal.returns-in-TestDue
returns-in-TestDue c = λ due newline. rw c.in-TestDue.is (c.goto-in-TestDue.ensures _ _ tt (to_next_part no_test))

pub returns-in_default : goal.returns-in_default
returns-in_default c = λ due newline.
    let at = c.args.at in
    let d = c.in_default in
    none at.ending at.setting at.flag newline at.place due d.not-ReturnFirst d.not-StartDue d.not-TestDue
