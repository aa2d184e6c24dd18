-- `head_variable_row` is the machine's row where an expression is due, at `var`.
use mathlib.Core.Path.{◌≡◌, refl}
use mathlib.Core.Bool.{Bool}
use Rattle.std.specs.Prelude.{None}
use Rattle.machine.specs.Tokens.{var_word}
use Rattle.machine.specs.Machinery.Machine.{some_target, by_return, look, operand, row}
use Rattle.controls.specs.declared.Place.{Place}
use Rattle.controls.specs.declared.Place.TheVariants.{ReturnFirst, ThrowFirst, StartDue, TestDue, StepDue}
use Rattle.controls.specs.declared.Ending.{Ending}
use Rattle.controls.specs.declared.Setting.{Setting}
use Rattle.controls.specs.Machinery.Numbers.{setting_by, control_by, start_kind}
use Rattle.controls.specs.Machinery.Steps.{to_head_variable, Means, means_fail}
use Rattle.forms.specs.Machinery.Places.{IsDue}
use Rattle.rows.proofs.DueLaws.{on_no_line}
use Rattle.rows.proofs.head_variable_row.Goals as goal

module _ (ending : Ending) (setting : Setting) (flag newline : Bool) where
  none : (place : Place) → IsDue place → (place ≡ StartDue → ⊥)
      → Means (control_by place ending setting flag) var_word None (look var_word (row (control_by place ending setting flag) newline))
  none ReturnFirst due other = rw (on_no_line var_word newline (operand (by_return (setting_by setting)) some_target) refl) means_fail
  none ThrowFirst due other = rw (on_no_line var_word newline (operand (by_return (setting_by setting)) some_target) refl) means_fail
  none StartDue due other = absurd (other refl)
  none TestDue due other = means_fail
  none StepDue due other = means_fail
  none _ due other = absurd due

pub returns-in-StartDue : goal.returns-in-StartDue
unfolding start_kind
returns-in-StartDue c = λ due newline. rw c.in-StartDue.is (c.goto.ensures _ _ tt to_head_variable)

pub returns-in_default : goal.returns-in_default
returns-in_default c = λ due newline.
    let at = c.args.at in
    none at.ending at.setting at.flag newline at.place due c.in_default.not-StartDue
