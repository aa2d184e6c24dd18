-- Where an expression is due behind `return` or `throw`, and in the head of a `for`.
use mathlib.Core.Path.{◌≡◌, refl}
use mathlib.Core.Bool.{Bool, true, false, ◌&&◌, false≢true}
use mathlib.Core.List.{List}
use Prim.Native.Nat.{ℕ}
use Rattle.std.specs.Prelude.{Option, None}
use borrow.Author.Tests.{ne_eqb}
use lib.Dec.{T}
use Rattle.machine.specs.Tokens.{semicolon, var_word}
use Rattle.machine.specs.Machinery.Machine.{by_step, Control, return_first, throw_first, start_due, test_due, step_due, Entry, fail, look, operand, unless_line, row}
use Rattle.controls.specs.declared.Place.{Place}
use Rattle.controls.specs.declared.Place.TheVariants.{ReturnFirst, ThrowFirst, StartDue, TestDue, StepDue}
use Rattle.controls.specs.declared.Ending.{Ending}
use Rattle.controls.specs.declared.Setting.{Setting}
use Rattle.controls.specs.declared.Step.{Step}
use Rattle.controls.specs.Machinery.Numbers.{setting_by, ending_by, target_by, control_by}
use Rattle.controls.specs.Machinery.Steps.{Due, due_value, due_thrown, due_start, due_test, due_step, takes_prefix, Means, means_fail}
use Rattle.controls.proofs.EndLaws.{besides_closers}
use Rattle.forms.specs.Machinery.Places.{IsDue, bars_line, due_ending}
use Rattle.forms.proofs.FormLaws.{operand_closers}

-- a row that has nothing for a class has nothing on the next line
pub on_no_line : (class : ℕ) (newline : Bool) (entries : List Entry) → look class entries ≡ fail → look class (unless_line newline entries) ≡ fail
on_no_line class true entries none = refl
on_no_line class false entries none = none

module _ {class : ℕ} (ending : Ending) (setting : Setting) (flag newline : Bool) (no-semicolon : class ≡ semicolon → ⊥) where
  abbrev At : Option Step → Place → Type 0
  At step place = Means (control_by place ending setting flag) class step (look class (row (control_by place ending setting flag) newline))

  -- on the next line nothing comes behind `return` or `throw`
  pub barred : (place : Place) → IsDue place → (bars_line place && newline) ≡ true → At None place
  barred ReturnFirst due b = rw (b, ne_eqb class semicolon no-semicolon) means_fail
  barred ThrowFirst due b = rw b means_fail
  barred StartDue due b = absurd (false≢true b)
  barred TestDue due b = absurd (false≢true b)
  barred StepDue due b = absurd (false≢true b)
  barred _ due b = absurd due

  -- else an operand does
  pub operand-due : {step : Option Step} → (class ≡ var_word → ⊥) → (place : Place) → IsDue place → (bars_line place && newline) ≡ false
      → ((from : Control) (due : Due from (ending_by (due_ending place) setting) (target_by (due_ending place) true)) → T (takes_prefix due)
      → Means from class step (look class (operand (ending_by (due_ending place) setting) (target_by (due_ending place) true))))
      → At step place
  operand-due no-var ReturnFirst due b m = rw (b, ne_eqb class semicolon no-semicolon) (m (return_first (setting_by setting)) due_value tt)
  operand-due no-var ThrowFirst due b m = rw b (m (throw_first (setting_by setting)) due_thrown tt)
  operand-due no-var StartDue due b m = rw (ne_eqb class semicolon no-semicolon, ne_eqb class var_word no-var) (m start_due due_start tt)
  operand-due no-var TestDue due b m = rw (ne_eqb class semicolon no-semicolon) (m test_due due_test tt)
  operand-due {step} no-var StepDue due b m = besides_closers (m step_due due_step tt) (operand_closers by_step _ class) (λ none. rw none.no_paren)
  operand-due no-var _ due b m = absurd due
