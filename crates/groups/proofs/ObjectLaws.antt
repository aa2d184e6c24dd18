-- Where what stands behind the `in` of a `for` has ended.
use mathlib.Core.Path.{◌≡◌, refl}
use mathlib.Core.Bool.{Bool, false}
use Rattle.controls.specs.Machinery.Numbers.{ending_by, control_by}
use Rattle.controls.specs.declared.Place as places
use Rattle.controls.specs.declared.Place.TheVariants as stand
use Rattle.controls.specs.declared.Setting as codes
use Rattle.controls.specs.declared.Ending as endings
use Rattle.controls.specs.declared.Ending.TheVariants as by
use Rattle.groups.specs.Machinery.Closers.{is_by_object, is_object}

other_ending : (ending : endings.Ending) (setting : codes.Setting) → (ending ≡ by.Object → ⊥) → is_by_object (ending_by ending setting) ≡ false
other_ending by.Object setting other = absurd (other refl)
other_ending _ setting other = refl

pub no_object : (place : places.Place) (ending : endings.Ending) (setting : codes.Setting) (flag : Bool) → (ending ≡ by.Object → ⊥) → is_object (control_by place ending setting flag) ≡ false
no_object stand.OperandDone ending setting flag other = other_ending ending setting other
no_object stand.PostfixDone ending setting flag other = other_ending ending setting other
no_object _ ending setting flag other = refl

pub no_operand : (place : places.Place) (ending : endings.Ending) (setting : codes.Setting) (flag : Bool) → (place ≡ stand.OperandDone → ⊥) → (place ≡ stand.PostfixDone → ⊥)
    → is_object (control_by place ending setting flag) ≡ false
no_operand stand.OperandDone ending setting flag operand postfix = absurd (operand refl)
no_operand stand.PostfixDone ending setting flag operand postfix = absurd (postfix refl)
no_operand _ ending setting flag operand postfix = refl
