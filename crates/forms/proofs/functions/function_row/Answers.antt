-- `function_row` is the machine's rows of parameters and of functions, place by place.
use Prim.Native.Nat.{ℕ}
use mathlib.Core.Path.{◌≡◌, refl}
use mathlib.Core.List.{[], ◌∷◌}
use Rattle.machine.specs.Tokens.{name}
use Rattle.machine.specs.Machinery.Machine.{keep, parameter_named, fail, goto, on, look}
use Rattle.controls.specs.Machinery.Steps.{to-parameter, past_parameter, past_function}
use Rattle.controls.proofs.EndLaws.{at_closers, besides_closers}
use Rattle.forms.proofs.FormLaws.{parameter_closers}
use Rattle.forms.proofs.functions.function_row.Goals as goal

pub returns-in-ParameterDue : goal.returns-in-ParameterDue
returns-in-ParameterDue c = λ inside newline.
    let a = c.args in
    rw c.in-ParameterDue.is
    (besides_closers (c.only.ensures _ tt to-parameter)
    (at_closers (λ (k : ℕ). look k (on name (goto parameter_named keep) ∷ []) ≡ fail) refl refl refl refl a.class)
    (λ none. rw (parameter_closers a.at.flag none)))

pub returns-in-FunctionNamed : goal.returns-in-FunctionNamed
returns-in-FunctionNamed c = λ inside newline. rw c.in-FunctionNamed.is (c.opens.ensures _ tt past_parameter)

pub returns-in-ParameterPast : goal.returns-in-ParameterPast
returns-in-ParameterPast c = λ inside newline. rw c.in-ParameterPast.is (c.opens-in-ParameterPast.ensures _ tt past_function)
