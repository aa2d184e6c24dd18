-- `next_parameter` is the machine's row behind a parameter.
use Prim.Native.Nat.{ℕ}
use mathlib.Core.Path.{◌≡◌, refl}
use mathlib.Core.Bool.{true}
use mathlib.Core.List.{[], ◌∷◌}
use Rattle.machine.specs.Tokens.{comma}
use Rattle.machine.specs.Machinery.Machine.{keep, parameter_due, fail, goto, on, look}
use Rattle.controls.specs.Machinery.Steps.{to_next_parameter}
use Rattle.controls.proofs.EndLaws.{at_closers, besides_closers}
use Rattle.forms.proofs.functions.next_parameter.Goals as goal

pub returns : goal.returns
returns c =
    besides_closers (c.only.ensures _ tt to_next_parameter)
    (at_closers (λ (k : ℕ). look k (on comma (goto (parameter_due true) keep) ∷ []) ≡ fail) refl refl refl refl c.args.class)
    (λ none. rw none.no_paren)
