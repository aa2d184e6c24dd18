-- `expression_ends` is what the row behind a Unary has at a closer.
use mathlib.Core.Path.{◌≡◌, refl}
use mathlib.Core.Logic.{⊎_elim}
use lib.Dec.{T}
use Rattle.machine.specs.Scopes.{call_arguments, array_elements, object_properties}
use Rattle.controls.specs.declared.Setting.{Setting}
use Rattle.controls.specs.declared.Ending.{Ending}
use Rattle.controls.specs.declared.Ending.TheVariants.{Step, Object, Paren, Bracket, Argument, Element, Property}
use Rattle.controls.specs.Machinery.Numbers.{ending_by}
use Rattle.controls.proofs.LevelEnds.{spares, parens_end, bracket_ends, item_ends, none_ends}
use Rattle.controls.proofs.ends.expression_ends.Goals as goal

no_end : (ending : Ending) (setting : Setting) → (ending ≡ Step → ⊥) → (ending ≡ Object → ⊥) → (ending ≡ Paren → ⊥) → (ending ≡ Bracket → ⊥) → (ending ≡ Argument → ⊥) → (ending ≡ Element → ⊥) → (ending ≡ Property → ⊥) → T (spares (ending_by ending setting))
no_end Step setting a b c d e f g = absurd (a refl)
no_end Object setting a b c d e f g = absurd (b refl)
no_end Paren setting a b c d e f g = absurd (c refl)
no_end Bracket setting a b c d e f g = absurd (d refl)
no_end Argument setting a b c d e f g = absurd (e refl)
no_end Element setting a b c d e f g = absurd (f refl)
no_end Property setting a b c d e f g = absurd (g refl)
no_end _ setting a b c d e f g = tt

pub returns-in-Step : goal.returns-in-Step
returns-in-Step c = λ from ended end. let a = c.args in parens_end a.closer end a.ending a.setting c.in-Step.is ended

pub returns-in-Bracket : goal.returns-in-Bracket
returns-in-Bracket c = λ from ended end. bracket_ends c.args.closer end (rw c.in-Bracket.is at ended)

pub returns-in-Argument : goal.returns-in-Argument
returns-in-Argument c = λ from ended end.
    let a = c.args in
    rw c.list_closer.ensures
    (⊎_elim (λ e. rw e (item_ends a.closer end call_arguments (rw e at ended)))
    (⊎_elim (λ e. rw e (item_ends a.closer end array_elements (rw e at ended))) (λ e. rw e (item_ends a.closer end object_properties (rw e at ended)))) c.in-Argument.is)

pub returns-in_default : goal.returns-in_default
returns-in_default c = λ from ended end.
    let a = c.args in
    let d = c.in_default in
    none_ends a.closer end ended (no_end a.ending a.setting d.not-Step d.not-Object d.not-Paren d.not-Bracket d.not-Argument d.not-Element d.not-Property)
