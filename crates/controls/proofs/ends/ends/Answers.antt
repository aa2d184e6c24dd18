-- `ends` is what the machine's table has at a closer, place by place.
use mathlib.Core.Path.{◌≡◌, refl}
use mathlib.Core.Bool.{false}
use Rattle.controls.specs.declared.Place.{Place}
use Rattle.controls.specs.declared.Place.TheVariants.{StatementDue, OperandDone, PostfixDone, StepDue, ItemDue, ClauseDue, CatchNamed, ParameterDue, ParameterNamed}
use Rattle.controls.specs.Machinery.Numbers.{items_by}
use Rattle.controls.proofs.StepLaws.{after-unary}
use Rattle.controls.proofs.LevelEnds.{items_end, clauses_end, past_last, may_end, elsewhere}
use Rattle.controls.proofs.ends.ends.Goals as goal

no_end : (place : Place) → (place ≡ StatementDue → ⊥) → (place ≡ OperandDone → ⊥) → (place ≡ PostfixDone → ⊥) → (place ≡ StepDue → ⊥) → (place ≡ ItemDue → ⊥) → (place ≡ ClauseDue → ⊥) → (place ≡ CatchNamed → ⊥) → (place ≡ ParameterDue → ⊥) → (place ≡ ParameterNamed → ⊥) → may_end place ≡ false
no_end StatementDue a b c d e f g h i = absurd (a refl)
no_end OperandDone a b c d e f g h i = absurd (b refl)
no_end PostfixDone a b c d e f g h i = absurd (c refl)
no_end StepDue a b c d e f g h i = absurd (d refl)
no_end ItemDue a b c d e f g h i = absurd (e refl)
no_end ClauseDue a b c d e f g h i = absurd (f refl)
no_end CatchNamed a b c d e f g h i = absurd (g refl)
no_end ParameterDue a b c d e f g h i = absurd (h refl)
no_end ParameterNamed a b c d e f g h i = absurd (i refl)
no_end _ a b c d e f g h i = refl

pub returns-in-StatementDue : goal.returns-in-StatementDue
returns-in-StatementDue c = λ settled end. rw c.in-StatementDue.is (c.statements_end.ensures end)

pub returns-in-ItemDue : goal.returns-in-ItemDue
returns-in-ItemDue c = λ settled end.
    let a = c.args in
    rw (c.in-ItemDue.is, c.list_closer.ensures) (items_end a.closer end (items_by a.at.ending))

pub returns-in-ParameterDue : goal.returns-in-ParameterDue
returns-in-ParameterDue c = λ settled end. rw c.in-ParameterDue.is (c.parameters_end.ensures end)

pub returns-in-StepDue : goal.returns-in-StepDue
returns-in-StepDue c = λ settled end.
    let a = c.args in
    past_last a.closer end a.at.place a.at.ending a.at.setting a.at.flag c.in-StepDue.is

pub returns-in-ClauseDue : goal.returns-in-ClauseDue
returns-in-ClauseDue c = λ settled end. let a = c.args in rw c.in-ClauseDue.is (clauses_end a.closer end a.at.flag)

pub returns-in-OperandDone : goal.returns-in-OperandDone
returns-in-OperandDone c = λ settled end. after-unary c.args.at c.in-OperandDone.is (λ from ended. c.expression_ends.ensures from ended end)

pub returns-in_default : goal.returns-in_default
returns-in_default c = λ settled end.
    let a = c.args in
    let d = c.in_default in
    elsewhere a.closer end a.at.place a.at.ending a.at.setting a.at.flag settled
    (no_end a.at.place d.not-StatementDue d.not-OperandDone d.not-PostfixDone d.not-StepDue d.not-ItemDue d.not-ClauseDue d.not-CatchNamed d.not-ParameterDue d.not-ParameterNamed)
