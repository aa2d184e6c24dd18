-- `binary_row` is the machine's row behind a Unary, at operators.
use mathlib.Core.Path.{refl, sym, ◌∙◌, subst}
use native.Mathlib.Omega.{arith}
use lib.Dec.{T}
use Rattle.machine.specs.Tokens.{question}
use Rattle.machine.specs.Machinery.Machine.{allows_in}
use Rattle.controls.specs.Machinery.Numbers.{ending_by}
use Rattle.controls.specs.Machinery.Steps.{to_operator, means_ask}
use Rattle.controls.proofs.EndLaws.{only_closers}
use Rattle.operators.proofs.EndingLaws.{among_by, binary_next, past_operators, none_next}
use Rattle.operators.proofs.binary_row.Goals as goal

pub returns-in-51 : goal.returns-in-51
returns-in-51 c = λ few from ended. rw c.in-51.is (c.in_operator_row.ensures from ended)

pub returns-in_default : goal.returns-in_default
returns-in_default c = λ few from ended.
    let a = c.args in
    let ending = ending_by a.at.ending a.at.setting in
    let is = sym c.is_binary.ensures ∙ c.if-is_binary.true in
    let o = binary_next a.class (omega arith) ending is in
    rw o.0
    (c.behind_operator.ensures _ _ o.1 (to_operator (subst T (sym (among_by a.class (omega arith) (allows_in ending) ∙ is)) tt) ended))

pub returns-in-61 : goal.returns-in-61
returns-in-61 c = λ few from ended.
    let a = c.args in
    rw (c.in-61.is, past_operators question (λ e. omega (arith, e)) (ending_by a.at.ending a.at.setting) refl) (means_ask tt ended)

pub returns-in_default-2 : goal.returns-in_default-2
returns-in_default-2 c = λ few from ended.
    let a = c.args in
    let none = sym c.is_binary.ensures ∙ c.if-is_binary.false in
    only_closers (none_next a.class (omega arith) (ending_by a.at.ending a.at.setting) none (λ e. omega (arith, few)) (λ e. omega (arith, few)) (omega arith) (λ e. omega (arith, few)))
