-- `operation_row` is the machine's row behind an operand, at operators.
use mathlib.Core.Path.{sym, ◌∙◌}
use Rattle.controls.specs.Machinery.Numbers.{ending_by, target_by}
use Rattle.operators.proofs.ChainLaws.{behind-unary, assigns, heads, increments, operator_next}
use Rattle.operators.proofs.operation_row.Goals as goal

pub returns-then-takes_assignment : goal.returns-then-takes_assignment
returns-then-takes_assignment c = λ few.
    let a = c.args in
    assigns a.class a.at.ending a.at.setting few a.newline a.chain a.at.flag c.behind_assignment.ensures (sym c.takes_assignment.ensures ∙ c.if-takes_assignment.true)

pub returns-then-takes_in : goal.returns-then-takes_in
returns-then-takes_in c = λ few.
    let a = c.args in
    heads a.class a.at.ending a.at.setting few a.newline a.chain a.at.flag c.in_row.ensures (sym c.takes_in.ensures ∙ c.if-takes_in.true)

pub returns-then-takes_postfix : goal.returns-then-takes_postfix
returns-then-takes_postfix c = λ few.
    let a = c.args in
    increments a.class a.at.ending a.at.setting few a.newline a.chain a.at.flag c.goto.ensures (sym c.takes_postfix.ensures ∙ c.if-takes_postfix.true)

pub returns : goal.returns
returns c = λ few.
    let a = c.args in
    behind-unary (ending_by a.at.ending a.at.setting) (target_by a.at.ending a.at.flag) a.newline a.chain
    (operator_next a.class a.at.ending a.at.setting few a.newline a.chain a.at.flag (sym c.takes_assignment.ensures ∙ c.if-takes_assignment.false) (sym c.takes_in.ensures ∙ c.if-takes_in.false) (sym c.takes_postfix.ensures ∙ c.if-takes_postfix.false))
    (c.binary_row.ensures few)
