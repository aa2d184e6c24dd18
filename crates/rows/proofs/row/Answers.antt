-- `row` is the machine's table, place by place.
use mathlib.Core.Logic.{⊎_elim}
use mathlib.Core.Path.{refl}
use mathlib.Core.Bool.{false, or-true}
use Rattle.controls.specs.Machinery.Numbers.{must_by}
use Rattle.controls.specs.Machinery.Steps.{due_operand, to_semicolon}
use Rattle.rows.proofs.RowLaws.{clause_goes_on}
use Rattle.rows.proofs.row.Goals as goal

pub returns-in-OperandDue : goal.returns-in-OperandDue
returns-in-OperandDue c = λ settled. rw c.in-OperandDue.is (c.operand_row.ensures _ due_operand tt)

pub returns-in-SemicolonDue : goal.returns-in-SemicolonDue
returns-in-SemicolonDue c = λ settled. rw c.in-SemicolonDue.is (c.semicolon_due.ensures _ to_semicolon)

pub returns-in-StatementDue : goal.returns-in-StatementDue
returns-in-StatementDue c = λ settled.
    let a = c.args in
    let at = a.at in
    let setting = c.statement_setting.ensures in
    ⊎_elim
    (λ e. rw e ((rw (setting.due e) at c.statement_row.ensures) (must_by at.flag at.setting) a.newline refl))
    (λ e.
    let goes_on = settled.no_clause e in
    rw e ((rw (setting.another e) at c.statement_row.ensures) false a.newline (rw (or-true at.flag) (clause_goes_on a.class goes_on.0 goes_on.1 goes_on.2))))
    c.in-StatementDue.is
