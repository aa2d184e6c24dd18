-- `due_row` is the machine's row where an expression is due, by the class.
use native.Mathlib.Omega.{arith}
use mathlib.Core.Path.{sym, ◌∙◌}
use Rattle.rows.proofs.DueLaws.{barred, operand-due}
use Rattle.rows.proofs.due_row.Goals as goal

pub returns-in-130 : goal.returns-in-130
returns-in-130 c = λ due. rw c.in-130.is (c.left_out_row.ensures due c.args.newline)

pub returns-in-74 : goal.returns-in-74
returns-in-74 c = λ due. rw c.in-74.is (c.head_variable_row.ensures due c.args.newline)

pub returns-in_default : goal.returns-in_default
returns-in_default c = λ due.
    let at = c.args.at in
    barred at.ending at.setting at.flag c.args.newline (omega arith) at.place due (sym c.bars_line.ensures ∙ c.if-bars_line.true)

pub returns-in_default-2 : goal.returns-in_default-2
returns-in_default-2 c = λ due.
    let at = c.args.at in
    operand-due at.ending at.setting at.flag c.args.newline (omega arith) (omega arith) at.place due (sym c.bars_line.ensures ∙ c.if-bars_line.false)
    (rw c.due_ending.ensures at c.operand_row.ensures)
