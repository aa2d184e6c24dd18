-- `statement_row` is the machine's row where a statement is due, entry by entry.
use mathlib.Core.Path.{◌∙◌}
use native.Mathlib.Omega.{arith}
use Rattle.machine.specs.Machinery.Machine.{statement_due}
use Rattle.controls.specs.Machinery.Numbers.{setting_by, start_kind}
use Rattle.controls.specs.Machinery.Steps.{due_statement, started_return, to_name, to_start, to_empty, past_block, enters_if, means_enter}
use Rattle.controls.proofs.StepLaws.{opens-group}
use Rattle.rows.proofs.RowLaws.{nothing_else, statement_operand, statement_word}
use Rattle.rows.proofs.statement_row.Goals as goal

pub returns-in-1 : goal.returns-in-1
returns-in-1 c = λ must' newline same. rw c.in-1.is (c.goto.ensures _ _ tt to_name)

pub returns-in-74-to-94 : goal.returns-in-74-to-94
returns-in-74-to-94 c = λ must' newline same.
    let a = c.args in
    rw (statement_word (omega arith) (omega arith) must' (setting_by a.at.setting) newline (λ h. same ∙ nothing_else a.class (λ e. omega (arith, e)) a.at.flag a.at.setting h))
    (c.word_row.ensures must' (λ e. omega (arith, e)))

pub returns-in-138 : goal.returns-in-138
returns-in-138 c = λ must' newline same. rw c.in-138.is (means_enter tt enters_if)

pub returns-in-136 : goal.returns-in-136
unfolding start_kind
returns-in-136 c = λ must' newline same. rw c.in-136.is (c.goto-in-136.ensures _ _ tt (to_start started_return))

pub returns-in-134 : goal.returns-in-134
returns-in-134 c = λ must' newline same. rw c.in-134.is (opens-group c.behind_statement.ensures tt past_block)

pub returns-in-130 : goal.returns-in-130
returns-in-130 c = λ must' newline same. rw c.in-130.is (c.end_statement.ensures _ _ tt to_empty)

pub returns-in_default : goal.returns-in_default
returns-in_default c = λ must' newline same.
    let a = c.args in
    statement_operand (omega arith) (omega arith) (omega arith) (omega arith) (omega arith) (omega arith) (λ word low high e. omega (arith, low, high, e)) must' (setting_by a.at.setting) newline
    (λ h. same ∙ nothing_else a.class (omega arith) a.at.flag a.at.setting h)
    (c.operand_row.ensures (statement_due must' (setting_by a.at.setting)) due_statement tt)
