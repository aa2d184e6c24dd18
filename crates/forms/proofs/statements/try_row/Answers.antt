-- `try_row` is the machine's rows of clauses and of `try`, place by place.
use Rattle.controls.specs.Machinery.Steps.{to_caught, past_tried, past_caught, past_handled, past_finally}
use Rattle.controls.proofs.EndLaws.{only_closers}
use Rattle.forms.proofs.statements.try_row.Goals as goal

pub returns-in-TryFirst : goal.returns-in-TryFirst
returns-in-TryFirst c = λ inside newline. rw c.in-TryFirst.is (c.block_row.ensures _ past_tried)

pub returns-in-CatchFirst : goal.returns-in-CatchFirst
returns-in-CatchFirst c = λ inside newline. rw c.in-CatchFirst.is (c.head_row.ensures _ past_caught)

pub returns-in-CatchDue : goal.returns-in-CatchDue
returns-in-CatchDue c = λ inside newline. rw c.in-CatchDue.is (c.only.ensures _ tt to_caught)

pub returns-in-CatchPast : goal.returns-in-CatchPast
returns-in-CatchPast c = λ inside newline. rw c.in-CatchPast.is (c.block_row-in-CatchPast.ensures _ past_handled)

pub returns-in-FinallyFirst : goal.returns-in-FinallyFirst
returns-in-FinallyFirst c = λ inside newline. rw c.in-FinallyFirst.is (c.block_row-in-FinallyFirst.ensures _ past_finally)

pub returns-in-CatchNamed : goal.returns-in-CatchNamed
returns-in-CatchNamed c = λ inside newline. rw c.in-CatchNamed.is (only_closers (λ none. rw none.no_paren))
