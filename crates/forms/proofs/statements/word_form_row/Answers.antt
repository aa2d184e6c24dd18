-- `word_form_row` is the machine's rows behind the words of statements, place by place.
use Rattle.controls.specs.Machinery.Numbers.{start_kind}
use Rattle.controls.specs.Machinery.Steps.{to_variable, to-test, past_head, past_test, past_for, past_subject}
use Rattle.forms.proofs.statements.word_form_row.Goals as goal

pub returns-in-HeadFirst : goal.returns-in-HeadFirst
returns-in-HeadFirst c = λ inside newline. rw c.in-HeadFirst.is (c.head_row.ensures _ past_head)

pub returns-in-VariableDue : goal.returns-in-VariableDue
unfolding start_kind
returns-in-VariableDue c = λ inside newline. rw c.in-VariableDue.is (c.only.ensures _ tt to_variable)

pub returns-in-BodyDone : goal.returns-in-BodyDone
returns-in-BodyDone c = λ inside newline. rw c.in-BodyDone.is (c.only-in-BodyDone.ensures _ tt to-test)

pub returns-in-TestFirst : goal.returns-in-TestFirst
returns-in-TestFirst c = λ inside newline. rw c.in-TestFirst.is (c.head_row-in-TestFirst.ensures _ past_test)

pub returns-in-ForFirst : goal.returns-in-ForFirst
returns-in-ForFirst c = λ inside newline. rw c.in-ForFirst.is (c.head_row-in-ForFirst.ensures _ past_for)

pub returns-in-SwitchFirst : goal.returns-in-SwitchFirst
returns-in-SwitchFirst c = λ inside newline. rw c.in-SwitchFirst.is (c.head_row-in-SwitchFirst.ensures _ past_subject)
