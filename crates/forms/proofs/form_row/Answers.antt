-- `form_row` is the machine's rows inside forms, place by place.
use Rattle.controls.specs.Machinery.Numbers.{start_kind}
use Rattle.controls.specs.Machinery.Steps.{due_member, to_member, to_else, to_finally_behind}
use Rattle.forms.proofs.form_row.Goals as goal

pub returns-in-DotLast : goal.returns-in-DotLast
returns-in-DotLast c = λ inside settled newline. rw c.in-DotLast.is (c.only_names.ensures _ to_member)

pub returns-in-NameFirst : goal.returns-in-NameFirst
returns-in-NameFirst c = λ inside settled newline.
    let e = c.in-NameFirst.is in
    rw e (c.label_row.ensures (settled.no_name e) newline)

pub returns-in-MemberDue : goal.returns-in-MemberDue
returns-in-MemberDue c = λ inside settled newline. rw c.in-MemberDue.is (c.member_row.ensures _ due_member)

pub returns-in-StatementDone : goal.returns-in-StatementDone
returns-in-StatementDone c = λ inside settled newline.
    let e = c.in-StatementDone.is in
    rw (e, (settled.no_nest e).0, (settled.no_nest e).1)
    (c.goto.ensures _ _ tt to_else)

pub returns-in-CatchDone : goal.returns-in-CatchDone
unfolding start_kind
returns-in-CatchDone c = λ inside settled newline.
    let e = c.in-CatchDone.is in
    rw (e, settled.no_catch e)
    (c.goto-in-CatchDone.ensures _ _ tt to_finally_behind)
