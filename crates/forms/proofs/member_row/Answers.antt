-- `member_row` is the machine's row behind `new`, entry by entry.
use native.Mathlib.Omega.{arith}
use mathlib.Core.Path.{sym, ◌∙◌}
use Rattle.controls.specs.Machinery.Numbers.{ending_by, target_by}
use Rattle.controls.specs.Machinery.Steps.{to_leaf, to-function, to_new, past_parens, past_object, past_array, means_fail}
use Rattle.forms.proofs.FormLaws.{leaf_row, no_member}
use Rattle.forms.proofs.member_row.Goals as goal

pub returns-in-132 : goal.returns-in-132
returns-in-132 c = λ from due. rw c.in-132.is (c.push.ensures _ _ tt (past_parens due))

pub returns-in-134 : goal.returns-in-134
returns-in-134 c = λ from due. rw c.in-134.is (c.push-in-134.ensures _ _ tt (past_object due))

pub returns-in-140 : goal.returns-in-140
returns-in-140 c = λ from due. rw c.in-140.is (c.push-in-140.ensures _ _ tt (past_array due))

pub returns-in-137 : goal.returns-in-137
returns-in-137 c = λ from due. rw c.in-137.is (c.goto-in-137.ensures _ _ tt (to-function due))

pub returns-in-28 : goal.returns-in-28
returns-in-28 c = λ from due. rw c.in-28.is (c.goto-in-28.ensures _ _ tt (to_new due))

pub returns-then-is_leaf : goal.returns-then-is_leaf
returns-then-is_leaf c = λ from due.
    let a = c.args in
    let l = leaf_row a.class (ending_by a.at.ending a.at.setting) (target_by a.at.ending a.at.flag) (sym c.is_leaf.ensures ∙ c.if-is_leaf.true) in
    rw l.0 (c.goto.ensures _ _ l.1 (to_leaf due))

pub returns-in_default : goal.returns-in_default
returns-in_default c = λ from due.
    let a = c.args in
    rw (no_member a.class (ending_by a.at.ending a.at.setting) (target_by a.at.ending a.at.flag) (sym c.is_leaf.ensures ∙ c.if-is_leaf.false) (omega arith) (omega arith) (omega arith) (omega arith) (omega arith))
    means_fail
