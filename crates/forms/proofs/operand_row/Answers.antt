-- `operand_row` is the machine's row where an operand is due, entry by entry.
use mathlib.Core.Path.{sym, ◌∙◌, subst}
use lib.Dec.{T}
use Rattle.controls.specs.Machinery.Numbers.{ending_by, target_by}
use Rattle.controls.specs.Machinery.Steps.{to_leaf, to_prefix}
use Rattle.forms.proofs.FormLaws.{prefix_row, no_prefix_row}
use Rattle.forms.proofs.operand_row.Goals as goal

pub returns-then-class-eq-NAME : goal.returns-then-class-eq-NAME
returns-then-class-eq-NAME c = λ from due before. rw c.if-class-eq-NAME.true (c.goto.ensures _ _ tt (to_leaf due))

pub returns-then-is_prefix : goal.returns-then-is_prefix
returns-then-is_prefix c = λ from due before.
    let a = c.args in
    let is = sym c.is_prefix.ensures ∙ c.if-is_prefix.true in
    let p = prefix_row a.class (ending_by a.at.ending a.at.setting) (target_by a.at.ending a.at.flag) is in
    rw p.0 (c.goto-then-is_prefix.ensures _ _ p.1 (to_prefix a.class (subst T (sym is) tt) due before))

pub returns : goal.returns
returns c = λ from due before.
    let a = c.args in
    let none = sym c.is_prefix.ensures ∙ c.if-is_prefix.false in
    rw (no_prefix_row a.class (ending_by a.at.ending a.at.setting) (target_by a.at.ending a.at.flag) none) (c.member_row.ensures _ due)
