-- `element_row` is the machine's row where an element is due.
use native.Mathlib.Omega.{arith}
use borrow.Author.Tests.{ne_eqb}
use Rattle.machine.specs.Tokens.{comma}
use Rattle.machine.specs.Scopes.{array_elements}
use Rattle.machine.specs.Machinery.Machine.{some_target, by_item, item_due}
use Rattle.controls.specs.Machinery.Steps.{due_item, to_hole}
use Rattle.controls.proofs.EndLaws.{besides_closers}
use Rattle.forms.proofs.FormLaws.{operand_closers}
use Rattle.forms.proofs.element_row.Goals as goal

pub returns-in-73 : goal.returns-in-73
returns-in-73 c = rw c.in-73.is (c.goto.ensures _ _ tt to_hole)

pub returns-in_default : goal.returns-in_default
returns-in_default c = let class = c.args.class in
    besides_closers (c.operand_row.ensures (item_due array_elements) due_item tt) (operand_closers (by_item array_elements) some_target class)
    (λ none. rw (ne_eqb class comma (omega arith), none.no_bracket))
