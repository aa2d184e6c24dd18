-- `handler_row` is the machine's row behind the block of a `try`.
use native.Mathlib.Omega.{arith}
use borrow.Author.Tests.{ne_eqb}
use Rattle.machine.specs.Tokens.{catch_word, finally_word}
use Rattle.controls.specs.Machinery.Numbers.{start_kind}
use Rattle.controls.specs.Machinery.Steps.{to_catch, to_finally, means_fail}
use Rattle.forms.proofs.statements.handler_row.Goals as goal

pub returns-in-92 : goal.returns-in-92
unfolding start_kind
returns-in-92 c = rw c.in-92.is (c.goto.ensures _ _ tt to_catch)

pub returns-in-93 : goal.returns-in-93
unfolding start_kind
returns-in-93 c = rw c.in-93.is (c.goto-in-93.ensures _ _ tt to_finally)

pub returns-in_default : goal.returns-in_default
returns-in_default c = let class = c.args.class in
    rw (ne_eqb class catch_word (omega arith), ne_eqb class finally_word (omega arith)) means_fail
