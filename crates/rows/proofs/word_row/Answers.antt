-- `word_row` is the machine's row of words, entry by entry.
use mathlib.Core.Logic.{⊎_elim}
use native.Mathlib.Omega.{arith}
use borrow.Author.Tests.{ne_eqb}
use Rattle.machine.specs.Tokens.{semicolon, var_word, do_word, while_word, for_word, continue_word, break_word, with_word, switch_word, throw_word, try_word, debugger_word}
use Rattle.controls.specs.Machinery.Numbers.{start_kind}
use Rattle.controls.specs.Machinery.Steps.{started_throw, started_jump, started_head, started_debugger, started_var, started_for, started_switch, to_start, enters_do, enters_try, means_enter, means_fail}
use Rattle.rows.proofs.word_row.Goals as goal

pub returns-in-74 : goal.returns-in-74
unfolding start_kind
returns-in-74 c = λ must other. rw c.in-74.is (c.goto.ensures _ _ tt (to_start started_var))

pub returns-in-78 : goal.returns-in-78
returns-in-78 c = λ must other. rw c.in-78.is (means_enter tt enters_do)

pub returns-in-91 : goal.returns-in-91
returns-in-91 c = λ must other. rw c.in-91.is (means_enter tt enters_try)

pub returns-in-80 : goal.returns-in-80
unfolding start_kind
returns-in-80 c = λ must other. rw c.in-80.is (c.goto-in-80.ensures _ _ tt (to_start started_for))

pub returns-in-87 : goal.returns-in-87
unfolding start_kind
returns-in-87 c = λ must other. rw c.in-87.is (c.goto-in-87.ensures _ _ tt (to_start started_switch))

pub returns-in-79 : goal.returns-in-79
unfolding start_kind
returns-in-79 c = λ must other.
    ⊎_elim
    (λ e. rw e (c.goto-in-79.ensures _ _ tt (to_start (started_head tt))))
    (λ e. rw e (c.goto-in-79.ensures _ _ tt (to_start (started_head tt))))
    c.in-79.is

pub returns-in-83 : goal.returns-in-83
unfolding start_kind
returns-in-83 c = λ must other.
    ⊎_elim
    (λ e. rw e (c.goto-in-83.ensures _ _ tt (to_start (started_jump tt))))
    (λ e. rw e (c.goto-in-83.ensures _ _ tt (to_start (started_jump tt))))
    c.in-83.is

pub returns-in-90 : goal.returns-in-90
unfolding start_kind
returns-in-90 c = λ must other. rw c.in-90.is (c.goto-in-90.ensures _ _ tt (to_start started_throw))

pub returns-in-94 : goal.returns-in-94
unfolding start_kind
returns-in-94 c = λ must other. rw c.in-94.is (c.goto-in-94.ensures _ _ tt (to_start started_debugger))

pub returns-in_default : goal.returns-in_default
returns-in_default c = λ must other.
    let class = c.args.class in
    simp (ne_eqb class semicolon other, ne_eqb class var_word (omega arith), ne_eqb class do_word (omega arith), ne_eqb class try_word (omega arith), ne_eqb class for_word (omega arith), ne_eqb class switch_word (omega arith), ne_eqb class while_word (grind arith), ne_eqb class with_word (grind arith), ne_eqb class continue_word (grind arith), ne_eqb class break_word (grind arith), ne_eqb class throw_word (omega arith), ne_eqb class debugger_word (omega arith)) means_fail
