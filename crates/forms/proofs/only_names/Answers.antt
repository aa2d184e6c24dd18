-- `only_names` is a row of two entries with one action.
use mathlib.Core.Logic.{⊎_elim}
use native.Mathlib.Omega.{arith}
use borrow.Author.Tests.{ne_eqb}
use Rattle.machine.specs.Tokens.{name, word_name}
use Rattle.controls.specs.Machinery.Steps.{means_fail}
use Rattle.forms.proofs.only_names.Goals as goal

pub returns-in-1 : goal.returns-in-1
returns-in-1 c = λ from leads.
    ⊎_elim (λ e. rw e (c.goto.ensures from name tt (rw e at leads))) (λ e. rw e (c.goto.ensures from word_name tt (rw e at leads))) c.in-1.is

pub returns-in_default : goal.returns-in_default
returns-in_default c = λ from leads. let class = c.args.class in
    rw (ne_eqb class name (grind arith), ne_eqb class word_name (grind arith)) means_fail
