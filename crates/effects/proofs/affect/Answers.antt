-- Each effect by its law.
use native.Mathlib.Omega.{arith}
use Rattle.controls.specs.Machinery.Numbers.{start_kind}
use Rattle.effects.proofs.AffectLaws.{by_either, leaf_affects, member_affects, label_affects, word_affects, name_affects, start_asks, start_affects, value_affects, keep_affects, markless}
use Rattle.effects.proofs.affect.Goals as goal

pub wait-requires-in-StartStatement : goal.wait-requires-in-StartStatement
wait-requires-in-StartStatement c = start_asks (rw c.in-StartStatement.is at c.requires) c.start_kind.ensures

pub bare_ended-requires : goal.bare_ended-requires
bare_ended-requires c = markless (rw c.in-EndBare.is at c.requires)

pub variable_ended-requires : goal.variable_ended-requires
variable_ended-requires c = markless (rw c.in-EndVariable.is at c.requires)

pub returns-in-Keep : goal.returns-in-Keep
returns-in-Keep c = rw c.in-Keep.is (keep_affects c.args.mark)

pub returns-in-TakeLeaf : goal.returns-in-TakeLeaf
returns-in-TakeLeaf c = rw c.in-TakeLeaf.is (leaf_affects c.args.class c.args.mark c.made.ensures)

pub returns-in-TakeMember : goal.returns-in-TakeMember
returns-in-TakeMember c = rw c.in-TakeMember.is (member_affects c.args.mark c.made-in-TakeMember.ensures)

pub returns-in-TakeLabel : goal.returns-in-TakeLabel
returns-in-TakeLabel c = rw c.in-TakeLabel.is (label_affects c.args.mark c.requires.room c.wait.ensures)

pub returns-in-HoldWord : goal.returns-in-HoldWord
returns-in-HoldWord c =
    by_either
    (λ e. rw e (word_affects c.args.mark (omega (arith, c.requires.marked)) c.holding.ensures))
    (λ e. rw e (name_affects c.args.mark (omega (arith, c.requires.marked)) c.holding.ensures)) c.in-HoldWord.is

pub returns-in-StartStatement : goal.returns-in-StartStatement
returns-in-StartStatement c =
    rw c.in-StartStatement.is
    (start_affects (start_kind c.args.class) c.args.mark (omega (arith, c.requires.marked)) c.requires.room c.start_kind.ensures c.wait-in-StartStatement.ensures)

pub returns-in-EndValue : goal.returns-in-EndValue
returns-in-EndValue c = rw c.in-EndValue.is (value_affects c.args.mark c.completed.ensures)
