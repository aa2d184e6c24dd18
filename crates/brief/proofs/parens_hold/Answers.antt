-- An operand may stand alone in parentheses, by what they are.
use Rattle.groups.proofs.GroupLaws.{by_either}
use Rattle.brief.specs.Machinery.Brief.{in_parens, in_arguments}
use Rattle.brief.proofs.parens_hold.Goals as goal

pub returns-in-Parens : goal.returns-in-Parens
returns-in-Parens c = λ holds.
    by_either (λ e. rw e in_parens)
    (by_either (λ e. rw e in_arguments) (by_either (λ e. rw e in_parens) (by_either (λ e. rw e in_parens) (λ e. rw e in_parens)))) c.in-Parens.is
