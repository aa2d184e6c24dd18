-- An operand may stand alone before a closer, by the closer.
use Rattle.groups.proofs.GroupLaws.{by_either}
use Rattle.brief.specs.Machinery.Brief.{in_brackets, in_elements}
use Rattle.brief.proofs.holds_operand.Goals as goal

pub returns-in-Array : goal.returns-in-Array
returns-in-Array c = λ holds. rw c.if-closer-eq-CLOSE_BRACKET.true (by_either (λ e. rw e in_elements) (λ e. rw e in_brackets) c.in-Array.is)
