-- `after_leaf` is `level_after`, by the class of the element.
use Rattle.rule.specs.Rule.{element_class}
use Rattle.leaves.proofs.after_leaf.Goals as goal

pub returns-in-6 : goal.returns-in-6
unfolding element_class
returns-in-6 c = rw c.in-6.is (c.after_sign.ensures _)

pub returns-in-13 : goal.returns-in-13
unfolding element_class
returns-in-13 c = rw c.in-13.is (c.after_answer.ensures _)
