-- The level by the element's class, and a record more.
use Rattle.prefix.proofs.StateLaws.{leaf_done}
use Rattle.prefix.proofs.State.with_leaf.Goals as goal

pub returns : goal.returns
returns c = λ tag stack levels h. leaf_done tag stack _ levels h _ _ c.after_leaf.ensures
