-- By whether the element is a delimiter.
use Rattle.turns.proofs.take_element.Goals as goal

pub take_leaf-requires : goal.take_leaf-requires
take_leaf-requires c = (_, c.requires)

pub returns-then-e-ne-DELIMITER-clause-takes : goal.returns-then-e-ne-DELIMITER-clause-takes
returns-then-e-ne-DELIMITER-clause-takes c = c.take_leaf.ensures.takes _ c.if-e-ne-DELIMITER.true

pub take_delimiter-requires : goal.take_delimiter-requires
take_delimiter-requires c = c.requires

pub returns-clause-takes : goal.returns-clause-takes
returns-clause-takes c = c.take_delimiter.ensures.takes c.if-e-ne-DELIMITER.false
