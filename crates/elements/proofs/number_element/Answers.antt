-- `number_element` is a number as it was cut.
use mathlib.Core.Path.{ap, ◌∙◌}
use Rattle.elements.specs.Elements.{literal_element}
use Rattle.elements.proofs.number_element.Goals as goal

pub number_at-requires : goal.number_at-requires
number_at-requires c = c.requires

pub returns : goal.returns
returns c = c.literal_element.ensures ∙ ap (literal_element _ _ _) c.number_at.ensures
