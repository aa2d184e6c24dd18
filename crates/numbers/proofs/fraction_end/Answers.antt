-- `fraction_end` is the end of the fraction by `fraction_length`.
use mathlib.Core.Path.{sym, ◌∙◌}
use Rattle.numbers.proofs.NumberPlaces.{fraction_no, fraction_past, fraction_dot}
use Rattle.numbers.proofs.fraction_end.Goals as goal

pub returns-then-text-at : goal.returns-then-text-at
returns-then-text-at c = sym (fraction_past _ _ c.if-text-at.true)

pub returns-then-text-at-ne46 : goal.returns-then-text-at-ne46
returns-then-text-at-ne46 c = sym (fraction_no _ _ c.if-text-at-ne46.true)

pub returns : goal.returns
returns c = c.digits_end.ensures ∙ sym (fraction_dot _ _ c.if-text-at-ne46.false)
