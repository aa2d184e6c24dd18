-- `integer_end` is the end of the whole part by `integer_length`.
use mathlib.Core.Path.{sym, ◌∙◌}
use Rattle.numbers.proofs.NumberPlaces.{integer_zero, integer_digits}
use Rattle.numbers.proofs.integer_end.Goals as goal

pub returns-then-text-at-eq48 : goal.returns-then-text-at-eq48
returns-then-text-at-eq48 c = sym (integer_zero _ _ c.if-text-at-eq48.true)

pub returns : goal.returns
returns c = c.digits_end.ensures ∙ sym (integer_digits _ _ c.if-text-at-eq48.false)
