-- `exponent_end` is the end of the exponent by `exponent_length`.
use mathlib.Core.Path.{sym, ◌∙◌}
use Rattle.numbers.proofs.NumberPlaces.{exponent_no, exponent_past, exponent_short, exponent_signed, exponent_plain}
use Rattle.numbers.proofs.exponent_end.Goals as goal

pub returns-then-text-at : goal.returns-then-text-at
returns-then-text-at c = sym (exponent_past _ _ c.if-text-at.true)

pub returns-then-not-is_either : goal.returns-then-not-is_either
returns-then-not-is_either c = sym (exponent_no _ _ (sym c.is_either.ensures ∙ c.if-not-is_either.true))

pub returns-then-text-at-2 : goal.returns-then-text-at-2
returns-then-text-at-2 c = sym (exponent_short _ _ c.if-text-at-2.true)

pub returns-then-is_either : goal.returns-then-is_either
returns-then-is_either c = exponent_signed _ _ (sym c.is_either.ensures ∙ c.if-not-is_either.false) (sym c.is_either-2.ensures ∙ c.if-is_either.true) _ c.digits_or.ensures

pub returns : goal.returns
returns c = exponent_plain _ _ (sym c.is_either.ensures ∙ c.if-not-is_either.false) (sym c.is_either-2.ensures ∙ c.if-is_either.false) _ c.digits_or-2.ensures
