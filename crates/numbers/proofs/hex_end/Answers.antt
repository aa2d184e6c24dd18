-- `hex_end` is the end of a hexadecimal number by `hex_length`.
use mathlib.Core.Path.{sym, ◌∙◌}
use Rattle.numbers.proofs.NumberPlaces.{hex_other, hex_no, hex_short, hex_none, hex_some}
use Rattle.numbers.proofs.hex_end.Goals as goal

pub returns-then-text-at-ne48 : goal.returns-then-text-at-ne48
returns-then-text-at-ne48 c = sym (hex_other _ _ c.if-text-at-ne48.true)

pub returns-then-text-at : goal.returns-then-text-at
returns-then-text-at c = sym (hex_short _ _ c.if-text-at.true)

pub returns-then-not-is_either : goal.returns-then-not-is_either
returns-then-not-is_either c = sym (hex_no _ _ (sym c.is_either.ensures ∙ c.if-not-is_either.true))

pub returns-then-end-at : goal.returns-then-end-at
returns-then-end-at c = sym (hex_none _ _ c.if-text-at-ne48.false (sym c.is_either.ensures ∙ c.if-not-is_either.false) _ c.hex_digits_end-end.ensures c.if-end-at.true)

pub returns-else-end-at : goal.returns-else-end-at
returns-else-end-at c = sym (hex_some _ _ c.if-text-at-ne48.false (sym c.is_either.ensures ∙ c.if-not-is_either.false) _ c.hex_digits_end-end.ensures c.if-end-at.false)
