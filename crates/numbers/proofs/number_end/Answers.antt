-- `number_end` is the end of the number by `number_length`.
use mathlib.Core.Path.{sym, ◌∙◌}
use Rattle.numbers.proofs.NumberPlaces.{number_hex, number_decimal}
use Rattle.numbers.proofs.number_end.Goals as goal

pub returns-then-end-at : goal.returns-then-end-at
returns-then-end-at c = number_hex _ _ _ c.hex_end-end.ensures c.if-end-at.true

pub returns : goal.returns
returns c = c.decimal_end.ensures ∙ sym (number_decimal _ _ _ c.hex_end-end.ensures c.if-end-at.false)
