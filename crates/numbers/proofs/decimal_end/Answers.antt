-- `decimal_end` is the end of a decimal number by `decimal_length`: part behind part.
use Rattle.numbers.proofs.NumberPlaces.{decimal_end}
use Rattle.numbers.proofs.decimal_end.Goals as goal

pub returns : goal.returns
returns c = decimal_end _ _ _ _ _ c.integer_end-whole.ensures c.fraction_end-fraction.ensures c.exponent_end.ensures
