-- A digit alone; or the digits of a tenth of the number, and its last.
use Rattle.std.proofs.Common.{[], ◌∷◌, ◌/◌, ◌%◌}
use Rattle.writing.specs.Numbers.{digit_byte, decimal}
use Rattle.writing.proofs.WritingLaws.{adds_both}
use Rattle.writing.proofs.NumberLaws.{decimal_one, decimal_more}
use Rattle.writing.proofs.Writer.+put_decimal.Goals as goal
use Rattle.writing.proofs.Writer.+put_decimal.Goals.{then-number-ge10, else-number-ge10}

pub returns-clause-adds : goal.returns-clause-adds
returns-clause-adds t c = elim c.if-number-ge10.branch [
  | then-number-ge10 w ↦
      rw (decimal_more c.args.number w.if-number-ge10.true)
      (adds_both (decimal (c.args.number / 10)) (digit_byte (c.args.number % 10) ∷ []) w.put_decimal.ensures.adds (rw w.self-is at c.put_byte.ensures.adds))
  | else-number-ge10 w ↦ rw (decimal_one c.args.number w.if-number-ge10.false) (rw w.self-is at c.put_byte.ensures.adds)
]
