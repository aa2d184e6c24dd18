-- The digits, and the byte.
use Rattle.std.proofs.Common.{[], ◌∷◌}
use Rattle.writing.specs.Numbers.{decimal}
use Rattle.writing.proofs.WritingLaws.{adds_both}
use Rattle.writing.proofs.Writer.put_number.Goals as goal

pub returns-clause-adds : goal.returns-clause-adds
returns-clause-adds c = let a = c.args in
    adds_both (decimal a.number) (a.after ∷ []) c.put_decimal.ensures.adds c.put_byte.ensures.adds
