-- The code is the table's cell.
use Rattle.std.proofs.Common.{arith}
use Rattle.text.proofs.CodeLaws.{codes_at}
use Rattle.text.proofs.Codes.of.Goals as goal

pub returns : goal.returns
returns c = rw c.from.ensures (codes_at _ c.args.self.now.by_byte _ (omega arith))
