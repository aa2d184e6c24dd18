-- A digit by its code; else the dot.
use native.Mathlib.Omega.{arith}
use Rattle.text.proofs.CodeLaws.{by_digit, coded_in, coded_out}
use Rattle.elements.proofs.starts_number.Goals as goal

pub returns-then-code-eq-DIGIT : goal.returns-then-code-eq-DIGIT
returns-then-code-eq-DIGIT c = rw (coded_in by_digit c.args.b (omega arith), c.if-code-eq-DIGIT.true)

pub returns-else-code-eq-DIGIT : goal.returns-else-code-eq-DIGIT
returns-else-code-eq-DIGIT c = rw (coded_out by_digit c.args.b (omega arith)) c.is_dot_before_digit.ensures
