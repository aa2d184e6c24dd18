-- `spelling::text_of` ends. The measure is what is left of the line.
use Rattle.std.proofs.Common.{length}
use Rattle.cases.proofs.spelling.text_of.Given as goal

abbrev pub decreases-loop-rest : goal.decreases-loop-rest
decreases-loop-rest l = length l.rest
