-- `spelling::repeat` ends. The measure is what is left to fill.
use Rattle.std.proofs.Common.{length, ◌-◌}
use Rattle.cases.proofs.spelling.repeat.Given as goal

abbrev pub decreases-loop-filled : goal.decreases-loop-filled
decreases-loop-filled l = length l.room - l.filled
