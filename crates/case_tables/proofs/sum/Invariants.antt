-- From turn to turn the sum is below its modulus.
use Rattle.std.proofs.Common.{◌<◌}
use Rattle.case_tables.proofs.sum.Given as goal

abbrev pub invariant-loop-cell : goal.invariant-loop-cell
invariant-loop-cell g l = l.total < 1000003
