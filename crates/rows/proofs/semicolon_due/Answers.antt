-- `semicolon_due` is a row of one entry.
use native.Mathlib.Omega.{arith}
use borrow.Author.Tests.{ne_eqb}
use Rattle.machine.specs.Tokens.{semicolon}
use Rattle.controls.specs.Machinery.Steps.{means_fail}
use Rattle.rows.proofs.semicolon_due.Goals as goal

pub returns-in_default : goal.returns-in_default
returns-in_default c = λ from leads. rw (ne_eqb c.args.class semicolon (omega arith)) means_fail
