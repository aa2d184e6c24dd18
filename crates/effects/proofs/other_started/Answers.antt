-- What the nest has is the operand again, and waits as the first part of the `else`.
use native.Mathlib.Omega.{arith}
use Rattle.effects.proofs.AffectLaws.{else_asks, else_affects}
use Rattle.effects.proofs.other_started.Goals as goal

pub bounds-waiting-l : goal.bounds-waiting-l
bounds-waiting-l c = let b = else_asks c.requires in omega (arith, b.fits, b.waits)

pub wait-requires : goal.wait-requires
wait-requires c = (c.requires.room, omega arith, omega (arith, c.requires.marked), rw c.from.ensures (else_asks c.requires).started)

pub returns : goal.returns
returns c = else_affects c.args.mark (omega (arith, c.requires.marked)) c.requires.room (rw c.from.ensures at c.wait.ensures)

pub overflow_sub-l : goal.overflow_sub-l
overflow_sub-l c = (else_asks c.requires).waits
