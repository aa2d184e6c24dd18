-- All operators behind the `?` are closed; it waits uppermost, and waits on as answered.
use mathlib.Core.Path.{sym}
use native.Mathlib.Omega.{arith}
use Rattle.groups.proofs.AskLaws.{turn_asks, turns_there}
use Rattle.groups.proofs.turned.Goals as goal

pub overflow_sub-answer : goal.overflow_sub-answer
overflow_sub-answer c = (turn_asks c.requires c.closed-answer.ensures).waits

pub bounds-waiting-answer : goal.bounds-waiting-answer
bounds-waiting-answer c = let t = turn_asks c.requires c.closed-answer.ensures in omega (arith, t.waits, t.fits)

pub overflow_sub-number : goal.overflow_sub-number
overflow_sub-number c = omega (arith, (turn_asks c.requires c.closed-answer.ensures).many.0, c.from-number.ensures)

pub joined-requires : goal.joined-requires
joined-requires c = let t = turn_asks c.requires c.closed-answer.ensures in (t.waits, t.fits, omega arith)

pub returns : goal.returns
returns c =
    turns_there c.from-number.result c.closed-answer.ensures (sym c.from-number.ensures) c.joined.ensures
    (rw (c.numbered.ensures, c.numbered-2.ensures) at c.stand.ensures)
