-- The operators of its value are closed, and the record of the variable that waits is put.
use mathlib.Core.Path.{sym}
use native.Mathlib.Omega.{arith}
use Rattle.effects.proofs.AffectLaws.{variable_asks, variable_affects}
use Rattle.effects.proofs.variable_ended.Goals as goal

pub popped-requires : goal.popped-requires
popped-requires c = let v = variable_asks c.requires c.closed-whole.ensures in (v.waits, v.fits)

pub made-one-requires : goal.made-one-requires
made-one-requires c = let v = variable_asks c.requires c.closed-whole.ensures in rw (c.popped.ensures, c.from-mark.ensures) (v.started, v.room, v.marked)

pub returns : goal.returns
returns c = variable_affects 0 c.from-mark.result c.closed-whole.ensures (sym c.from-mark.ensures) (rw c.popped.ensures at c.made-one.ensures)

pub overflow_sub-whole : goal.overflow_sub-whole
overflow_sub-whole c = (variable_asks c.requires c.closed-whole.ensures).waits

pub bounds-waiting-whole : goal.bounds-waiting-whole
bounds-waiting-whole c = let v = variable_asks c.requires c.closed-whole.ensures in omega (arith, v.fits, v.waits)
