-- The word that waits is taken back, and its record put.
use mathlib.Core.Path.{sym}
use native.Mathlib.Omega.{arith}
use Rattle.effects.proofs.AffectLaws.{bare_asks, bare_affects}
use Rattle.effects.proofs.bare_ended.Goals as goal

pub overflow_sub-top : goal.overflow_sub-top
overflow_sub-top c = (bare_asks c.requires).waits

pub overflow_sub-from : goal.overflow_sub-from
overflow_sub-from c = omega (arith, (bare_asks c.requires).some, c.from.ensures)

pub made-one-requires : goal.made-one-requires
made-one-requires c = (omega arith, omega (arith, c.requires.somewhere.stands.holds.few), rw c.from-2.ensures (bare_asks c.requires).marked)

pub completed-requires : goal.completed-requires
completed-requires c = (bare_asks c.requires).holds _ _ c.made-one.ensures

pub returns : goal.returns
returns c = bare_affects 0 c.from.result c.from-2.result (sym c.from.ensures) (sym c.from-2.ensures) c.made-one.ensures c.completed.ensures
