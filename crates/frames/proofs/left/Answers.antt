-- The number that waits in place of a kind tells the nest: a `do` waits on in its place; a `try` makes a record, and an `if` or a clause none of its own.
use mathlib.Core.Path.{sym}
use native.Mathlib.Omega.{arith}
use Rattle.controls.proofs.NumberLaws.{setting_told}
use Rattle.waiting.proofs.HoldLaws.{backed}
use Rattle.frames.proofs.ReadyLaws.{around_may, try_asks, try_held, plain_leaves, try_leaves, do_leaves}
use Rattle.frames.proofs.left.Goals as goal

pub overflow_sub-part : goal.overflow_sub-part
overflow_sub-part c = (around_may c.requires).waits

pub slice_copy_out-part : goal.slice_copy_out-part
slice_copy_out-part c = let a = around_may c.requires in omega (arith, a.fits, a.waits)

pub overflow_sub-number : goal.overflow_sub-number
overflow_sub-number c = let a = around_may c.requires in omega (arith, a.stacked, c.from-number.ensures)

pub joined-requires : goal.joined-requires
joined-requires c = let a = around_may c.requires in (a.waits, a.fits, omega arith)

pub returns-in-Do : goal.returns-in-Do
returns-in-Do c =
    do_leaves c.requires (omega (arith, c.from-number.ensures)) c.numbered-nest.ensures (setting_told c.numbered-setting.ensures) c.in-Do.is c.stand.ensures c.joined.ensures

pub popped-around-requires : goal.popped-around-requires
popped-around-requires c = let a = around_may c.requires in (a.waits, a.fits)

pub made-one-requires : goal.made-one-requires
made-one-requires c = rw (c.popped-around.ensures, c.from.ensures) (try_asks c.requires)

pub completed-requires : goal.completed-requires
completed-requires c = try_held c.from.result c.requires (rw c.popped-around.ensures at c.made-one.ensures)

pub returns-in-Try : goal.returns-in-Try
returns-in-Try c =
    try_leaves c.requires (omega (arith, c.from-number.ensures)) c.numbered-nest.ensures (setting_told c.numbered-setting.ensures) c.from.result c.in-Try.is
    c.behind_statement.ensures (sym c.from.ensures) (rw c.popped-around.ensures at c.made-one.ensures) c.completed.ensures

pub popped-around-requires-in_default : goal.popped-around-requires-in_default
popped-around-requires-in_default c = let a = around_may c.requires in (a.waits, a.fits)

pub completed-requires-in_default : goal.completed-requires-in_default
completed-requires-in_default c = rw c.popped-around-in_default.ensures (backed (around_may c.requires).carries.holds)

pub returns-in_default : goal.returns-in_default
returns-in_default c =
    plain_leaves c.requires (omega (arith, c.from-number.ensures)) c.numbered-nest.ensures (setting_told c.numbered-setting.ensures) c.in_default.not-Do c.in_default.not-Try
    c.behind_nest.ensures (rw c.popped-around-in_default.ensures at c.completed-in_default.ensures)
