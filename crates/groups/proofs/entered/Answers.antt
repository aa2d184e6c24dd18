-- The head of a clause ends; the nest waits, and its word is held.
use native.Mathlib.Omega.{arith}
use Rattle.frames.proofs.NumberLaws.{nest_few, setting_few}
use Rattle.frames.proofs.ReadyLaws.{nest_enters, enter_asks}
use Rattle.groups.proofs.entered.Goals as goal

pub wait-inside-requires : goal.wait-inside-requires
wait-inside-requires c =
    let may = c.requires in
    let asks = enter_asks may c.headed-outside.ensures in
    (asks.0, omega (arith, nest_few c.args.nest, setting_few c.args.setting, c.number.ensures, c.number-2.ensures), omega (arith, may.marked), asks.1)

pub returns : goal.returns
returns c =
    let a = c.args in
    let may = c.requires in
    nest_enters a.nest a.setting a.word (omega (arith, may.marked)) may.room c.headed-outside.ensures
    (rw (c.number.ensures, c.number-2.ensures) at c.wait-inside.ensures) c.holding.ensures
