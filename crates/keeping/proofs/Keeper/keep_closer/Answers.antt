-- The end and the number in the record, or the byte of the closer.
use borrow.Author.Rules.{rules}
use native.Mathlib.Omega.{arith}
use Rattle.keeping.proofs.KeepLaws.{closer_spaced, closer_stored, spaced_few, opener_before, few_records}
use Rattle.keeping.proofs.Keeper.keep_closer.Goals as goal

pub put_closer-requires : goal.put_closer-requires
put_closer-requires c = let may = c.requires.may in
    let few = spaced_few _ _ _ _ _ _ _ c.if-self.true _ _ may in
    (omega (arith, may.some, may.within, may.short), omega arith, may.within, omega (arith, may.within, may.short))

pub returns-then-self-clause-keeps : goal.returns-then-self-clause-keeps
returns-then-self-clause-keeps c = let p = c.put_closer.ensures in
    closer_spaced _ _ _ _ _ _ _ _ _ c.requires.may.some (search rules) _ c.if-self.true _ p.0 p.1

pub overflow_sub-number : goal.overflow_sub-number
overflow_sub-number c = let p = opener_before _ _ _ _ _ _ _ c.if-self.false _ c.requires in omega (arith, p.0)

pub overflow_cast-number : goal.overflow_cast-number
overflow_cast-number c = let may = c.requires.may in
    omega (arith, few_records _ _ _ _ _ _ _ may c.if-self.false, may.room_small)

pub finish-requires : goal.finish-requires
finish-requires c = (opener_before _ _ _ _ _ _ _ c.if-self.false _ c.requires).1

pub returns-clause-keeps : goal.returns-clause-keeps
returns-clause-keeps c = closer_stored _ _ _ _ _ _ _ _ _ _ c.if-self.false _ c.finish.ensures
