-- A record, or the bytes of the element.
use borrow.Author.Rules.{rules}
use native.Mathlib.Omega.{arith}
use Rattle.keeping.proofs.KeepLaws.{leaf_spaced, leaf_stored, spaced_few, stored_fits}
use Rattle.keeping.proofs.Keeper.keep_leaf.Goals as goal

pub put_element-requires : goal.put_element-requires
put_element-requires c = let may = c.requires.may in
    let few = spaced_few _ _ _ _ _ _ _ c.if-self.true _ _ may in
    (omega (arith, may.some, may.within, may.short), omega (arith, may.some), may.within, omega (arith, may.within, may.short))

pub returns-then-self-clause-keeps : goal.returns-then-self-clause-keeps
returns-then-self-clause-keeps c = let p = c.put_element.ensures in
    leaf_spaced _ _ _ _ _ _ _ _ _ c.requires.may.some (search rules) _ c.if-self.true p.0 p.1

pub put-requires : goal.put-requires
put-requires c = stored_fits _ _ _ _ _ _ _ c.if-self.false c.requires

pub returns-clause-keeps : goal.returns-clause-keeps
returns-clause-keeps c = leaf_stored _ _ _ _ _ _ _ _ _ _ c.if-self.false (rw c.new-record.ensures at c.put.ensures)
