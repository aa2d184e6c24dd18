-- A record whose end is not known yet, or the byte of the opener.
use borrow.Author.Rules.{rules}
use native.Mathlib.Omega.{arith}
use Rattle.keeping.proofs.KeepLaws.{opener_spaced, opener_stored, spaced_few, stored_fits}
use Rattle.keeping.proofs.Keeper.keep_opener.Goals as goal

pub put_element-requires : goal.put_element-requires
put_element-requires c = let may = c.requires.may in
    let few = spaced_few _ _ _ _ _ _ _ c.if-self.true _ _ may in
    (omega (arith, may.some, may.within, may.short), omega arith, omega (arith, may.some, may.within), omega (arith, may.some, may.within, may.short))

pub returns-then-self-clause-keeps : goal.returns-then-self-clause-keeps
returns-then-self-clause-keeps c = let p = c.put_element.ensures in
    opener_spaced _ _ _ _ _ _ _ c.args.e _ c.requires.may.some (search rules) _ c.if-self.true c.args.kind p.0 p.1

pub put-requires : goal.put-requires
put-requires c = stored_fits _ _ _ _ _ _ _ c.if-self.false c.requires

pub returns-clause-keeps : goal.returns-clause-keeps
returns-clause-keeps c = opener_stored _ _ _ _ _ _ _ c.args.e _ _ c.if-self.false c.args.kind (rw c.new-record.ensures at c.put.ensures)
