-- Each group by its law.
use native.Mathlib.Omega.{arith}
use Rattle.machine.specs.Syntax.{block_syntax, declaration_syntax}
use Rattle.groups.proofs.GroupLaws.{
  by_either,
  parens_close,
  object_closes,
  condition_closes,
  parameter_closes,
  block_closes,
  declaration_closes,
  function_closes,
  array_closes,
  for_in_closes,
  clauses_close,
  catch_closes,
  head_closes,
  for_closes,
  test_closes,
  index_closes,
  group_held,
  valued_backed,
  for_asks,
}
use Rattle.groups.proofs.close.Goals as goal

pub called-requires : goal.called-requires
called-requires c = rw c.in-Call.is at c.requires

pub completed-requires : goal.completed-requires
completed-requires c = group_held block_syntax c.args.mark c.requires c.made-one.ensures

pub completed-requires-in-Declaration : goal.completed-requires-in-Declaration
completed-requires-in-Declaration c = group_held declaration_syntax c.args.l.held c.requires c.made-one-in-Declaration.ensures

pub joined-requires : goal.joined-requires
joined-requires c = let w = for_asks (rw c.in-ForIn.is at c.requires) in (w.waits, w.fits, omega arith)

pub completed-requires-in-Clauses : goal.completed-requires-in-Clauses
completed-requires-in-Clauses c = valued_backed c.requires

pub returns-in-Parens : goal.returns-in-Parens
returns-in-Parens c = rw c.in-Parens.is (parens_close c.args.mark c.args.count c.made.ensures)

pub returns-in-Call : goal.returns-in-Call
returns-in-Call c = rw c.in-Call.is c.called.ensures

pub returns-in-Object : goal.returns-in-Object
returns-in-Object c = rw c.in-Object.is (object_closes c.args.mark c.args.count c.made-in-Object.ensures)

pub returns-in-Condition : goal.returns-in-Condition
returns-in-Condition c = rw c.in-Condition.is (condition_closes c.args.mark c.args.count c.requires.room c.wait.ensures)

pub returns-in-Parameter : goal.returns-in-Parameter
returns-in-Parameter c =
    by_either (λ e. rw e (parameter_closes c.args.mark c.args.count))
    (by_either (λ e. rw e (catch_closes c.args.mark c.args.count)) (λ e. rw e (test_closes c.args.mark c.args.count))) c.in-Parameter.is

pub returns-in-Block : goal.returns-in-Block
returns-in-Block c = rw c.in-Block.is (block_closes c.args.mark c.args.count c.made-one.ensures c.completed.ensures)

pub returns-in-Declaration : goal.returns-in-Declaration
returns-in-Declaration c = rw c.in-Declaration.is (declaration_closes c.args.mark c.args.count c.made-one-in-Declaration.ensures c.completed-in-Declaration.ensures)

pub returns-in-Function : goal.returns-in-Function
returns-in-Function c = rw c.in-Function.is (function_closes c.args.mark c.args.count c.made-in-Function.ensures)

pub returns-in-Array : goal.returns-in-Array
returns-in-Array c = rw c.in-Array.is (array_closes c.args.mark c.args.count c.made-in-Array.ensures)

pub returns-in-ForIn : goal.returns-in-ForIn
returns-in-ForIn c = rw c.in-ForIn.is (for_in_closes c.args.mark c.args.count c.joined.ensures)

pub returns-in-Clauses : goal.returns-in-Clauses
returns-in-Clauses c = rw c.in-Clauses.is (clauses_close c.args.mark c.args.count c.completed-in-Clauses.ensures)

pub returns-in-Head : goal.returns-in-Head
returns-in-Head c = by_either (λ e. rw e (head_closes c.args.mark c.args.count)) (λ e. rw e (for_closes c.args.mark c.args.count)) c.in-Head.is

pub returns-in-Index : goal.returns-in-Index
returns-in-Index c = rw c.in-Index.is (index_closes c.args.mark c.args.count c.made-in-Index.ensures)
