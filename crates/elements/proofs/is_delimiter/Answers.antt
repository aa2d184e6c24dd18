-- `is_delimiter` is `delimiter`: the six numbers stand side by side.
use native.Mathlib.Omega.{arith}
use mathlib.Core.Path.{sym}
use mathlib.Core.Bool.{true}
use borrow.Author.Tests.{ne_eqb}
use Rattle.text.specs.Runs.{same}
use Rattle.text.proofs.Range.{agree}
use Rattle.signs.specs.Signs.{longest_sign, longest_of}
use Rattle.elements.specs.Elements.{delimiter}
use Rattle.elements.proofs.is_delimiter.Goals as goal

pub returns-in-1 : goal.returns-in-1
unfolding delimiter longest_sign longest_of same
returns-in-1 c = sym (agree delimiter (λ _. true) 1 6 c.args.sign tt (omega arith) (omega arith))

pub returns-in_default : goal.returns-in_default
unfolding delimiter longest_sign longest_of same
returns-in_default c = rw (ne_eqb c.args.sign 1 (omega arith), ne_eqb c.args.sign 2 (omega arith), ne_eqb c.args.sign 3 (omega arith), ne_eqb c.args.sign 4 (omega arith), ne_eqb c.args.sign 5 (omega arith), ne_eqb c.args.sign 6 (omega arith))

pub returns-in_default-2 : goal.returns-in_default-2
unfolding delimiter longest_sign longest_of same
returns-in_default-2 c = rw (ne_eqb c.args.sign 1 (omega arith), ne_eqb c.args.sign 2 (omega arith), ne_eqb c.args.sign 3 (omega arith), ne_eqb c.args.sign 4 (omega arith), ne_eqb c.args.sign 5 (omega arith), ne_eqb c.args.sign 6 (omega arith))
