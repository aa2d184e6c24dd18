-- `only` is a row of one entry.
use mathlib.Core.Path.{refl}
use borrow.Author.Tests.{eq-eqb, ne_eqb}
use Rattle.controls.specs.Machinery.Steps.{means_fail}
use Rattle.forms.proofs.only.Goals as goal

pub returns-then-class-one : goal.returns-then-class-one
returns-then-class-one c = λ from single leads. let one = c.args.one in rw (c.if-class-one.true, eq-eqb one one refl) (c.goto.ensures from one single leads)

pub returns-else-class-one : goal.returns-else-class-one
returns-else-class-one c = λ from single leads. rw (ne_eqb c.args.class c.args.one c.if-class-one.false) means_fail
