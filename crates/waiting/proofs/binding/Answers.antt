-- `binding` is the definition, test for test.
use mathlib.Core.Path.{sym}
use Rattle.waiting.proofs.OperatorLaws.{binding_nest, binding_other}
use Rattle.waiting.proofs.binding.Goals as goal

pub returns-then-kind-ge-NEST : goal.returns-then-kind-ge-NEST
returns-then-kind-ge-NEST c = sym (binding_nest c.args.kind c.if-kind-ge-NEST.true)

pub returns : goal.returns
returns c = rw (c.tightness.ensures, binding_other c.args.kind c.if-kind-ge-NEST.false)
