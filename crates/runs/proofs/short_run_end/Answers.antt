-- `short_run_end` is the end of the run: what is left of it starts at the place where the loop stands.
use native.Mathlib.Omega.{arith}
use mathlib.Core.Path.{refl, sym, ◌∙◌}
use Rattle.text.proofs.CodeLaws.{over_stop, over_more}
use Rattle.text.proofs.Laws.{run_past}
use Rattle.runs.proofs.short_run_end.Goals as goal

pub loop-i-init : goal.loop-i-init
loop-i-init c = (refl, omega arith)

pub returns-then-of-limit : goal.returns-then-of-limit
returns-then-of-limit c = sym (c.loop-i.invariant.0 ∙ over_stop _ _ _ (omega arith) (omega arith))

pub loop-i-preserved : goal.loop-i-preserved
loop-i-preserved c = (c.loop-i.invariant.0 ∙ over_more _ _ _ (omega arith) _ (omega arith) (omega arith), omega arith)

pub returns : goal.returns
returns c = omega (arith, c.loop-i.invariant.0 ∙ run_past _ _ _ c.loop-i-test.false)
