-- `run_end` is the end of the run: what is left of it starts at the place where the loop stands, and where fewer than four bytes are
-- left `short_run_end` finds it.
use native.Mathlib.Omega.{arith}
use mathlib.Core.Path.{sym, ◌∙◌}
use Prim.Native.Nat.{◌+◌}
use Rattle.text.proofs.CodeLaws.{over_stop, over_more}
use Rattle.runs.proofs.run_end.Goals as goal

pub returns-then-of-limit : goal.returns-then-of-limit
returns-then-of-limit c = sym (c.loop-i.invariant ∙ over_stop _ _ _ (omega arith) (omega arith))

pub returns-then-of-limit-2 : goal.returns-then-of-limit-2
returns-then-of-limit-2 c = sym (c.loop-i.invariant ∙ over_more _ _ _ (omega arith) _ (omega arith) (omega arith) ∙ over_stop _ _ _ (omega arith) (omega arith))

pub returns-then-of-limit-3 : goal.returns-then-of-limit-3
returns-then-of-limit-3 c = sym
    (c.loop-i.invariant
    ∙ over_more _ _ _ (omega arith) (c.loop-i.i + 1) (omega arith) (omega arith)
    ∙ over_more _ _ _ (omega arith) _ (omega arith) (omega arith)
    ∙ over_stop _ _ _ (omega arith) (omega arith))

pub returns-then-of-limit-4 : goal.returns-then-of-limit-4
returns-then-of-limit-4 c = sym
    (c.loop-i.invariant
    ∙ over_more _ _ _ (omega arith) (c.loop-i.i + 1) (omega arith) (omega arith)
    ∙ over_more _ _ _ (omega arith) (c.loop-i.i + 2) (omega arith) (omega arith)
    ∙ over_more _ _ _ (omega arith) _ (omega arith) (omega arith)
    ∙ over_stop _ _ _ (omega arith) (omega arith))

pub loop-i-preserved : goal.loop-i-preserved
loop-i-preserved c = c.loop-i.invariant
    ∙ over_more _ _ _ (omega arith) (c.loop-i.i + 1) (omega arith) (omega arith)
    ∙ over_more _ _ _ (omega arith) (c.loop-i.i + 2) (omega arith) (omega arith)
    ∙ over_more _ _ _ (omega arith) (c.loop-i.i + 3) (omega arith) (omega arith)
    ∙ over_more _ _ _ (omega arith) _ (omega arith) (omega arith)
