-- The innermost group, if the closer has its shape.
use mathlib.Core.Path.{sym, ◌∙◌}
use Rattle.delimiters.proofs.GroupLaws.{close_none, close_other, close_done, not_deeper}
use Rattle.delimiters.proofs.close_group.Goals as goal
use Rattle.delimiters.proofs.close_group.Goals.{then-depth-eq0-via-then-depth-eq0, then-depth-eq0-via-else-depth-eq0+then-stack-depth}

pub returns-then-depth-eq0 : goal.returns-then-depth-eq0
returns-then-depth-eq0 c = λ room tags levels h.
    elim c.then-depth-eq0.branch [
      | then-depth-eq0-via-then-depth-eq0 w ↦ close_none tags _ _ levels h room _ w.if-depth-eq0.true
      | then-depth-eq0-via-else-depth-eq0+then-stack-depth w ↦ absurd (not_deeper tags _ _ levels h w.if-stack-depth.true)
    ]

pub returns-then-not-is_closed_by : goal.returns-then-not-is_closed_by
returns-then-not-is_closed_by c = λ room tags levels h. close_other tags _ _ levels h room _ c.if-depth-eq0.false _ c.kind-kind.ensures (sym c.is_closed_by.ensures ∙ c.if-not-is_closed_by.true)

pub returns : goal.returns
returns c = λ room tags levels h. close_done tags _ c.args.state levels h room _ c.if-depth-eq0.false _ c.kind-kind.ensures (sym c.is_closed_by.ensures ∙ c.if-not-is_closed_by.false) _ c.after_group.ensures
