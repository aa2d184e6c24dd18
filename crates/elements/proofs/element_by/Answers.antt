-- The gap first, then the element behind it.
use mathlib.Core.Path.{ap, ◌∙◌}
use Rattle.answers.proofs.AnswerLaws.{same_tells}
use Rattle.gaps.proofs.GapLaws.{handed}
use Rattle.elements.specs.Elements.{element_at, after_gap}
use Rattle.elements.proofs.element_by.Goals as goal

pub returns : goal.returns
unfolding element_at
returns c = let e = c.element_from.ensures ∙ ap (after_gap _ _) c.in_ok-gap.ensures in
    (e, same_tells e)

pub returns-in_err-gap : goal.returns-in_err-gap
unfolding element_at
returns-in_err-gap c = let e = handed _ _ c.from_residual.ensures.1 ∙ ap (after_gap _ _) c.in_err-gap.ensures in
    (e, same_tells e)
