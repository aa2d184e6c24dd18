-- The byte is written where it fits, and counted in any case.
use Rattle.std.proofs.Common.{refl, ◌∙◌}
use Rattle.spacing.proofs.OverLaws.{put_in, put_out}
use Rattle.spacing.proofs.put_byte.Goals as goal
use Rattle.spacing.proofs.put_byte.Goals.{then-at-output, else-at-output}

pub returns : goal.returns
returns c = (
  refl,
  λ written old a o. elim c.if-at-output.branch [
    | then-at-output w ↦ w.output-is ∙ put_in _ written old _ _ a o w.if-at-output.true
    | else-at-output w ↦ w.output-is ∙ put_out _ written old _ _ a o w.if-at-output.false
  ],
)
