-- `equal` is `same`: the comparison of two slices goes byte for byte too.
use mathlib.Core.Path.{◌∙◌}
use Rattle.text.proofs.Laws.{same_pointwise}
use Rattle.runs.proofs.equal.Goals as goal

pub returns : goal.returns
returns c = c.eq.ensures ∙ same_pointwise _ _
